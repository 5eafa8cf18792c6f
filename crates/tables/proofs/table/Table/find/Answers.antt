use Rattle.std.proofs.Common.{Some, sym, ap, ◌∙◌}
use Rattle.std.proofs.lemmas.List.{get_or-take}
use Rattle.books.proofs.Finds.{find_first, find_absent}
use Rattle.tables.specs.Held.{held, memory}
use Rattle.tables.proofs.table.Table.find.Goals as goal

pub returns-in_err-i : goal.returns-in_err-i
returns-in_err-i g c = c.from_residual.ensures ∙ sym (find_absent g.R.Keyed.named g.R.Keyed.same (held c.args.self.now) (g.R.Keyed.label c.args.key.now) c.in_err-i.ensures)

pub returns : goal.returns
returns g c =
    let t = c.args.self.now in
    let p = c.in_ok-i.ensures in
    let i = c.in_ok-i.i in
    let x = c.index-self-i.result in
    ap Some (sym (get_or-take t.count (memory t) i x p.0))
    ∙ sym (find_first g.R.Keyed.named g.R.Keyed.same (held t) (g.R.Keyed.label c.args.key.now) i x p.1.within (p.1.here x) p.1.before)
