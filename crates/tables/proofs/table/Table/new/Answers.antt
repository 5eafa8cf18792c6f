use Rattle.std.proofs.Common.{◌≡◌, ◌-◌, ◌∙◌, arith}
use Rattle.tables.proofs.Cleared.{cleared_is}
use Rattle.tables.proofs.table.Table.new.Goals as goal

pub returns-clause-memory : goal.returns-clause-memory
returns-clause-memory g c =
    let end : c.min-end.result - 0 ≡ c.min-end.result = omega arith in
    cleared_is c.args.blank c.fill.new.self c.args.rows.now (c.min-end.result - 0) (c.fill.ensures.after (λ x. c.requires.copies x)) (end ∙ c.min-end.ensures)
