use Rattle.std.proofs.Common.{Some, sym, refl, ap, ◌∙◌}
use Rattle.format.specs.Meaning.{identifier_value}
use Rattle.books.specs.Books.{Rows}
use Rattle.books.proofs.Changes.{changed_rows}
use Rattle.protocol.specs.Calls.{made}
use Rattle.calls.proofs.Arrivals.{made_there}
use Rattle.calls.proofs.delivering.arrive.Goals as goal

pub open-requires : goal.open-requires
open-requires g c =
    let A = g.A.Application.meaning in
    let m = g.B.Books.meaning c.args.books.now in
    let m' = g.B.Books.meaning c.make_target-target.new.books in
    let t = identifier_value c.args.row.now.target in
    let did = c.make_target-target.ensures in
    let rows = changed_rows (made A t (m.rows.record_at t)) m m' did.change in
    ap (λ q. m'.rows.record_at q) did.key
    ∙ (ap (λ (w : Rows). w.record_at t) rows ∙ (made_there A m.rows t (m.rows.record_at t) refl ∙ ap Some (sym did.value)))
