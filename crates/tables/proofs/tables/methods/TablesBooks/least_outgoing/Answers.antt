use Rattle.std.proofs.Common.{sym, subst}
use Rattle.std.specs.Option.{option_map}
use Rattle.books.specs.Meaning.{entry_value}
use Rattle.books.specs.Order.{Least}
use Rattle.books.specs.Sides.{on}
use Rattle.books.proofs.Earliest.{earliest_least}
use Rattle.tables.specs.Held.{held}
use Rattle.tables.specs.Meaning.{tables_value}
use Rattle.tables.proofs.tables.methods.TablesBooks.least_outgoing.Goals as goal

pub returns : goal.returns
returns c =
    let t = c.args.self.now in
    subst (λ r. Least (tables_value t).rows.outgoing_at (on c.args.side) (option_map entry_value r)) (sym c.least.ensures)
    (earliest_least (held t.outgoing) t.outgoing.apart (on c.args.side))
