use Rattle.std.proofs.Common.{◌≡◌, drop, None}
use Rattle.books.specs.Meaning.{entry_value}
use Rattle.books.specs.Order.{earliest}
use Rattle.books.specs.Sides.{on}
use Rattle.books.proofs.order.least.Given as goal

abbrev pub invariant-loop-row : goal.invariant-loop-row
invariant-loop-row l =
    earliest (λ x. on l.side (entry_value x).name.sender) l.best (drop l.row-index l.rows)
    ≡ earliest (λ x. on l.side (entry_value x).name.sender) None l.rows
