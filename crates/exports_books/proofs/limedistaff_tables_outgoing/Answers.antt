use Rattle.std.proofs.Common.{subst}
use Rattle.tables.specs.Limits.{max_rows}
use Rattle.tables.specs.Meaning.{tables_value}
use Rattle.exports_books.specs.Lookups.{Filled}
use Rattle.exports_books.specs.Rows.{opening_put}
use Rattle.exports_books.proofs.limedistaff_tables_outgoing.Goals as goal

pub returns : goal.returns
returns c =
    let full = tables_value c.fill.new.books in
    record { full = full; filled = subst (λ m. Filled opening_put m max_rows full) c.new-books.ensures.meaning c.fill.ensures; sum = c.sum_found.ensures }
