use Rattle.std.proofs.Common.{◌≡◌, ◌-◌, true, length, drop}
use Rattle.books.specs.Books.{BooksValue, Changed}
use Rattle.protocol.specs.Calls.{roots_fit, root_records}
use Rattle.calls.specs.Roots.{keys_value}
use Rattle.calls.proofs.starting.put_roots.Given as goal

-- what is left to put ends the whole, and fits
abbrev pub invariant-loop-place : goal.invariant-loop-place
invariant-loop-place g l =
    let A = g.A.Application.meaning in
    let mean = g.B.Books.meaning in
    ((m : BooksValue) → Changed (mean l.books) (root_records A l.place (keys_value (drop l.place l.roots))) m → Changed (mean l.initial.books) (root_records A 0 (keys_value l.roots)) m)
    × (roots_fit (mean l.books) (length l.roots - l.place) l.place (keys_value (drop l.place l.roots)) ≡ true)
    × (g.B.Books.outside l.books ≡ g.B.Books.outside l.initial.books)
