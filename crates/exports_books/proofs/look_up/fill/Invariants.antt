use Rattle.exports_books.specs.Lookups.{Filled}
use Rattle.exports_books.proofs.look_up.fill.Given as goal

abbrev pub invariant-loop-place : goal.invariant-loop-place
invariant-loop-place g l = Filled g.K.LookedUp.change (g.B.Books.meaning l.initial.books) l.place (g.B.Books.meaning l.books)
