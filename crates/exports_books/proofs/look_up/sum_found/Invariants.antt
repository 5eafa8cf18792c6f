use Rattle.std.proofs.Common.{◌≡◌, ◌+◌, ◌-◌, ◌*◌, ◌≤◌}
use Rattle.exports_books.specs.Lookups.{sum_from}
use Rattle.exports_books.proofs.look_up.sum_found.Given as goal

-- what the lookups left over find makes the sum whole
abbrev pub invariant-loop-turn : goal.invariant-loop-turn
invariant-loop-turn g l =
    (l.sum ≤ l._turn * 4294967295)
    × (l.sum + sum_from (g.K.LookedUp.number (g.B.Books.meaning l.books).rows) l.rows l.stride l.place (l.lookups - l._turn)
    ≡ sum_from (g.K.LookedUp.number (g.B.Books.meaning l.books).rows) l.rows l.stride 0 l.lookups)
