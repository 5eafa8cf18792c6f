use Rattle.std.proofs.Common.{◌+◌, ◌-◌, ◌∙◌, arith}
use Rattle.exports_books.specs.Lookups.{sum_from}
use Rattle.exports_books.proofs.Steps.{one_more_found, all_found}
use Rattle.exports_books.proofs.look_up.sum_found.Goals as goal

pub loop-turn-preserved : goal.loop-turn-preserved
loop-turn-preserved g c =
    let l = c.loop-turn in
    let a = c.args in
    let found = g.K.LookedUp.number (g.B.Books.meaning a.books.now).rows in (
      omega (arith, l.invariant.0, c.find.type_inv, c.from-sum.ensures),
      (λ i. (l.sum + (c.from-sum.ensures ∙ c.find.ensures) i) + sum_from found a.rows a.stride (c.place_after-place.ensures i) (a.lookups - (l._turn + 1)))
          ∙ one_more_found found a.rows a.stride l.place l._turn a.lookups l.sum (sum_from found a.rows a.stride 0 a.lookups) c.loop-turn-test.true l.invariant.1,
    )

pub returns : goal.returns
returns g c =
    let l = c.loop-turn in
    let a = c.args in
    let found = g.K.LookedUp.number (g.B.Books.meaning a.books.now).rows in
    all_found found a.rows a.stride l.place l._turn a.lookups l.sum (sum_from found a.rows a.stride 0 a.lookups) c.loop-turn-test.false l.invariant.1
