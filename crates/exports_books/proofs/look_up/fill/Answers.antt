use Rattle.exports_books.proofs.Steps.{one_more_put}
use Rattle.exports_books.proofs.look_up.fill.Goals as goal

pub loop-place-preserved : goal.loop-place-preserved
loop-place-preserved g c = one_more_put g.K.LookedUp.change _ _ _ c.loop-place.place c.put.result c.loop-place.invariant c.put.ensures
