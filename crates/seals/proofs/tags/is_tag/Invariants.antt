use Rattle.std.proofs.Common.{◌≡◌, eqb, length, take, Decides}
use Rattle.seals.proofs.tags.is_tag.Given as goal

abbrev pub invariant-loop-x : goal.invariant-loop-x
invariant-loop-x l = Decides (eqb l.difference 0) (take (length l.yielded) l.seal ≡ take (length l.yielded) l.tag)
