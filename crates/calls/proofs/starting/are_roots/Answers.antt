use Rattle.std.proofs.Common.{arith}
use Rattle.std.proofs.lemmas.Bool.Decides.{nat_tests}
use Rattle.committee.specs.Meaning.{members_value}
use Rattle.calls.proofs.Roots.{some_roots}
use Rattle.calls.proofs.starting.are_roots.Goals as goal

pub returns-then-roots-le-MAX_ROOTS : goal.returns-then-roots-le-MAX_ROOTS
returns-then-roots-le-MAX_ROOTS c = some_roots (members_value c.args.members.now) c.args.roots.now _ (grind (arith, nat_tests)) c.if-roots-le-MAX_ROOTS.true.1 c.are_root_keys.ensures
