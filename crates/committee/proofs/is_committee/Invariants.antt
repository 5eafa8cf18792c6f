use Rattle.std.proofs.Common.{◌≡◌, length}
use Rattle.committee.specs.Meaning.{members_value}
use Rattle.committee.specs.Rules.{members_allowed}
use Rattle.committee.proofs.is_committee.Given as goal

abbrev pub invariant-loop-rest : goal.invariant-loop-rest
invariant-loop-rest l = members_allowed (members_value l.members) ≡ members_allowed (members_value l.rest)

abbrev pub decreases-loop-rest : goal.decreases-loop-rest
decreases-loop-rest l = length l.rest
