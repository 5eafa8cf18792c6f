use Rattle.std.proofs.Common.{◌≡◌, ◌+◌, ◌*◌, ◌≤◌, drop}
use Rattle.std.specs.Option.{option_map}
use Rattle.committee.specs.Meaning.{members_value}
use Rattle.committee.specs.Weights.{weight_of, weight_from}
use Rattle.committee.proofs.weigh.Given as goal

abbrev pub invariant-loop-number : goal.invariant-loop-number
invariant-loop-number l =
    (l.least ≤ 256) × (l.sum ≤ 65535 * l.least)
    × (weight_of (members_value l.members) l.numbers ≡ option_map (λ w. l.sum + w) (weight_from (members_value l.members) l.least (drop l.number-index l.numbers)))
