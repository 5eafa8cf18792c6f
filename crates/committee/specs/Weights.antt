-- The weights of a committee, and the quorum.
use Rattle.std.specs.Prelude.{◌≡◌, ℕ, ◌+◌, ◌-◌, ◌/◌, ◌<◌, true, cond, ◌&&◌, List, [], ◌∷◌, length, Some, None, Option, nat_le, nat_lt, slice_index_or}
use Rattle.std.specs.Option.{option_map}
use Rattle.committee.specs.Rules.{MemberValue, CommitteeValue, committee_allowed}

-- N, the sum of the weights
abbrev pub total_weight : CommitteeValue → ℕ
total_weight [] = 0
total_weight (m ∷ ms) = m.weight + total_weight ms

-- f, the weight that may be dishonest: (N - 1) / 3, rounded down
abbrev pub faulty_weight : CommitteeValue → ℕ
faulty_weight ms = (total_weight ms - 1) / 3

-- N - f
abbrev pub quorum_weight : CommitteeValue → ℕ
quorum_weight ms = total_weight ms - faulty_weight ms

abbrev pub faulty_of : CommitteeValue → Option ℕ
faulty_of ms = cond (committee_allowed ms) (Some (faulty_weight ms)) None

abbrev pub quorum_of : CommitteeValue → Option ℕ
quorum_of ms = cond (committee_allowed ms) (Some (quorum_weight ms)) None

-- past the end of a committee
abbrev pub nobody : MemberValue
nobody = record { key = 0; weight = 0 }

-- the weight of members by their numbers, each above the one before and in the committee; the first is at least `least`
abbrev pub weight_from : CommitteeValue → ℕ → List ℕ → Option ℕ
weight_from ms least [] = Some 0
weight_from ms least (n ∷ ns) =
    cond (nat_le least n && nat_lt n (length ms)) (option_map (λ w. (slice_index_or ms n nobody).weight + w) (weight_from ms (n + 1) ns)) None

abbrev pub weight_of : CommitteeValue → List ℕ → Option ℕ
weight_of ms ns = weight_from ms 0 ns

-- Two sets of members that both weigh a quorum share more than f: what is beyond the whole is counted twice.
abbrev pub QuorumsOverlap : Type 0
QuorumsOverlap = (ms : CommitteeValue) → committee_allowed ms ≡ true → faulty_weight ms < quorum_weight ms + quorum_weight ms - total_weight ms
