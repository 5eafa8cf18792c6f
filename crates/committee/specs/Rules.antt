-- The rules of a committee.
use Rattle.std.specs.Prelude.{ℕ, Bool, true, not, ◌&&◌, List, [], ◌∷◌, length, ◌==◌, nat_le}
use Rattle.std.specs.List.{list_any}

-- a member's key and weight; members are numbered from 0 by their places
pub record MemberValue : Type 0 where
  pub key : ℕ
  pub weight : ℕ

abbrev pub CommitteeValue : Type 0
CommitteeValue = List MemberValue

abbrev pub max_members : ℕ
max_members = 16

abbrev pub max_weight : ℕ
max_weight = 10000

-- some member has this key
abbrev pub has_key : CommitteeValue → ℕ → Bool
has_key ms k = list_any (λ m. m.key == k) ms

-- a key that is not 0, and a weight from 1 to 10,000
abbrev pub member_allowed : MemberValue → Bool
member_allowed m = not (m.key == 0) && (nat_le 1 m.weight && nat_le m.weight max_weight)

-- each member is allowed, and no later one has its key
abbrev pub members_allowed : CommitteeValue → Bool
members_allowed [] = true
members_allowed (m ∷ ms) = (member_allowed m && not (has_key ms m.key)) && members_allowed ms

-- 1 to 16 members
abbrev pub committee_allowed : CommitteeValue → Bool
committee_allowed ms = (nat_le 1 (length ms) && nat_le (length ms) max_members) && members_allowed ms
