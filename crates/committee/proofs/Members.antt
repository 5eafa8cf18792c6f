-- One member more of the tests on a committee.
use Rattle.std.proofs.Common.{◌≡◌, ℕ, ◌||◌, ◌==◌, List, refl}
use Rattle.std.specs.List.{list_any}
use Rattle.std.proofs.lemmas.List.Recursion.{same_from_clauses}
use Rattle.committee.specs.Rules.{has_key}
use Rattle.committee.specs.Meaning.{members_value}
use Rattle.committee.specs.declared.Member.{Member}

abbrev pub no_one : Member
no_one = record { key = record { 0 = 0 }; weight = 0 }

pub has_key_of : (ms : List Member) (k : ℕ) → has_key (members_value ms) k ≡ list_any (λ m. m.key.0 == k) ms
has_key_of ms k = same_from_clauses (λ ms. has_key (members_value ms) k) (list_any (λ m. m.key.0 == k)) (λ m b. (m.key.0 == k) || b) refl (λ _ _. refl) (λ _ _. refl) ms
