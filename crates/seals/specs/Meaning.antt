-- What a scheme of seals means: a set of triples of a key, a digest and a seal.
use Rattle.std.specs.Prelude.{◌≡◌, ℕ, ◌≤◌, Bool, true, List, length}

-- the widest seal of any scheme
abbrev pub max_width : ℕ
max_width = 2000

-- Whether the scheme holds the key, the digest and the seal together.
abbrev pub Holds : Type 0
Holds = ℕ → List ℕ → List ℕ → Bool

-- A width is 1 to 2,000, and a seal of another length is in no set.
pub record Laws {S : Type 0} (width : ℕ) (holds : S → Holds) : Type 0 where
  pub some : 1 ≤ width
  pub few : width ≤ max_width
  pub exact : (s : S) (key : ℕ) (digest seal : List ℕ) → holds s key digest seal ≡ true → length seal ≡ width
