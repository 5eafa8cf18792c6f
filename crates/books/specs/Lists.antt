-- Lists of rows that are looked for by a key.
use Rattle.std.specs.Prelude.{◌≡◌, ℕ, ◌<◌, Bool, true, false, List, length, Option, slice_index_or}
use Rattle.std.specs.List.{list_any, find as first_that}

-- whether a test holds of some row
abbrev pub any : {R : Type 0} → (R → Bool) → List R → Bool
any = list_any

module _ {R K : Type 0} (key : R → K) (same : K → K → Bool) where
  -- the first row that has the key
  abbrev pub find : List R → K → Option R
  find rs k = first_that (λ r. same (key r) k) rs

  -- no row before place n has the key
  abbrev pub Before : List R → K → ℕ → Type 0
  Before rs k n = (i : ℕ) (d : R) → i < n → same (key (slice_index_or rs i d)) k ≡ false

  abbrev pub Absent : List R → K → Type 0
  Absent rs k = Before rs k (length rs)

  -- the first row that has the key stands at place i
  pub record Present (rs : List R) (k : K) (i : ℕ) : Type 0 where
    pub within : i < length rs
    pub here : (d : R) → same (key (slice_index_or rs i d)) k ≡ true
    pub before : Before rs k i

  -- no two rows have one key
  abbrev pub Apart : List R → Type 0
  Apart rs =
      (p : (i : ℕ) × (j : ℕ) × R × (i < j) × (j < length rs))
      → same (key (slice_index_or rs p.0 p.2)) (key (slice_index_or rs p.1 p.2)) ≡ false
