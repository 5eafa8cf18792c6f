-- A row put into or removed from a list of rows with free places behind it.
use Rattle.std.specs.Prelude.{◌≡◌, ℕ, ◌+◌, Bool, cond, ◌||◌, List, is_some, Some, None, MatchBool, Option, nat_lt}
use Rattle.books.specs.Books.{updated}
use Rattle.books.specs.Lists.{find}

module _ {R K : Type 0} (key : R → K) (same : K → K → Bool) where
  -- rs' holds w under the key k, and what rs holds under every other
  abbrev pub Edited : List R → K → Option R → List R → Type 0
  Edited rs k w rs' = (q : K) → find key same rs' q ≡ updated same k w (find key same rs) q

  -- whether the row went in, and the list and its free places after
  pub record Put (rs : List R) (free : ℕ) (row : R) (r : Bool) (rs' : List R) (free' : ℕ) : Type 0 where
    pub answer : r ≡ (is_some (find key same rs (key row)) || nat_lt 0 free)
    pub change :
        MatchBool r
        (Edited rs (key row) (Some row) rs' × (free ≡ free' + cond (is_some (find key same rs (key row))) 0 1))
        ((rs' ≡ rs) × (free' ≡ free))

  pub record Removed (rs : List R) (free : ℕ) (k : K) (rs' : List R) (free' : ℕ) : Type 0 where
    pub rows : Edited rs k None rs'
    pub places : free' ≡ free + cond (is_some (find key same rs k)) 1 0
