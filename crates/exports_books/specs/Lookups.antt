-- Books that are filled, and lookups in them.
use Rattle.std.specs.Prelude.{◌≡◌, ℕ, zero, suc, ◌+◌, ◌%◌, Bool, []}
use Rattle.books.specs.Counts.{counts}
use Rattle.books.specs.Books.{BooksValue, Operation, Rows, Tried}
use Rattle.books.specs.Listed.{lists, listed}
use Rattle.tables.specs.Within.{within}

-- the rows of the first n places put one after another
abbrev pub Filled : (ℕ → Operation) → BooksValue → ℕ → BooksValue → Type 0
Filled put m zero m' = m' ≡ m
Filled put m (suc n) m' = (b : BooksValue) × (r : Bool) × Filled put m n b × Tried b (put n) r m'

abbrev pub place_after : ℕ → ℕ → ℕ → ℕ
place_after rows stride place = (place + stride) % rows

-- the sum of the numbers found by n lookups, the first at a place, each next one a stride further
abbrev pub sum_from : (ℕ → ℕ) → ℕ → ℕ → ℕ → ℕ → ℕ
sum_from found rows stride place zero = 0
sum_from found rows stride place (suc n) = found place + sum_from found rows stride (place_after rows stride place) n

-- what lookups answer in books that were new, and then filled with the rows of so many places
pub record LookedUp (put : ℕ → Operation) (found : Rows → ℕ → ℕ) (new : BooksValue) (rows stride lookups r : ℕ) : Type 0 where
  pub full : BooksValue
  pub filled : Filled put new rows full
  pub sum : r ≡ sum_from (found full.rows) rows stride 0 lookups

-- new tables with so many free records and outgoing rows
abbrev pub new_tables : ℕ → ℕ → BooksValue
new_tables records outgoing = listed (lists [] [] []) (within (counts records 0 outgoing))
