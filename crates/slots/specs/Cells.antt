-- The meaning of books whose rows lie in cells, each of which holds a row of any kind or none.
use Rattle.std.specs.Prelude.{◌≡◌, ℕ, ◌+◌, Bool, true, false, cond, not, ◌&&◌, ◌||◌, List, [], ◌∷◌, is_some, Some, None, MatchBool, Option, nat_le, nat_lt}
use Rattle.std.specs.Option.{option_map}
use Rattle.format.specs.Values.{IdentifierValue}
use Rattle.books.specs.Same.{minus_of}
use Rattle.books.specs.Sides.{on}
use Rattle.books.specs.Lists.{any}
use Rattle.books.specs.Books.{Rows, Fits, BooksValue, updated}
use Rattle.slots.specs.Rows.{RowValue, holds_record, holds_mark, holds_outgoing, RowKey, by_identifier, by_mark, by_name, row_key, home, same_key, has_key}
use Rattle.slots.specs.Reading.{record_part, outgoing_part}

abbrev pub Cells : Type 0
Cells = List (Option RowValue)

-- the row of the first cell that holds one with the key
abbrev pub look : Cells → RowKey → Option RowValue
look [] k = None
look (o ∷ os) k = cond (has_key k o) o (look os k)

-- how many cells hold no row
abbrev pub free : Cells → ℕ
free [] = 0
free (None ∷ os) = free os + 1
free (Some v ∷ os) = free os

-- no two cells hold rows with one key
abbrev pub clashes : Option RowValue → Cells → Bool
clashes None os = false
clashes (Some v) os = any (has_key (row_key v)) os

abbrev pub apart : Cells → Bool
apart [] = true
apart (o ∷ os) = not (clashes o os) && apart os

-- a minus mark of a chain
abbrev pub minus_row : IdentifierValue → RowValue → Bool
minus_row c (holds_record d r) = false
minus_row c (holds_mark m) = minus_of c m
minus_row c (holds_outgoing e) = false

-- whether a test holds of the row that a cell holds
abbrev pub held_and : (RowValue → Bool) → Option RowValue → Bool
held_and test None = false
held_and test (Some v) = test v

abbrev pub rows_of : Cells → Rows
rows_of os = record {
  record_at = λ c. option_map (λ x. x.1) (record_part (look os (by_identifier c)));
  marked = λ m. is_some (look os (by_mark m));
  outgoing_at = λ n. option_map (λ e. e.row) (outgoing_part (look os (by_name n)));
}

-- all counts together are within the free cells
abbrev pub within_free : ℕ → Fits
within_free n c x = nat_le (x.records + x.marks + x.outgoing) n

-- the books that hold the rows of the cells
abbrev pub celled : Cells → BooksValue
celled os = record {
  rows = rows_of os;
  fits = within_free (free os);
  owing = λ c. any (held_and (minus_row c)) os;
  blank = λ s. not (any (held_and (λ v. on s (home (row_key v)))) os);
}

-- os' holds w under the key k, and what os holds under every other
abbrev pub Edited : Cells → RowKey → Option RowValue → Cells → Type 0
Edited os k w os' = (q : RowKey) → look os' q ≡ updated same_key k w (look os) q

-- whether a row went in, and the cells after
pub record Put (os : Cells) (v : RowValue) (r : Bool) (os' : Cells) : Type 0 where
  pub answer : r ≡ (is_some (look os (row_key v)) || nat_lt 0 (free os))
  pub change : MatchBool r (Edited os (row_key v) (Some v) os' × (free os ≡ free os' + cond (is_some (look os (row_key v))) 0 1)) (os' ≡ os)

pub record Removed (os : Cells) (k : RowKey) (os' : Cells) : Type 0 where
  pub rows : Edited os k None os'
  pub places : free os' ≡ free os + cond (is_some (look os k)) 1 0
