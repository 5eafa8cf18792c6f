-- The meaning of books in three tables.
use Rattle.std.specs.Prelude.{◌≡◌, List, [], map, length, take, drop}
use Rattle.format.specs.Values.{IdentifierValue}
use Rattle.books.specs.Values.{RecordValue, MarkValue, EntryValue}
use Rattle.books.specs.Blanks.{blank_record, blank_mark, blank_entry}
use Rattle.books.specs.Meaning.{record_row, mark_value, entry_value}
use Rattle.books.specs.Counts.{Counts, counts}
use Rattle.books.specs.Books.{BooksValue, Laws}
use Rattle.books.specs.Listed.{Lists, lists, listed}
use Rattle.books.proofs.Listed.{listed_laws}
use Rattle.tables.specs.Limits.{max_rows}
use Rattle.tables.specs.Held.{memory, usable, held, room, past, cleared}
use Rattle.tables.specs.Within.{within, within_zeros, within_less, same_counts}
use Rattle.tables.specs.declared.tables.Tables.{Tables}

abbrev pub rows_held : Tables → Lists
rows_held t = lists (held t.records) (held t.marks) (held t.outgoing)

abbrev pub free_rows : Tables → Counts
free_rows t = counts (room t.records) (room t.marks) (room t.outgoing)

-- the rows held, and each count within the free rows of its table
abbrev pub tables_value : Tables → BooksValue
tables_value t = listed (rows_held t) (within (free_rows t))

pub tables_laws : (t : Tables) → Laws (tables_value t)
tables_laws t =
    listed_laws (rows_held t) (within (free_rows t)) (within_zeros (free_rows t))
    (λ c x y. within_less (free_rows t) (free_rows t) (same_counts (free_rows t)) c x y)

-- the rows past the limits of the three slices
abbrev pub rows_past : Tables → Lists
rows_past t = lists (past t.records) (past t.marks) (past t.outgoing)

-- the three slices as they lie in memory
abbrev pub slices : Tables → Lists
slices t = lists (memory t.records) (memory t.marks) (memory t.outgoing)

-- the values of rows in memory
pub record MemoryValue : Type 0 where
  pub records : List (IdentifierValue × RecordValue)
  pub marks : List MarkValue
  pub outgoing : List EntryValue

abbrev pub memory_value : Lists → MemoryValue
memory_value l = record { records = map record_row l.records; marks = map mark_value l.marks; outgoing = map entry_value l.outgoing }

-- blank rows up to the limits, and past them what was there
abbrev pub cleared_value : MemoryValue → MemoryValue
cleared_value m = record {
  records = cleared blank_record m.records;
  marks = cleared blank_mark m.marks;
  outgoing = cleared blank_entry m.outgoing;
}

-- no row, in slices of which these rows are used
abbrev pub no_rows : Lists → BooksValue
no_rows l = listed (lists [] [] []) (within (counts (usable l.records) (usable l.marks) (usable l.outgoing)))

-- The slices begin with the rows that are held. Past the limits they hold what was there.
pub record GivenBack (t : Tables) (l : Lists) : Type 0 where
  pub whole : l ≡ slices t
  pub held_rows :
      lists (take (length (rows_held t).records) l.records) (take (length (rows_held t).marks) l.marks) (take (length (rows_held t).outgoing) l.outgoing)
      ≡ rows_held t
  pub past_rows : lists (drop max_rows l.records) (drop max_rows l.marks) (drop max_rows l.outgoing) ≡ rows_past t
