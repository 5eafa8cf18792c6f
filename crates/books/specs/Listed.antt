-- Rows in three lists, by their keys.
use Rattle.std.specs.Prelude.{Bool, not, ◌&&◌, List, is_some}
use Rattle.std.specs.Option.{option_map}
use Rattle.format.specs.Values.{IdentifierValue}
use Rattle.format.specs.Same.{same_identifier, same_name}
use Rattle.books.specs.Same.{same_mark, minus_of}
use Rattle.books.specs.Meaning.{record_key, record_value, mark_value, outgoing_key, outgoing_value}
use Rattle.books.specs.Sides.{on}
use Rattle.books.specs.Books.{Rows, Fits, BooksValue}
use Rattle.books.specs.Lists.{find, any}
use Rattle.books.specs.declared.rows.Record.{Record}
use Rattle.books.specs.declared.rows.Mark.{Mark}
use Rattle.books.specs.declared.rows.Outgoing.{Outgoing}
use Rattle.books.specs.declared.side.Side.{Side}

pub record Lists : Type 0 where
  pub records : List Record
  pub marks : List Mark
  pub outgoing : List Outgoing

abbrev pub lists : List Record → List Mark → List Outgoing → Lists
lists rs ms os = record { records = rs; marks = ms; outgoing = os }

abbrev pub rows_of : Lists → Rows
rows_of l = record {
  record_at = λ c. option_map record_value (find record_key same_identifier l.records c);
  marked = λ k. is_some (find mark_value same_mark l.marks k);
  outgoing_at = λ n. option_map outgoing_value (find outgoing_key same_name l.outgoing n);
}

abbrev pub owing_of : List Mark → IdentifierValue → Bool
owing_of ms c = any (λ k. minus_of c (mark_value k)) ms

abbrev pub blank_of : Lists → Side → Bool
blank_of l s =
    not (any (λ r. on s (record_key r)) l.records)
    && (not (any (λ k. on s (mark_value k).target) l.marks) && not (any (λ o. on s (outgoing_key o).sender) l.outgoing))

-- the books that hold these rows
abbrev pub listed : Lists → Fits → BooksValue
listed l f = record { rows = rows_of l; fits = f; owing = owing_of l.marks; blank = blank_of l }
