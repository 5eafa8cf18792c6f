-- A row of any kind, and what it is looked for by.
use Rattle.std.specs.Prelude.{Bool, false, Some, None, Option}
use Rattle.format.specs.Values.{IdentifierValue, NameValue}
use Rattle.format.specs.Same.{same_identifier, same_name}
use Rattle.books.specs.Values.{RecordValue, MarkValue, EntryValue}
use Rattle.books.specs.Same.{same_mark}

pub data RowValue : Type 0 where
  holds_record : IdentifierValue → RecordValue → RowValue
  holds_mark : MarkValue → RowValue
  holds_outgoing : EntryValue → RowValue

-- a record by its identifier, a mark by all of it, an outgoing row by its name
pub data RowKey : Type 0 where
  by_identifier : IdentifierValue → RowKey
  by_mark : MarkValue → RowKey
  by_name : NameValue → RowKey

abbrev pub row_key : RowValue → RowKey
row_key (holds_record c r) = by_identifier c
row_key (holds_mark m) = by_mark m
row_key (holds_outgoing e) = by_name e.name

-- the chain of the row with a key
abbrev pub home : RowKey → IdentifierValue
home (by_identifier c) = c
home (by_mark m) = m.target
home (by_name n) = n.sender

abbrev pub same_key : RowKey → RowKey → Bool
same_key (by_identifier c) (by_identifier d) = same_identifier c d
same_key (by_identifier c) (by_mark m) = false
same_key (by_identifier c) (by_name n) = false
same_key (by_mark m) (by_identifier d) = false
same_key (by_mark m) (by_mark k) = same_mark m k
same_key (by_mark m) (by_name n) = false
same_key (by_name n) (by_identifier d) = false
same_key (by_name n) (by_mark m) = false
same_key (by_name n) (by_name k) = same_name n k

-- whether a slot holds the row with a key
abbrev pub has_key : RowKey → Option RowValue → Bool
has_key k None = false
has_key k (Some v) = same_key (row_key v) k
