-- The two ways between rows and the bytes of slots.
use Rattle.std.specs.Prelude.{◌≡◌, ℕ, ◌^◌, ◌<◌, List, length, Some, None, Option, FitsSigned}
use Rattle.std.specs.Int.{w64}
use Rattle.format.specs.Layout.{height_len, digest_len, key_len}
use Rattle.format.specs.Identifiers.{Identifies}
pub use Rattle.format.specs.Fits.{NameFits, MessageFits}
use Rattle.format.specs.Values.{IdentifierValue, DigestValue}
use Rattle.books.specs.Values.{RecordValue, MarkValue, LoadValue, opening, sent, EntryValue}
use Rattle.slots.specs.Layout.{slot_len}
use Rattle.slots.specs.Rows.{RowValue, holds_record, holds_mark, holds_outgoing, RowKey, by_identifier, by_mark, by_name}
use Rattle.slots.specs.Bytes.{row_bytes, slot_bytes}
use Rattle.slots.specs.Reading.{row_in}

-- values that have the widths of their fields
abbrev pub VoteFits : Option DigestValue → Type 0
VoteFits None = Unit {0}
VoteFits (Some d) = length d ≡ digest_len

pub record RecordFits (c : IdentifierValue) (r : RecordValue) : Type 0 where
  pub identifier : Identifies c
  pub owner : r.chain.owner < 256 ^ key_len
  pub next : r.chain.next < 256 ^ height_len
  pub last : length r.chain.digest ≡ digest_len
  pub a : FitsSigned w64 r.chain.a
  pub b : FitsSigned w64 r.chain.b
  pub vote : VoteFits r.vote

pub record MarkFits (m : MarkValue) : Type 0 where
  pub target : Identifies m.target
  pub message : MessageFits m.message

abbrev pub LoadFits : LoadValue → Type 0
LoadFits (opening key) = key < 256 ^ key_len
LoadFits (sent code value) = FitsSigned w64 value

pub record EntryFits (e : EntryValue) : Type 0 where
  pub name : NameFits e.name
  pub target : Identifies e.row.target
  pub load : LoadFits e.row.load

abbrev pub RowFits : RowValue → Type 0
RowFits (holds_record c r) = RecordFits c r
RowFits (holds_mark m) = MarkFits m
RowFits (holds_outgoing e) = EntryFits e

abbrev pub KeyFits : RowKey → Type 0
KeyFits (by_identifier c) = Identifies c
KeyFits (by_mark m) = MarkFits m
KeyFits (by_name n) = NameFits n

-- a row's bytes fill a slot, and read as that row
abbrev pub RowsReadBack : Type 0
RowsReadBack = (v : RowValue) → RowFits v → (length (row_bytes v) ≡ slot_len) × (row_in (row_bytes v) ≡ Some v)

-- a slot that is all zeros, or exactly the bytes of the row that it reads as
abbrev pub Exact : List ℕ → Type 0
Exact s = slot_bytes (row_in s) ≡ s
