-- What the slots that are looked for begin with.
use Rattle.std.specs.Prelude.{ℕ, Bool, ◌&&◌, List, [], ◌++◌, length, ◌==◌, nat_le}
use Rattle.std.specs.Str.{bytes_eq}
use Rattle.format.specs.Bytes.{identifier_bytes, name_bytes, message_bytes}
use Rattle.format.specs.Values.{IdentifierValue}
use Rattle.books.specs.Values.{MarkValue}
use Rattle.slots.specs.Layout.{slot_len, free_byte, record_byte, minus_byte, opening_byte, message_byte, chain_at}
use Rattle.slots.specs.Kinds.{kind_byte}
use Rattle.slots.specs.Rows.{RowKey, by_identifier, by_mark, by_name}
use Rattle.slots.specs.Bytes.{sign_byte}
use Rattle.slots.specs.Reading.{kind_of, field}
use Rattle.slots.specs.Written.{contents}
use Rattle.slots.specs.declared.prefix.Prefix.{Prefix}

-- a first byte from `first` to `last`, and then these bytes
pub record PrefixValue : Type 0 where
  pub first : ℕ
  pub last : ℕ
  pub bytes : List ℕ

abbrev pub prefix : ℕ → ℕ → List ℕ → PrefixValue
prefix first last bytes = record { first = first; last = last; bytes = bytes }

abbrev pub prefix_value : Prefix → PrefixValue
prefix_value p = prefix (kind_byte p.first) (kind_byte p.last) (contents p.key)

abbrev pub begins : PrefixValue → List ℕ → Bool
begins p s =
    (length s == slot_len)
    && (nat_le p.first (kind_of s) && (nat_le (kind_of s) p.last && bytes_eq (field chain_at (length p.bytes) s) p.bytes))

-- a mark's key is its target and message, and its sign is its first byte
abbrev pub mark_key_bytes : MarkValue → List ℕ
mark_key_bytes m = identifier_bytes m.target ++ message_bytes m.message

-- of the slot that holds the row with a key
abbrev pub key_prefix : RowKey → PrefixValue
key_prefix (by_identifier c) = prefix record_byte record_byte (identifier_bytes c)
key_prefix (by_mark m) = prefix (sign_byte m.sign) (sign_byte m.sign) (mark_key_bytes m)
key_prefix (by_name n) = prefix opening_byte message_byte (name_bytes n)

-- of the slots that hold a minus mark of a chain
abbrev pub minus_prefix : IdentifierValue → PrefixValue
minus_prefix c = prefix minus_byte minus_byte (identifier_bytes c)

-- of the free slots
abbrev pub free_prefix : PrefixValue
free_prefix = prefix free_byte free_byte []
