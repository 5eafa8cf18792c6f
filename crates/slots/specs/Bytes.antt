-- The bytes of a slot, by what it holds.
use Rattle.std.specs.Prelude.{ℕ, ◌-◌, List, ◌∷◌, ◌++◌, length, replicate, Some, None, Option}
use Rattle.format.specs.Layout.{height_len, digest_len, key_len}
use Rattle.format.specs.Numbers.{to_bytes, signed_bytes}
use Rattle.format.specs.Bytes.{identifier_bytes, name_bytes, message_bytes}
use Rattle.format.specs.Values.{IdentifierValue, DigestValue}
use Rattle.books.specs.Values.{RecordValue, SignValue, plus, minus, MarkValue, LoadValue, opening, sent, EntryValue}
use Rattle.slots.specs.Layout.{slot_len, vote_byte_len, record_byte, plus_byte, minus_byte, opening_byte, message_byte, voted_byte}
use Rattle.slots.specs.Rows.{RowValue, holds_record, holds_mark, holds_outgoing}

-- a byte 1 before the voted digest, or zeros for none
abbrev pub vote_bytes : Option DigestValue → List ℕ
vote_bytes None = replicate vote_byte_len 0 ++ replicate digest_len 0
vote_bytes (Some d) = voted_byte ∷ d

abbrev pub sign_byte : SignValue → ℕ
sign_byte plus = plus_byte
sign_byte minus = minus_byte

abbrev pub load_byte : LoadValue → ℕ
load_byte (opening key) = opening_byte
load_byte (sent code value) = message_byte

abbrev pub load_bytes : LoadValue → List ℕ
load_bytes (opening key) = to_bytes key_len key
load_bytes (sent code value) = code ∷ signed_bytes value

-- identifier, owner, next height, last digest, a, b, vote
unfoldable pub record_bytes : IdentifierValue → RecordValue → List ℕ
record_bytes c r =
    record_byte ∷ (identifier_bytes c
    ++ (to_bytes key_len r.chain.owner
    ++ (to_bytes height_len r.chain.next
    ++ (r.chain.digest
    ++ (signed_bytes r.chain.a
    ++ (signed_bytes r.chain.b
    ++ vote_bytes r.vote))))))

-- target, message
unfoldable pub mark_bytes : MarkValue → List ℕ
mark_bytes m = sign_byte m.sign ∷ (identifier_bytes m.target ++ message_bytes m.message)

-- name, target, then an opening's key or a message's code and value
unfoldable pub outgoing_bytes : EntryValue → List ℕ
outgoing_bytes e = load_byte e.row.load ∷ (name_bytes e.name ++ (identifier_bytes e.row.target ++ load_bytes e.row.load))

-- zeros to the slot's end
abbrev pub filled : List ℕ → List ℕ
filled bs = bs ++ replicate (slot_len - length bs) 0

abbrev pub row_bytes : RowValue → List ℕ
row_bytes (holds_record c r) = filled (record_bytes c r)
row_bytes (holds_mark m) = filled (mark_bytes m)
row_bytes (holds_outgoing e) = filled (outgoing_bytes e)

-- a free slot is all zeros
abbrev pub slot_bytes : Option RowValue → List ℕ
slot_bytes None = replicate slot_len 0
slot_bytes (Some v) = row_bytes v
