-- What the bytes of a slot read as.
use Rattle.std.specs.Prelude.{ℕ, ◌+◌, cond, not, ◌&&◌, List, length, take, drop, Some, None, Option, ◌==◌, slice_index}
use Rattle.std.specs.Option.{option_map}
use Rattle.format.specs.Layout.{height_len, digest_len, key_len, value_len, identifier_len}
use Rattle.format.specs.Numbers.{from_bytes, signed_number}
use Rattle.format.specs.Values.{IdentifierValue, DigestValue, NameValue}
use Rattle.reading.specs.Fields.{identifier_in}
use Rattle.books.specs.Values.{RecordValue, SignValue, plus, minus, MarkValue, LoadValue, opening, sent, EntryValue}
use Rattle.slots.specs.Layout.{slot_len, free_byte, record_byte, plus_byte, minus_byte, opening_byte, message_byte, voted_byte, chain_at, owner_at, next_at, last_at, a_at, b_at, vote_at, voted_at, message_at, mark_code_at, mark_value_at, target_at, load_at, sent_value_at}
use Rattle.slots.specs.Rows.{RowValue, holds_record, holds_mark, holds_outgoing}

-- n bytes from place at on
abbrev pub field : ℕ → ℕ → List ℕ → List ℕ
field at n s = take n (drop at s)

-- both values, where both are there
abbrev pub both : {A B C : Type 0} → (A → B → C) → Option A → Option B → Option C
both f None y = None
both f (Some x) None = None
both f (Some x) (Some y) = Some (f x y)

abbrev pub chain_in : List ℕ → Option IdentifierValue
chain_in s = identifier_in (field chain_at identifier_len s)

-- a name of any height and index
abbrev pub name_at : ℕ → List ℕ → Option NameValue
name_at at s =
    option_map (λ c. record { sender = c; height = from_bytes (field (at + identifier_len) height_len s); index = slice_index s (at + identifier_len + height_len) })
    (identifier_in (field at identifier_len s))

abbrev pub vote_in : List ℕ → Option DigestValue
vote_in s = cond (slice_index s vote_at == voted_byte) (Some (field voted_at digest_len s)) None

unfoldable pub record_fields : List ℕ → RecordValue
record_fields s = record {
  chain = record {
    owner = from_bytes (field owner_at key_len s);
    next = from_bytes (field next_at height_len s);
    digest = field last_at digest_len s;
    a = signed_number (field a_at value_len s);
    b = signed_number (field b_at value_len s);
  };
  vote = vote_in s;
}

abbrev pub record_in : List ℕ → Option RowValue
record_in s = option_map (λ c. holds_record c (record_fields s)) (chain_in s)

-- the mark of a target, a name and the fields behind them
abbrev pub mark_fields : SignValue → List ℕ → IdentifierValue → NameValue → MarkValue
mark_fields sign s t n = record {
  target = t;
  message = record { name = n; code = slice_index s mark_code_at; value = signed_number (field mark_value_at value_len s) };
  sign = sign;
}

abbrev pub mark_in : SignValue → List ℕ → Option RowValue
mark_in sign s = both (λ t n. holds_mark (mark_fields sign s t n)) (chain_in s) (name_at message_at s)

-- an opening's key, or a message's code and value
abbrev pub opening_in : List ℕ → LoadValue
opening_in s = opening (from_bytes (field load_at key_len s))

abbrev pub sent_in : List ℕ → LoadValue
sent_in s = sent (slice_index s load_at) (signed_number (field sent_value_at value_len s))

abbrev pub entry_in : LoadValue → List ℕ → Option EntryValue
entry_in load s =
    both (λ n t. record { name = n; row = record { target = t; load = load } }) (name_at chain_at s) (identifier_in (field target_at identifier_len s))

abbrev pub outgoing_in : LoadValue → List ℕ → Option RowValue
outgoing_in load s = option_map holds_outgoing (entry_in load s)

-- by the first byte
abbrev pub row_of_kind : ℕ → List ℕ → Option RowValue
row_of_kind kind s =
    cond (kind == record_byte) (record_in s)
    (cond (kind == plus_byte) (mark_in plus s)
    (cond (kind == minus_byte) (mark_in minus s)
    (cond (kind == opening_byte) (outgoing_in (opening_in s) s)
    (cond (kind == message_byte) (outgoing_in (sent_in s) s) None))))

abbrev pub kind_of : List ℕ → ℕ
kind_of s = slice_index s 0

-- the row that a slot holds, if it holds one
unfoldable pub row_in : List ℕ → Option RowValue
row_in s = cond (length s == slot_len) (row_of_kind (kind_of s) s) None

-- the chain that a row begins with
unfoldable pub home_in : List ℕ → Option IdentifierValue
home_in s = cond (length s == slot_len && not (kind_of s == free_byte)) (chain_in s) None

-- a row of one kind
abbrev pub record_part : Option RowValue → Option (IdentifierValue × RecordValue)
record_part None = None
record_part (Some (holds_record c r)) = Some (c, r)
record_part (Some (holds_mark m)) = None
record_part (Some (holds_outgoing e)) = None

abbrev pub outgoing_part : Option RowValue → Option EntryValue
outgoing_part None = None
outgoing_part (Some (holds_record c r)) = None
outgoing_part (Some (holds_mark m)) = None
outgoing_part (Some (holds_outgoing e)) = Some e
