-- The layout of a slot. Each width, place and byte has one name, the same as in the code.
use Rattle.std.specs.Prelude.{ℕ, ◌+◌}
use Rattle.format.specs.Layout.{height_len, digest_len, key_len, code_len, value_len, identifier_len, name_len, receive_len}

-- the byte that tells the row, and the byte before a voted digest
abbrev pub kind_len : ℕ
kind_len = 1

abbrev pub vote_byte_len : ℕ
vote_byte_len = 1

-- first bytes
abbrev pub free_byte : ℕ
free_byte = 0

abbrev pub record_byte : ℕ
record_byte = 1

abbrev pub plus_byte : ℕ
plus_byte = 2

abbrev pub minus_byte : ℕ
minus_byte = 3

abbrev pub opening_byte : ℕ
opening_byte = 4

abbrev pub message_byte : ℕ
message_byte = 5

-- the byte before a voted digest; where there is none, it and the digest's bytes are zero
abbrev pub voted_byte : ℕ
voted_byte = 1

-- every row begins with the identifier of its chain: a record's own, a mark's target, an outgoing row's sender
abbrev pub chain_at : ℕ
chain_at = kind_len

-- where the fields of a record stand
abbrev pub owner_at : ℕ
owner_at = chain_at + identifier_len

abbrev pub next_at : ℕ
next_at = owner_at + key_len

abbrev pub last_at : ℕ
last_at = next_at + height_len

abbrev pub a_at : ℕ
a_at = last_at + digest_len

abbrev pub b_at : ℕ
b_at = a_at + value_len

abbrev pub vote_at : ℕ
vote_at = b_at + value_len

abbrev pub voted_at : ℕ
voted_at = vote_at + vote_byte_len

-- a record fills its slot
abbrev pub slot_len : ℕ
slot_len = voted_at + digest_len

-- those of a mark: target, then the message's name, code and value
abbrev pub message_at : ℕ
message_at = chain_at + identifier_len

abbrev pub mark_code_at : ℕ
mark_code_at = message_at + name_len

abbrev pub mark_value_at : ℕ
mark_value_at = mark_code_at + code_len

-- those of an outgoing row: name, target, then an opening's key or a message's code and value
abbrev pub target_at : ℕ
target_at = chain_at + name_len

abbrev pub load_at : ℕ
load_at = target_at + identifier_len

abbrev pub sent_value_at : ℕ
sent_value_at = load_at + code_len

-- a mark's key is the longest: target and message
abbrev pub max_prefix_len : ℕ
max_prefix_len = identifier_len + receive_len
