-- The commands that bytes read as.
use Rattle.std.specs.Prelude.{ℕ, ◌+◌, cond, List, length, take, drop, Some, None, Option, ◌==◌, nat_le, slice_index}
use Rattle.std.specs.Option.{option_map}
use Rattle.format.specs.Layout.{code_len, value_len, command_byte_len, identifier_len, open_len, change_len, close_len, execute_len, receive_len, open_byte, change_byte, close_byte, execute_byte, receive_byte}
use Rattle.format.specs.Numbers.{from_bytes, signed_number}
use Rattle.format.specs.Values.{CommandValue, opens, changes, closes, executes, receives}
use Rattle.reading.specs.Fields.{identifier_in, message_in}

-- the operands of each command
unfoldable pub open_in : List ℕ → Option CommandValue
open_in bs =
    cond (length bs == open_len) (option_map (λ c. opens c (from_bytes (drop identifier_len bs))) (identifier_in (take identifier_len bs))) None

unfoldable pub change_in : List ℕ → Option CommandValue
change_in bs = cond (length bs == change_len) (Some (changes (from_bytes bs))) None

unfoldable pub execute_in : List ℕ → Option CommandValue
execute_in bs =
    cond (length bs == execute_len)
    (option_map (λ t. executes (slice_index bs 0) (signed_number (take value_len (drop code_len bs))) t) (identifier_in (drop (code_len + value_len) bs)))
    None

abbrev pub receive_in : List ℕ → Option CommandValue
receive_in bs = option_map receives (message_in bs)

-- by the command byte: how many bytes the operands have, and what they read as
abbrev pub operands_len_of : ℕ → ℕ
operands_len_of byte =
    cond (byte == open_byte) open_len
    (cond (byte == change_byte) change_len
    (cond (byte == close_byte) close_len
    (cond (byte == execute_byte) execute_len
    (cond (byte == receive_byte) receive_len 0))))

abbrev pub operands_in : ℕ → List ℕ → Option CommandValue
operands_in byte bs =
    cond (byte == open_byte) (open_in bs)
    (cond (byte == change_byte) (change_in bs)
    (cond (byte == close_byte) (Some closes)
    (cond (byte == execute_byte) (execute_in bs)
    (cond (byte == receive_byte) (receive_in bs) None))))

-- the command byte at the front, the operand bytes behind it, and the command that they read as
abbrev pub front_byte : List ℕ → ℕ
front_byte bs = slice_index bs 0

abbrev pub front_operands : List ℕ → List ℕ
front_operands bs = take (operands_len_of (front_byte bs)) (drop command_byte_len bs)

unfoldable pub command_in : List ℕ → Option CommandValue
command_in bs = cond (nat_le command_byte_len (length bs)) (operands_in (front_byte bs) (front_operands bs)) None

-- how many bytes the command at the front has
unfoldable pub command_len : List ℕ → ℕ
command_len bs = command_byte_len + operands_len_of (front_byte bs)
