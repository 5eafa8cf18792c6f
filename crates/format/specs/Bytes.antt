-- The bytes of a block, by its values.
use Rattle.std.specs.Prelude.{ℕ, List, [], ◌∷◌, ◌++◌, length}
use Rattle.std.specs.List.{flat_map}
use Rattle.format.specs.Layout.{number_len, height_len, key_len, open_len, change_len, close_len, execute_len, receive_len, open_byte, change_byte, close_byte, execute_byte, receive_byte}
use Rattle.format.specs.Numbers.{to_bytes, signed_bytes}
use Rattle.format.specs.Identifiers.{padded}
use Rattle.format.specs.Values.{IdentifierValue, NameValue, MessageValue, CommandValue, opens, changes, closes, executes, receives, BlockValue}

-- the depth, then four numbers, unused ones zero
unfoldable pub identifier_bytes : IdentifierValue → List ℕ
identifier_bytes c = length c ∷ flat_map (to_bytes number_len) (padded c)

unfoldable pub name_bytes : NameValue → List ℕ
name_bytes n = identifier_bytes n.sender ++ (to_bytes height_len n.height ++ (n.index ∷ []))

unfoldable pub message_bytes : MessageValue → List ℕ
message_bytes m = name_bytes m.name ++ (m.code ∷ signed_bytes m.value)

-- the command byte, then the operands
abbrev pub command_bytes : CommandValue → List ℕ
command_bytes (opens child key) = open_byte ∷ (identifier_bytes child ++ to_bytes key_len key)
command_bytes (changes key) = change_byte ∷ to_bytes key_len key
command_bytes closes = close_byte ∷ []
command_bytes (executes code argument target) = execute_byte ∷ (code ∷ (signed_bytes argument ++ identifier_bytes target))
command_bytes (receives message) = receive_byte ∷ message_bytes message

-- how many bytes the operands of a command have
abbrev pub operands_len : CommandValue → ℕ
operands_len (opens child key) = open_len
operands_len (changes key) = change_len
operands_len closes = close_len
operands_len (executes code argument target) = execute_len
operands_len (receives message) = receive_len

-- identifier, height, previous digest, command count
unfoldable pub head_bytes : BlockValue → List ℕ
head_bytes b = identifier_bytes b.chain ++ (to_bytes height_len b.height ++ (b.previous ++ (length b.commands ∷ [])))

unfoldable pub bytes_of : BlockValue → List ℕ
bytes_of b = head_bytes b ++ flat_map command_bytes b.commands
