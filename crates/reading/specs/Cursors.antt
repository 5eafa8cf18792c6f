-- How a cursor goes over the commands of a block.
use Rattle.std.specs.Prelude.{◌≡◌, ℕ, ◌+◌, ◌-◌, ◌^◌, ◌<◌, ◌≤◌, true, cond, ◌&&◌, List, [], length, drop, is_some, Some, None, Ok, Err, Option, Result, nat_le, nat_lt}
use Rattle.format.specs.Layout.{command_byte_len, head_len}
use Rattle.reading.specs.Commands.{front_byte, front_operands, command_in, command_len}
use Rattle.reading.specs.Parts.{placed}
use Rattle.reading.specs.declared.part.ReadFault.{ReadFault}
use Rattle.reading.specs.declared.part.ReadFault.TheVariants.{Frame, Block, Command}
use Rattle.reading.specs.declared.command.CommandPart.{CommandPart}
use Rattle.reading.specs.declared.cursor.Cursor.{Cursor}

-- the bytes left, where they begin in the frame, the place of the next command, and how many commands are left
pub record CursorValue : Type 0 where
  pub rest : List ℕ
  pub at : ℕ
  pub place : ℕ
  pub left : ℕ

abbrev pub cursor_value : Cursor → CursorValue
cursor_value c = record { rest = c.rest.now; at = c.at; place = c.place; left = c.left }

-- behind the head of a block that begins at place at of the frame, with n commands to come
abbrev pub begun : ℕ → List ℕ → ℕ → CursorValue
begun at bs n =
    cond (nat_le head_len (length bs) && nat_lt (at + length bs) (2 ^ 64))
    (record { rest = drop head_len bs; at = at + head_len; place = 0; left = n })
    (record { rest = []; at = 0; place = 0; left = 0 })

-- behind the next command
abbrev pub behind : CursorValue → CursorValue
behind v = record { rest = drop (command_len v.rest) v.rest; at = v.at + command_len v.rest; place = v.place + 1; left = v.left - 1 }

-- the command at the front, as it lies in the frame
pub record Lies (at : ℕ) (rest : List ℕ) (c : CommandPart) : Type 0 where
  pub byte : c.byte ≡ front_byte rest
  pub operands : placed c.operands ≡ (at + command_byte_len, front_operands rest)

-- the next command is handed out, and the cursor is behind it
pub record Handed (v w : CursorValue) (c : CommandPart) : Type 0 where
  pub more : 0 < v.left
  pub known : is_some (command_in v.rest) ≡ true
  pub lies : Lies v.at v.rest c
  pub on : w ≡ behind v

-- refusals, and the end, leave the cursor where it is
abbrev pub Moved : CursorValue → CursorValue → Result (Option CommandPart) ReadFault → Type 0
Moved v w (Ok (Some c)) = Handed v w c
Moved v w (Ok None) = (v.left ≡ 0) × (length v.rest ≡ 0) × (w ≡ v)
Moved v w (Err Frame) = ⊥
Moved v w (Err Block) = (v.left ≡ 0) × (0 < length v.rest) × (w ≡ v)
Moved v w (Err (Command place)) = (0 < v.left) × (place ≡ v.place) × (command_in v.rest ≡ None) × (w ≡ v)

-- the command at the front is known and keeps its rules, and this is it
pub record Whole (at : ℕ) (rest : List ℕ) (c : CommandPart) : Type 0 where
  pub known : is_some (command_in rest) ≡ true
  pub lies : Lies at rest c
  pub len : command_byte_len + length c.operands.bytes.now ≡ command_len rest
  pub fits : command_len rest ≤ length rest

abbrev pub Found : ℕ → List ℕ → Option CommandPart → Type 0
Found at rest None = command_in rest ≡ None
Found at rest (Some c) = Whole at rest c
