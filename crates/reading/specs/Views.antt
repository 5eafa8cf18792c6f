-- A command as it lies in the frame: each operand by place and bytes.
use Rattle.std.specs.Prelude.{ℕ, ◌+◌, ◌^◌, cond, ◌&&◌, List, [], ◌∷◌, length, take, drop, Some, None, Option, ◌==◌, nat_lt}
use Rattle.std.specs.Option.{option_map}
use Rattle.format.specs.Layout.{height_len, key_len, index_len, code_len, value_len, identifier_len, open_byte, change_byte, close_byte, execute_byte, receive_byte}
use Rattle.reading.specs.Commands.{operands_len_of}
use Rattle.reading.specs.Parts.{Placed, placed}
use Rattle.reading.specs.declared.command.CommandView.{CommandView}
use Rattle.reading.specs.declared.command.CommandView.TheVariants.{Open, Change, Close, Execute, Receive}

-- a part cut, from that offset on, into parts of these lengths, one behind the other
abbrev pub cut : Placed → ℕ → List ℕ → List Placed
cut p from [] = []
cut p from (n ∷ ns) = (p.0 + from, take n (drop from p.1)) ∷ cut p (from + n) ns

-- the lengths of each command's operands, in order
abbrev pub operand_lens : ℕ → Option (List ℕ)
operand_lens byte =
    cond (byte == open_byte) (Some (identifier_len ∷ key_len ∷ []))
    (cond (byte == change_byte) (Some (key_len ∷ []))
    (cond (byte == close_byte) (Some [])
    (cond (byte == execute_byte) (Some (code_len ∷ value_len ∷ identifier_len ∷ []))
    (cond (byte == receive_byte) (Some (identifier_len ∷ height_len ∷ index_len ∷ code_len ∷ value_len ∷ [])) None))))

-- the command byte of a view, and its operands
abbrev pub view_byte : CommandView → ℕ
view_byte (Open child key) = open_byte
view_byte (Change key) = change_byte
view_byte Close = close_byte
view_byte (Execute code argument target) = execute_byte
view_byte (Receive sender height index code value) = receive_byte

abbrev pub view_operands : CommandView → List Placed
view_operands (Open child key) = placed child ∷ placed key ∷ []
view_operands (Change key) = placed key ∷ []
view_operands Close = []
view_operands (Execute code argument target) = placed code ∷ placed argument ∷ placed target ∷ []
view_operands (Receive sender height index code value) = placed sender ∷ placed height ∷ placed index ∷ placed code ∷ placed value ∷ []

-- The byte of a command and its operands, cut by their lengths. None where the byte is unknown, the operands have
-- another length, or no frame of memory has that place.
abbrev pub viewed : ℕ → Placed → Option (ℕ × List Placed)
viewed byte p =
    cond (length p.1 == operands_len_of byte && nat_lt (p.0 + length p.1) (2 ^ 64))
    (option_map (λ ns. (byte, cut p 0 ns)) (operand_lens byte))
    None

abbrev pub view_value : CommandView → ℕ × List Placed
view_value v = (view_byte v, view_operands v)
