-- The first byte of a slot, by what the slot holds.
use Rattle.std.specs.Prelude.{◌≡◌, ℕ, ◌<◌, Result, MatchResult}
use Rattle.slots.specs.Layout.{free_byte, record_byte, plus_byte, minus_byte, opening_byte, message_byte}
use Rattle.slots.specs.declared.kind.Kind.{Kind}
use Rattle.slots.specs.declared.kind.Kind.TheVariants.{Free, Record, Plus, Minus, Opening, Message}
use Rattle.slots.specs.declared.kind.UnknownKind.{UnknownKind}

abbrev pub kind_byte : Kind → ℕ
kind_byte Free = free_byte
kind_byte Record = record_byte
kind_byte Plus = plus_byte
kind_byte Minus = minus_byte
kind_byte Opening = opening_byte
kind_byte Message = message_byte

-- the kind that a byte stands for, or that it stands for none
abbrev pub Decodes : ℕ → Result Kind UnknownKind → Type 0
Decodes b r = MatchResult r (λ kind. kind_byte kind ≡ b) (λ e. (e.0 ≡ b) × (message_byte < b))
