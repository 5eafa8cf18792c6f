-- Bytes as hexadecimal text.
use Rattle.std.specs.Prelude.{ℕ, ◌+◌, ◌*◌, ◌/◌, List, map, length, slice_index}
use Rattle.std.specs.Char.{digit_value}
use Rattle.std.specs.Simd.{first_chunks}

-- the byte that two digits write
abbrev pub byte_of : List ℕ → ℕ
byte_of digits = 16 * digit_value (slice_index digits 0) + digit_value (slice_index digits 1)

-- the bytes that a text writes
abbrev pub from_hex : List ℕ → List ℕ
from_hex text = map byte_of (first_chunks 2 (length text / 2) text)
