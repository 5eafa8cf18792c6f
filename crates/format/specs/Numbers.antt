-- Numbers in bytes: big-endian, signed ones in two's complement.
use Rattle.std.specs.Prelude.{ℕ, List, ℤ}
use Rattle.std.specs.Int.{w64}
use Rattle.std.proofs.Common.{of_z, to_z}
pub use Rattle.hash.specs.Words.{to_bytes, from_bytes}
use Rattle.format.specs.Layout.{value_len}

abbrev pub signed_bytes : ℤ → List ℕ
signed_bytes z = to_bytes value_len (of_z w64 z)

abbrev pub signed_number : List ℕ → ℤ
signed_number bytes = to_z w64 (from_bytes bytes)
