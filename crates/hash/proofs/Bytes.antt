-- Numbers and their bytes, the highest first.
use Rattle.std.proofs.Common.{◌≡◌, ℕ, zero, suc, ◌+◌, ◌*◌, ◌/◌, ◌%◌, ◌^◌, ◌<◌, List, [], ◌∷◌, ◌++◌, length, get_or, take, sym, ap, ◌∙◌, arith}
use native.Mathlib.Nat.{div-div-eq-div-mul}
use Rattle.std.specs.List.{flat_map}
use Rattle.std.proofs.lemmas.List.{take_more, flat_map_more}
use Rattle.std.proofs.lemmas.Int.Digits.{number_push}
use Rattle.std.proofs.lemmas.Nat.{mod-pow-add}
use Rattle.hash.specs.Sizes.{byte_bits, word_len, length_len}
use Rattle.hash.specs.Words.{from_bytes, to_bytes, word_bytes}
use Rattle.hash.proofs.Lists.{written_out}

-- the word of four bytes as `from_be_bytes` has it
pub word_from_bytes : (bytes : List ℕ) → length bytes ≡ word_len
    → get_or bytes 0 0 * 16777216 + get_or bytes 1 0 * 65536 + get_or bytes 2 0 * 256 + get_or bytes 3 0 ≡ from_bytes bytes
word_from_bytes bytes e =
    let l : from_bytes bytes ≡ ((get_or bytes 0 0 * 256 + get_or bytes 1 0) * 256 + get_or bytes 2 0) * 256 + get_or bytes 3 0 =
    ap from_bytes (written_out bytes word_len e) ∙ (omega arith) in
    omega arith

-- the bytes of a word and of a length as `to_be_bytes` has them
pub word_to_bytes : (x : ℕ) → (x / 16777216 % 256) ∷ (x / 65536 % 256) ∷ (x / 256 % 256) ∷ (x % 256) ∷ [] ≡ word_bytes x
word_to_bytes x = simp div-div-eq-div-mul

pub length_to_bytes : (x : ℕ)
    → (x / 72057594037927936 % 256) ∷ (x / 281474976710656 % 256) ∷ (x / 1099511627776 % 256) ∷ (x / 4294967296 % 256)
    ∷ (x / 16777216 % 256) ∷ (x / 65536 % 256) ∷ (x / 256 % 256) ∷ (x % 256) ∷ []
    ≡ to_bytes length_len x
length_to_bytes x = simp div-div-eq-div-mul

-- the bytes of a number give it back, modulo what they hold
pub from_to_bytes : (n x : ℕ) → from_bytes (to_bytes n x) ≡ x % 2 ^ (byte_bits * n)
from_to_bytes zero x = omega arith
from_to_bytes (suc n) x =
    number_push 256 (to_bytes n (x / 256)) (x % 256)
    ∙ ap (λ y. y * 256 + x % 256) (from_to_bytes n (x / 256))
    ∙ sym (mod-pow-add x (byte_bits * n) byte_bits)
    ∙ ap (λ k. x % 2 ^ k) (omega arith)
