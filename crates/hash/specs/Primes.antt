-- The first primes, and the bits of their roots.
use Rattle.std.specs.Prelude.{◌≡◌, ℕ, ◌+◌, ◌-◌, ◌*◌, ◌%◌, ◌^◌, ◌<◌, ◌≤◌, List, [], ◌∷◌, length, ◌≢◌, slice_index}
use Rattle.hash.specs.Sizes.{word_bits}

abbrev pub Prime : ℕ → Type 0
Prime p = (2 ≤ p) × ((d : ℕ) → 2 ≤ d → d < p → p % d ≢ 0)

-- the list holds the first primes in order: each is prime, they ascend, and no prime up to the last is left out
pub record FirstPrimes (ps : List ℕ) : Type 0 where
  pub prime : (i : ℕ) → i < length ps → Prime (slice_index ps i)
  pub ascend : (i : ℕ) → i + 1 < length ps → slice_index ps i < slice_index ps (i + 1)
  pub all : (p : ℕ) → Prime p → p ≤ slice_index ps (length ps - 1) → (i : ℕ) × (i < length ps) × (slice_index ps i ≡ p)

unfoldable pub primes : List ℕ
primes =
    2 ∷ 3 ∷ 5 ∷ 7 ∷ 11 ∷ 13 ∷ 17 ∷ 19 ∷ 23 ∷ 29 ∷ 31 ∷ 37 ∷ 41 ∷ 43 ∷ 47 ∷ 53 ∷
    59 ∷ 61 ∷ 67 ∷ 71 ∷ 73 ∷ 79 ∷ 83 ∷ 89 ∷ 97 ∷ 101 ∷ 103 ∷ 107 ∷ 109 ∷ 113 ∷ 127 ∷ 131 ∷
    137 ∷ 139 ∷ 149 ∷ 151 ∷ 157 ∷ 163 ∷ 167 ∷ 173 ∷ 179 ∷ 181 ∷ 191 ∷ 193 ∷ 197 ∷ 199 ∷ 211 ∷ 223 ∷
    227 ∷ 229 ∷ 233 ∷ 239 ∷ 241 ∷ 251 ∷ 257 ∷ 263 ∷ 269 ∷ 271 ∷ 277 ∷ 281 ∷ 283 ∷ 293 ∷ 307 ∷ 311 ∷ []

-- The word x is the first 32 bits of the fractional part of the root of p of the degree k: with the whole part before it,
-- it is the root times 2 ^ 32, rounded down.
pub record RootBits (k p x : ℕ) : Type 0 where
  pub whole : ℕ
  pub word : x < 2 ^ word_bits
  pub at_most : (whole * 2 ^ word_bits + x) ^ k ≤ p * 2 ^ (word_bits * k)
  pub next_above : p * 2 ^ (word_bits * k) < (whole * 2 ^ word_bits + x + 1) ^ k
