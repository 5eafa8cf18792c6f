-- What a hasher has read.
use Rattle.std.specs.Prelude.{◌≡◌, ℕ, ◌%◌, ◌^◌, List, ◌++◌, length, take}
use Rattle.hash.specs.Sizes.{block_len}
use Rattle.hash.specs.Sha256.{hashed, initial}
use Rattle.hash.specs.declared.hasher.Hasher.{Hasher}

-- The hasher has read the bytes m: it counts them, and whatever follows, to go on from its hash value with its pending
-- bytes gives what to begin anew with m gives.
pub record HasRead (h : Hasher) (m : List ℕ) : Type 0 where
  pub counts : h.count ≡ length m % 2 ^ 64
  pub goes : (more : List ℕ) → hashed h.hash (take (h.count % block_len) h.buffer ++ more) ≡ hashed initial (m ++ more)
