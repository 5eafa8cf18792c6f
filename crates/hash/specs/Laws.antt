-- Laws of the definitions of SHA-256 and HMAC.
use Rattle.std.specs.Prelude.{◌≡◌, ℕ, ◌+◌, ◌-◌, ◌*◌, ◌/◌, ◌%◌, ◌^◌, ◌<◌, ◌≤◌, cond, List, length, take, drop, replicate, codes, nat_lt, slice_index}
use Rattle.hash.specs.Sizes.{byte_bits, block_len, digest_len, length_len, length_at, hash_words, round_count}
use Rattle.hash.specs.Words.{from_bytes, to_bytes}
use Rattle.hash.specs.Sha256.{constants, initial, zero_count, padded, blocks_of, sha256_of}
use Rattle.hash.specs.Hmac.{inner_text, outer_text, hmac_of}
use Rattle.hash.specs.Primes.{primes, FirstPrimes, RootBits}

-- FIPS 180-4, section 5.1.1. The padded message begins with the message, and is whole blocks. Its zeros are the fewest that
-- leave room for the length at the end of a block, which is there in bits.
pub record PaddingLaw (message : List ℕ) : Type 0 where
  pub begins : take (length message) (padded message) ≡ message
  pub fits : (length message + 1 + zero_count (length message)) % block_len ≡ length_at
  pub below : zero_count (length message) < block_len
  pub fewest : (z : ℕ) → (length message + 1 + z) % block_len ≡ length_at → zero_count (length message) ≤ z
  pub whole : length (padded message) % block_len ≡ 0
  pub ends : byte_bits * length message < 2 ^ (byte_bits * length_len)
      → from_bytes (drop (length (padded message) - length_len) (padded message)) ≡ byte_bits * length message

-- Sections 4.2.2 and 5.3.3. The constants of the rounds are the first 32 bits of the fractional parts of the cube roots of
-- the first 64 primes, and the words of the initial hash value those of the square roots of the first eight.
pub record TableLaw : Type 0 where
  pub count : length primes ≡ round_count
  pub first : FirstPrimes primes
  pub constant : (t : ℕ) → t < round_count → RootBits 3 (slice_index primes t) (slice_index constants t)
  pub start : (i : ℕ) → i < hash_words → RootBits 2 (slice_index primes i) (slice_index initial i)

-- How many blocks are compressed for a message, and for a message under a key.
abbrev pub sha256_blocks : List ℕ → ℕ
sha256_blocks message = length (blocks_of (padded message))

abbrev pub hmac_blocks : List ℕ → List ℕ → ℕ
hmac_blocks key message =
    cond (nat_lt block_len (length key)) (sha256_blocks key) 0 + sha256_blocks (inner_text key message) + sha256_blocks (outer_text key message)

abbrev pub Sha256Cost : List ℕ → Type 0
Sha256Cost message = sha256_blocks message ≡ (length message + length_len) / block_len + 1

-- a digest under a key of at most a block takes four
abbrev pub HmacCost : List ℕ → List ℕ → Type 0
HmacCost key message = length key ≤ block_len → length message ≡ digest_len → hmac_blocks key message ≡ 4

-- NIST's examples of one block and of two
pub record Sha256Examples : Type 0 where
  pub one_block : sha256_of (codes "abc") ≡ to_bytes digest_len 0xba7816bf8f01cfea414140de5dae2223b00361a396177a9cb410ff61f20015ad
  pub two_blocks :
      sha256_of (codes "abcdbcdecdefdefgefghfghighijhijkijkljklmklmnlmnomnopnopq")
      ≡ to_bytes digest_len 0x248d6a61d20638b8e5c026930c3e6039a33ce45964ff2167f6ecedd419db06c1

-- RFC 4231's cases 2 and 6
pub record HmacExamples : Type 0 where
  pub short_key :
      hmac_of (codes "Jefe") (codes "what do ya want for nothing?")
      ≡ to_bytes digest_len 0x5bdcc146bf60754e6a042426089575c75a003f089d2739839dec58b964ec3843
  pub long_key :
      hmac_of (replicate 131 0xaa) (codes "Test Using Larger Than Block-Size Key - Hash Key First")
      ≡ to_bytes digest_len 0x60e431591ee0b67f0d8a26aacbf5b77f8e0bc6213728c5140546040f0ee37f54
