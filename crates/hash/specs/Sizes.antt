-- The sizes of SHA-256 and HMAC.
use Rattle.std.specs.Prelude.{ℕ, ◌-◌}

-- the bits of a byte and of a word
abbrev pub byte_bits : ℕ
byte_bits = 8

abbrev pub word_bits : ℕ
word_bits = 32

-- in bytes: a word, a block, a digest, and the length that ends a padded message
abbrev pub word_len : ℕ
word_len = 4

abbrev pub block_len : ℕ
block_len = 64

abbrev pub digest_len : ℕ
digest_len = 32

abbrev pub length_len : ℕ
length_len = 8

-- where that length begins in the last block
abbrev pub length_at : ℕ
length_at = block_len - length_len

-- in words: a block, and a hash value
abbrev pub block_words : ℕ
block_words = 16

abbrev pub hash_words : ℕ
hash_words = 8

-- the rounds of a compression, which are the words of a message schedule
abbrev pub round_count : ℕ
round_count = 64

-- the byte that begins the padding: the bit 1 and seven bits 0
abbrev pub first_pad : ℕ
first_pad = 0x80

-- the bytes of RFC 2104 that the key is combined with, for the inner and the outer hash
abbrev pub ipad : ℕ
ipad = 0x36

abbrev pub opad : ℕ
opad = 0x5c
