-- The laws of padding and of cost.
use Rattle.std.proofs.Common.{◌≡◌, ℕ, ◌+◌, ◌-◌, ◌*◌, ◌/◌, ◌%◌, ◌^◌, ◌≤◌, false, cond, ltb, List, [], ◌∷◌, ◌++◌, length, drop, replicate, fold, sym, refl, ap, ◌∙◌, append_assoc, arith, le-ltb}
use lib.Bits.{bit_xor}
use Rattle.std.specs.List.{flat_map}
use Rattle.std.proofs.lemmas.List.{take_at, drop_at, length-append, length-replicate, length-map}
use Rattle.hash.specs.Sizes.{byte_bits, word_len, block_len, digest_len, length_len, hash_words, first_pad, ipad, opad}
use Rattle.hash.specs.Words.{from_bytes, word_bytes}
use Rattle.hash.specs.Sha256.{constants, word_after, extended, schedule, after_round, after_rounds, compressed, hashed, initial, padding, padded, zero_count, length_field, sha256_of, blocks_of}
use Rattle.hash.specs.Hmac.{hmac_of, key_block, short_key, xor_each, inner_text, outer_text}
use Rattle.hash.specs.Laws.{PaddingLaw, Sha256Cost, HmacCost, Sha256Examples, HmacExamples, sha256_blocks}
use Rattle.hash.proofs.Lists.{length_chunked}
use Rattle.hash.proofs.Bytes.{from_to_bytes}
use Rattle.hash.proofs.Padding.{padding_length}

padded_length : (m : List ℕ) → length (padded m) ≡ block_len * ((length m + length_len) / block_len + 1)
padded_length m = length-append m (padding (length m)) ∙ omega (arith, padding_length (length m))

-- the padded message before its last eight bytes, and those
padded_split : (m : List ℕ) → padded m ≡ (m ++ first_pad ∷ replicate (zero_count (length m)) 0) ++ length_field (length m)
unfolding padding
padded_split m = sym (append_assoc m (first_pad ∷ replicate (zero_count (length m)) 0) (length_field (length m)))

last_bytes : (m : List ℕ) → drop (length (padded m) - length_len) (padded m) ≡ length_field (length m)
last_bytes m =
    let front : List ℕ = m ++ first_pad ∷ replicate (zero_count (length m)) 0 in
    let l : length (padded m) ≡ length front + length_len = ap length (padded_split m) ∙ length-append front (length_field (length m)) in
    ap (λ n. drop n (padded m)) (omega (arith, l)) ∙ ap (drop (length front)) (padded_split m) ∙ drop_at front (length_field (length m)) (length front) refl

pub padding_law : (m : List ℕ) → PaddingLaw m
padding_law m =
    record {
      begins = take_at m (padding (length m)) (length m) refl;
      fits = omega arith;
      below = omega arith;
      fewest = λ z h. omega arith;
      whole = omega (arith, padded_length m);
      ends = λ h. ap from_bytes (last_bytes m) ∙ from_to_bytes length_len ((byte_bits * length m) % 2 ^ (byte_bits * length_len)) ∙ (omega arith);
    }

pub sha256_cost : (m : List ℕ) → Sha256Cost m
sha256_cost m = length_chunked block_len (length (padded m) / block_len) (padded m) ∙ omega (arith, padded_length m)

-- a hash value has eight words after any blocks, so a digest has 32 bytes
blocks_length : (hash : List ℕ) (bs : List (List ℕ)) → length hash ≡ hash_words → length (fold compressed hash bs) ≡ hash_words
unfolding compressed
blocks_length hash [] h = h
blocks_length hash (b ∷ bs) h = blocks_length (compressed hash b) bs refl

words_length : (ws : List ℕ) → length (flat_map word_bytes ws) ≡ word_len * length ws
words_length [] = refl
words_length (w ∷ ws) = length-append (word_bytes w) (flat_map word_bytes ws) ∙ omega (arith, words_length ws)

pub sha256_length : (m : List ℕ) → length (sha256_of m) ≡ digest_len
unfolding sha256_of hashed
sha256_length m = words_length (hashed initial (padded m)) ∙ ap (λ n. word_len * n) (blocks_length initial (blocks_of (padded m)) refl)

pub hmac_length : (key m : List ℕ) → length (hmac_of key m) ≡ digest_len
unfolding hmac_of
hmac_length key m = sha256_length (outer_text key m)

-- a key of at most a block stands in it as it is
short_is : (key : List ℕ) → length key ≤ block_len → ltb block_len (length key) ≡ false
short_is key h = le-ltb block_len (length key) h

key_block_length : (key : List ℕ) → length key ≤ block_len → length (key_block key) ≡ block_len
unfolding key_block
key_block_length key h =
    let s : short_key key ≡ key = ap (λ b. cond b (sha256_of key) key) (short_is key h) in
    let z = length-replicate {A = ℕ} (block_len - length key) 0 in
    ap (λ k. length (k ++ replicate (block_len - length k) 0)) s
    ∙ length-append key (replicate (block_len - length key) 0)
    ∙ (omega arith)

-- after a block, a digest ends within the next
after_block : (pad : ℕ) (key text : List ℕ) → length key ≤ block_len → length text ≡ digest_len → sha256_blocks (xor_each pad (key_block key) ++ text) ≡ 2
after_block pad key text h e =
    let l : length (xor_each pad (key_block key) ++ text) ≡ block_len + digest_len =
    length-append (xor_each pad (key_block key)) text ∙ omega (arith, length-map (key_block key) (λ b. bit_xor b pad), key_block_length key h) in
    sha256_cost (xor_each pad (key_block key) ++ text) ∙ ap (λ n. (n + length_len) / block_len + 1) l

pub hmac_cost : (key m : List ℕ) → HmacCost key m
hmac_cost key m h e =
    let none : cond (ltb block_len (length key)) (sha256_blocks key) 0 ≡ 0 = ap (λ b. cond b (sha256_blocks key) 0) (short_is key h) in
    let inner = after_block ipad key m h e in
    let outer = after_block opad key (sha256_of (inner_text key m)) h (sha256_length (inner_text key m)) in
    omega arith

-- the definitions compute
pub sha256_examples : Sha256Examples
unfolding sha256_of hashed compressed schedule extended word_after after_rounds after_round constants padding
sha256_examples = record { one_block = refl; two_blocks = refl }

pub hmac_examples : HmacExamples
unfolding hmac_of key_block sha256_of hashed compressed schedule extended word_after after_rounds after_round constants padding
hmac_examples = record { short_key = refl; long_key = refl }
