-- The padding of a message, and the blocks that it ends.
use Rattle.std.proofs.Common.{◌≡◌, ℕ, suc, ◌+◌, ◌-◌, ◌*◌, ◌%◌, ◌^◌, ◌<◌, ◌≤◌, List, ◌∷◌, ◌++◌, length, set, replicate, sym, refl, ap, ◌∙◌, ap₂, append_assoc, arith}
use Rattle.std.proofs.lemmas.List.{append-nil, length-append, length-replicate, replicate-append-replicate, drop-replicate, drop_all, set_at, take_at}
use Rattle.hash.specs.Sizes.{block_len, length_len, length_at, first_pad}
use Rattle.hash.specs.Words.{to_bytes}
use Rattle.hash.specs.Written.{written}
use Rattle.hash.specs.Sha256.{compressed, hashed, padding, zero_count, length_field}
use Rattle.hash.proofs.Blocks.{hashed_block, hashed_last}

-- the length is taken modulo 2 ^ 64
pub padding_same : (m n : ℕ) → m % 2 ^ 64 ≡ n % 2 ^ 64 → padding m ≡ padding n
unfolding padding
padding_same m n e =
    let z : zero_count m ≡ zero_count n = omega arith in
    let b : (8 * m) % 2 ^ 64 ≡ (8 * n) % 2 ^ 64 = omega arith in
    ap₂ (λ k x. first_pad ∷ (replicate k 0 ++ to_bytes length_len x)) z b

pub padding_length : (n : ℕ) → length (padding n) ≡ zero_count n + 1 + length_len
unfolding padding
padding_length n =
    let z = length-replicate {A = ℕ} (zero_count n) 0 in
    ap suc (length-append (replicate (zero_count n) 0) (length_field n)) ∙ (omega arith)

-- the bytes that follow the whole blocks of a message, the first of the padding, and zeros to a block
abbrev pub first_block : List ℕ → List ℕ
first_block rest = rest ++ first_pad ∷ replicate (block_len - 1 - length rest) 0

-- as it is written over a block of zeros
pub first_block_is : (rest : List ℕ) → length rest < block_len → set (written (replicate block_len 0) 0 rest) (length rest) first_pad ≡ first_block rest
first_block_is rest h =
    let n : ℕ = length rest in
    let z : block_len - (0 + n) ≡ suc (block_len - 1 - n) = omega arith in
    ap (λ y. set (rest ++ y) n first_pad) (drop-replicate (0 + n) block_len 0 ∙ ap (λ j. replicate j 0) z)
    ∙ set_at rest 0 (replicate (block_len - 1 - n) 0) first_pad n refl

-- a block with the length at its end
length_written : (front back bits : List ℕ) → length front ≡ length_at → length back ≡ length_len → length bits ≡ length_len
    → written (front ++ back) length_at bits ≡ front ++ bits
length_written front back bits f b l =
    ap₂ (λ x y. x ++ (bits ++ y)) (take_at front back length_at f) (drop_all (length_at + length bits) (front ++ back) (simp length-append (omega arith)))
    ∙ ap (λ y. front ++ y) (append-nil bits)

module _ (hash rest bits : List ℕ) (count : ℕ) (e : length rest ≡ count % block_len) (f : bits ≡ length_field count) where
  zeros_length : (n : ℕ) → length (replicate {A = ℕ} n 0) ≡ n
  zeros_length n = length-replicate n 0

  -- with room for the length, the block ends the padded message
  ends_in_one : length rest < length_at → written (first_block rest) length_at bits ≡ rest ++ padding count
  unfolding padding
  ends_in_one h =
      let z : ℕ = length_at - 1 - length rest in
      let front : List ℕ = rest ++ first_pad ∷ replicate z 0 in
      let s : first_block rest ≡ front ++ replicate length_len 0 =
      ap (λ x. rest ++ first_pad ∷ x) (ap (λ k. replicate k 0) (omega arith) ∙ sym (replicate-append-replicate z length_len 0))
      ∙ sym (append_assoc rest (first_pad ∷ replicate z 0) (replicate length_len 0)) in
      let l : length front ≡ length_at = length-append rest (first_pad ∷ replicate z 0) ∙ omega (arith, zeros_length z) in
      ap (λ b. written b length_at bits) s
      ∙ length_written front (replicate length_len 0) bits l refl (ap length f)
      ∙ ap (λ y. front ++ y) f
      ∙ append_assoc rest (first_pad ∷ replicate z 0) (length_field count)
      ∙ ap (λ k. rest ++ first_pad ∷ (replicate k 0 ++ length_field count)) (omega arith)

  pub last_of_one : length rest < length_at → compressed hash (written (first_block rest) length_at bits) ≡ hashed hash (rest ++ padding count)
  last_of_one h =
      let l : length (rest ++ padding count) ≡ block_len = length-append rest (padding count) ∙ omega (arith, padding_length count) in
      ap (compressed hash) (ends_in_one h) ∙ sym (hashed_last hash (rest ++ padding count) l)

  -- else a block of zeros and the length follows
  ends_in_two : length_at ≤ length rest → first_block rest ++ (replicate length_at 0 ++ bits) ≡ rest ++ padding count
  unfolding padding
  ends_in_two h =
      let z : ℕ = block_len - 1 - length rest in
      ap (λ y. first_block rest ++ (replicate length_at 0 ++ y)) f
      ∙ append_assoc rest (first_pad ∷ replicate z 0) (replicate length_at 0 ++ length_field count)
      ∙ ap (λ x. rest ++ first_pad ∷ x)
      (sym (append_assoc (replicate z 0) (replicate length_at 0) (length_field count))
      ∙ ap (λ x. x ++ length_field count) (replicate-append-replicate z length_at 0 ∙ ap (λ k. replicate k 0) (omega arith)))

  pub last_of_two : length_at ≤ length rest
      → compressed (compressed hash (first_block rest)) (written (replicate block_len 0) length_at bits) ≡ hashed hash (rest ++ padding count)
  last_of_two h =
      let first : length (first_block rest) ≡ block_len =
      length-append rest (first_pad ∷ replicate (block_len - 1 - length rest) 0) ∙ omega (arith, zeros_length (block_len - 1 - length rest)) in
      let last : length (replicate length_at 0 ++ bits) ≡ block_len = length-append (replicate length_at 0) bits ∙ omega (arith, ap length f) in
      ap (compressed (compressed hash (first_block rest))) (length_written (replicate length_at 0) (replicate length_len 0) bits refl refl (ap length f))
      ∙ sym (hashed_last (compressed hash (first_block rest)) (replicate length_at 0 ++ bits) last)
      ∙ sym (hashed_block hash (first_block rest) (replicate length_at 0 ++ bits) first)
      ∙ ap (hashed hash) (ends_in_two h)
