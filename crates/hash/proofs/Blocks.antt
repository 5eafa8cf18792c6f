-- The hash value after bytes, one block or several at a time.
use Rattle.std.proofs.Common.{◌≡◌, ℕ, zero, suc, ◌+◌, ◌*◌, ◌/◌, ◌≤◌, List, [], ◌++◌, length, take, drop, fold, sym, refl, ap, ◌∙◌, ap₂, append_assoc, suc-mul, arith}
use Rattle.std.specs.Simd.{first_chunks}
use Rattle.std.proofs.lemmas.List.{append-nil, take_at, drop_at, length-append, length-take-le, length-drop, take-append-drop, drop-drop}
use Rattle.hash.specs.Sizes.{block_len}
use Rattle.hash.specs.Sha256.{hashed, compressed, initial, padding, padded}

pub hashed_block : (hash b more : List ℕ) → length b ≡ block_len → hashed hash (b ++ more) ≡ hashed (compressed hash b) more
unfolding hashed
hashed_block hash b more e =
    let n : length (b ++ more) / block_len ≡ suc (length more / block_len) = simp length-append (omega arith) in
    ap (λ k. fold compressed hash (first_chunks block_len k (b ++ more))) n
    ∙ ap₂ (λ x y. fold compressed (compressed hash x) (first_chunks block_len (length more / block_len) y)) (take_at b more block_len e) (drop_at b more block_len e)

pub hashed_last : (hash b : List ℕ) → length b ≡ block_len → hashed hash b ≡ compressed hash b
unfolding hashed
hashed_last hash b e = ap (hashed hash) (sym (append-nil b)) ∙ hashed_block hash b [] e

-- the first k blocks of bytes
pub hashed_blocks : (k : ℕ) (hash bytes more : List ℕ) → k * block_len ≤ length bytes
    → hashed hash (bytes ++ more) ≡ hashed (fold compressed hash (first_chunks block_len k bytes)) (drop (k * block_len) bytes ++ more)
hashed_blocks zero hash bytes more fits = refl
hashed_blocks (suc k) hash bytes more fits =
    let b : List ℕ = take block_len bytes in
    let l : length b ≡ block_len = length-take-le block_len bytes (omega (arith, suc-mul k block_len)) in
    let s : bytes ++ more ≡ b ++ (drop block_len bytes ++ more) =
    ap (λ z. z ++ more) (sym (take-append-drop block_len bytes)) ∙ append_assoc b (drop block_len bytes) more in
    let d : drop (k * block_len) (drop block_len bytes) ≡ drop (suc k * block_len) bytes =
    drop-drop (k * block_len) block_len bytes ∙ ap (λ n. drop n bytes) (omega (arith, suc-mul k block_len)) in
    ap (hashed hash) s
    ∙ hashed_block hash b (drop block_len bytes ++ more) l
    ∙ hashed_blocks k (compressed hash b) (drop block_len bytes) more (omega (arith, suc-mul k block_len, length-drop block_len bytes))
    ∙ ap (λ z. hashed (fold compressed (compressed hash b) (first_chunks block_len k (drop block_len bytes))) (z ++ more)) d

-- a message that begins with a block
pub padded_after : (b rest : List ℕ) → length b ≡ block_len
    → hashed (compressed initial b) (rest ++ padding (block_len + length rest)) ≡ hashed initial (padded (b ++ rest))
padded_after b rest e =
    let n : block_len + length rest ≡ length (b ++ rest) = sym (length-append b rest ∙ (omega arith)) in
    sym (hashed_block initial b (rest ++ padding (block_len + length rest)) e)
    ∙ ap (hashed initial) (sym (append_assoc b rest (padding (block_len + length rest))) ∙ ap (λ k. (b ++ rest) ++ padding k) n)
