use Rattle.std.proofs.Common.{◌≡◌, ℕ, ◌+◌, ◌-◌, cond, List, ◌++◌, length, replicate, sym, ap, ◌∙◌, arith, le-ltb, lt-ltb}
use Rattle.std.proofs.lemmas.List.{drop-replicate}
use Rattle.hash.specs.Sizes.{block_len}
use Rattle.hash.specs.Written.{written}
use Rattle.hash.specs.Sha256.{sha256_of}
use Rattle.hash.specs.Hmac.{key_block, short_key}
use Rattle.hash.proofs.keyed.key_block.Goals as goal

-- bytes that are written over a block of zeros
filled : (bytes : List ℕ) → written (replicate block_len 0) 0 bytes ≡ bytes ++ replicate (block_len - length bytes) 0
filled bytes = ap (λ z. bytes ++ z) (drop-replicate (0 + length bytes) block_len 0 ∙ ap (λ k. replicate k 0) (omega arith))

block_of : (key short : List ℕ) → short ≡ short_key key → written (replicate block_len 0) 0 short ≡ key_block key
unfolding key_block
block_of key short e = filled short ∙ ap (λ k. k ++ replicate (block_len - length k) 0) e

pub returns-then-key-gt-BLOCK_LEN : goal.returns-then-key-gt-BLOCK_LEN
returns-then-key-gt-BLOCK_LEN c =
    let key : List ℕ = c.args.key.now in
    c.put.ensures
    ∙ block_of key c.sha256.result
    (c.sha256.ensures.value ∙ sym (ap (λ b. cond b (sha256_of key) key) (lt-ltb block_len (length key) c.if-key-gt-BLOCK_LEN.true)))

pub returns-else-key-gt-BLOCK_LEN : goal.returns-else-key-gt-BLOCK_LEN
returns-else-key-gt-BLOCK_LEN c =
    let key : List ℕ = c.args.key.now in
    c.put-else-key-gt-BLOCK_LEN.ensures
    ∙ block_of key key (sym (ap (λ b. cond b (sha256_of key) key) (le-ltb block_len (length key) c.if-key-gt-BLOCK_LEN.false)))
