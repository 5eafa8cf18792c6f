use Rattle.std.proofs.Common.{◌≡◌, ℕ, ◌+◌, ◌*◌, ◌/◌, ◌%◌, ◌^◌, List, ◌++◌, length, drop, fold, sym, ap, ◌∙◌, ap₂, arith}
use Rattle.std.specs.Simd.{first_chunks}
use Rattle.std.specs.List.{flat_map}
use Rattle.hash.specs.Sizes.{block_len}
use Rattle.hash.specs.Words.{word_bytes}
use Rattle.hash.specs.Sha256.{hashed, compressed, padding}
use Rattle.hash.proofs.Blocks.{hashed_blocks}
use Rattle.hash.proofs.Padding.{padding_same}
use Rattle.hash.proofs.digest.digest_from.Goals as goal

pub returns : goal.returns
returns c =
    let rest : List ℕ = c.args.rest.now in
    let k : ℕ = length rest / block_len in
    let same : padding ((c.args.before + length rest) % 2 ^ 64) ≡ padding (c.args.before + length rest) =
    padding_same ((c.args.before + length rest) % 2 ^ 64) (c.args.before + length rest) (omega arith) in
    c.digest_bytes.ensures
    ∙ ap (flat_map word_bytes)
    (c.compress_last.ensures
    ∙ ap₂ (λ h l. hashed h (l ++ padding ((c.args.before + length rest) % 2 ^ 64)))
    (c.compress_blocks.ensures ∙ ap (fold compressed c.args.hash) c.as_chunks.ensures.front) c.as_chunks.ensures.back
    ∙ ap (λ p. hashed (fold compressed c.args.hash (first_chunks block_len k rest)) (drop (k * block_len) rest ++ p)) same
    ∙ sym (hashed_blocks k c.args.hash rest (padding (c.args.before + length rest)) (omega arith)))
