use Rattle.std.proofs.Common.{◌≡◌, ℕ, ◌/◌, List, [], map, length, get_or, ap, ◌∙◌, arith}
use Rattle.std.specs.Simd.{first_chunks}
use Rattle.std.proofs.lemmas.List.{length-set}
use Rattle.std.proofs.lemmas.List.Edits.{fill_by_more}
use Rattle.hash.specs.Sizes.{word_len, block_len, block_words}
use Rattle.hash.specs.Words.{from_bytes}
use Rattle.hash.proofs.Lists.{map_by_places, chunk_length}
use Rattle.hash.proofs.Bytes.{word_from_bytes}
use Rattle.hash.proofs.block.words_of.Goals as goal

-- a block has sixteen chunks
chunks : (block : List ℕ) (words : List (List ℕ)) → length block ≡ block_len
    → words ≡ first_chunks word_len (length block / word_len) block → words ≡ first_chunks word_len block_words block
chunks block words l e = e ∙ ap (λ n. first_chunks word_len (n / word_len) block) l

pub loop-t-preserved : goal.loop-t-preserved
loop-t-preserved c =
    let bytes : List ℕ = get_or c.as_chunks.result.0.now c.loop-t.t [] in
    let l : length bytes ≡ word_len =
    ap (λ xs. length (get_or xs c.loop-t.t [])) (chunks _ _ c.told-block c.as_chunks.ensures.front)
    ∙ chunk_length word_len block_words c.args.block.now c.loop-t.t (omega (arith, c.told-block)) (omega arith) in
    let e : c.from_be_bytes.result ≡ from_bytes bytes = c.from_be_bytes.ensures ∙ word_from_bytes bytes l in (
      simp length-set c.loop-t.invariant.0,
      simp e (fill_by_more (λ k. from_bytes (get_or c.as_chunks.result.0.now k [])) c.loop-t.w c.loop-t.t 0 (omega arith) c.loop-t.invariant.1),
    )

pub returns : goal.returns
returns c =
    map_by_places from_bytes [] c.as_chunks.result.0.now c.loop-t.w (omega arith) (λ k h. c.loop-t.invariant.1 k (omega arith))
    ∙ ap (map from_bytes) (chunks _ _ c.told-block c.as_chunks.ensures.front)
