use Rattle.std.proofs.Common.{◌≡◌, ℕ, ◌*◌, ◌%◌, ◌^◌, List, length, set, ap, ◌∙◌, ap₂, arith}
use Rattle.hash.specs.Sizes.{length_len, length_at, first_pad}
use Rattle.hash.specs.Words.{to_bytes}
use Rattle.hash.specs.Written.{written}
use Rattle.hash.specs.Sha256.{compressed, length_field}
use Rattle.hash.proofs.Bytes.{length_to_bytes}
use Rattle.hash.proofs.Padding.{first_block, first_block_is, last_of_one, last_of_two}
use Rattle.hash.proofs.digest.compress_last.Goals as goal
use Rattle.hash.proofs.digest.compress_last.Goals.{then-rest-ge-LENGTH_AT, else-rest-ge-LENGTH_AT}

pub returns : goal.returns
returns c =
    let rest : List ℕ = c.args.rest.now in
    let bits : List ℕ = c.to_be_bytes.result in
    let field : bits ≡ length_field c.args.count =
    c.to_be_bytes.ensures ∙ length_to_bytes ((c.args.count * 8) % 2 ^ 64) ∙ ap (to_bytes length_len) (omega arith) in
    let first : set c.put.new.block (length rest) first_pad ≡ first_block rest =
    ap (λ b. set b (length rest) first_pad) c.put.ensures ∙ first_block_is rest (omega arith) in
    elim c.if-rest-ge-LENGTH_AT.branch [
      | then-rest-ge-LENGTH_AT w ↦
          c.compress-2.ensures
          ∙ ap₂ compressed (w.hash-is ∙ w.compress.ensures ∙ ap (compressed c.args.hash.now) first)
          (c.put-2.ensures ∙ ap (λ b. written b length_at bits) w.block-is)
          ∙ last_of_two c.args.hash.now rest bits c.args.count c.requires field (omega (arith, w.if-rest-ge-LENGTH_AT.true))
      | else-rest-ge-LENGTH_AT w ↦
          c.compress-2.ensures
          ∙ ap₂ compressed w.hash-is (c.put-2.ensures ∙ ap (λ b. written b length_at bits) (w.block-is ∙ first))
          ∙ last_of_one c.args.hash.now rest bits c.args.count c.requires field (omega (arith, w.if-rest-ge-LENGTH_AT.false))
    ]
