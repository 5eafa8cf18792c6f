use Rattle.std.proofs.Common.{◌+◌, ◌++◌, length, ap, ◌∙◌}
use Rattle.std.specs.List.{flat_map}
use Rattle.std.proofs.lemmas.List.{length-map}
use Rattle.hash.specs.Sizes.{block_len}
use Rattle.hash.specs.Words.{word_bytes}
use Rattle.hash.specs.Sha256.{sha256_of, hashed, compressed, initial, padding}
use Rattle.hash.specs.Hmac.{xor_each}
use Rattle.hash.proofs.Blocks.{padded_after}
use Rattle.hash.proofs.keyed.keyed_digest.Goals as goal

pub returns : goal.returns
unfolding sha256_of
returns c =
    c.digest_from.ensures
    ∙ ap (flat_map word_bytes)
    (ap (λ h. hashed h (c.args.rest.now ++ padding (block_len + length c.args.rest.now)))
    (c.compress.ensures ∙ ap (compressed initial) c.xored.ensures)
    ∙ padded_after (xor_each c.args.pad c.args.block.now) c.args.rest.now (length-map c.args.block.now _ ∙ c.told-block))
