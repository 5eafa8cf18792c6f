use Rattle.std.proofs.Common.{[], fold, ap, ◌∙◌, arith}
use Rattle.std.proofs.lemmas.List.{take_all}
use Rattle.std.proofs.lemmas.List.Sums.{fold_more}
use Rattle.hash.specs.Sha256.{compressed}
use Rattle.hash.proofs.digest.compress_blocks.Goals as goal

pub loop-block-preserved : goal.loop-block-preserved
loop-block-preserved c =
    let m = fold_more compressed c.args.hash.now c.args.blocks.now c.loop-block.block-index [] (omega arith) in cc

pub returns : goal.returns
returns c =
    c.loop-block.invariant ∙ ap (fold compressed c.args.hash.now) (take_all c.loop-block.block-index c.args.blocks.now (omega arith))
