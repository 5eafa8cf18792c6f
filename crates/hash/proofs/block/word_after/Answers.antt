use Rattle.hash.specs.Sha256.{word_after}
use Rattle.hash.proofs.block.word_after.Goals as goal

pub returns : goal.returns
unfolding word_after
returns c = cc
