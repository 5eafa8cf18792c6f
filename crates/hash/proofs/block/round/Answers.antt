use Rattle.hash.specs.Sha256.{after_round}
use Rattle.hash.proofs.block.round.Goals as goal

-- each call's result is its definition, so the two lists are equal word by word
pub returns : goal.returns
unfolding after_round
returns c = cc
