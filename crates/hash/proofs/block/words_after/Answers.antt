use Rattle.std.proofs.Common.{◌≡◌, length, sym, ap, ◌∙◌, rules}
use Rattle.hash.specs.Sizes.{block_words}
use Rattle.hash.specs.Sha256.{words_after, extended}
use Rattle.hash.proofs.Lists.{written_out}
use Rattle.hash.proofs.block.words_after.Goals as goal

-- the schedule of sixteen words that are written out computes to the calls
pub returns : goal.returns
unfolding extended
returns c =
    let l : length c.args.words.now ≡ block_words = search rules in
    (cc) ∙ sym (ap words_after (written_out c.args.words.now block_words l))
