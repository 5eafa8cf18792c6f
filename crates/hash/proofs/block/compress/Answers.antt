use Rattle.std.proofs.Common.{◌≡◌, ℕ, List, sym, refl, ap, ◌∙◌, ap₂}
use Rattle.hash.specs.Sizes.{block_words}
use Rattle.hash.specs.Words.{add_words}
use Rattle.hash.specs.Sha256.{constants, words_of, words_after, after_rounds, schedule, compressed}
use Rattle.hash.proofs.Rounds.{row, four_groups}
use Rattle.hash.proofs.block.compress.Goals as goal

pub returns : goal.returns
unfolding constants schedule compressed
returns c =
    let w : List ℕ = words_of c.args.block.now in
    let w1 : c.words_after-w.result ≡ words_after w = c.words_after-w.ensures ∙ ap words_after c.words_of-w.ensures in
    let w2 : c.words_after-w-2.result ≡ words_after (words_after w) = c.words_after-w-2.ensures ∙ ap words_after w1 in
    let w3 : c.words_after-w-3.result ≡ words_after (words_after (words_after w)) = c.words_after-w-3.ensures ∙ ap words_after w2 in
    c.added.ensures
    ∙ ap (add_words c.args.hash.now)
    (c.rounds-v-4.ensures ∙ ap₂ (after_rounds block_words (row 3)) w3
    (c.rounds-v-3.ensures ∙ ap₂ (after_rounds block_words (row 2)) w2
    (c.rounds-v-2.ensures ∙ ap₂ (after_rounds block_words (row 1)) w1
    (c.rounds-v.ensures ∙ ap (λ ws. after_rounds block_words (row 0) ws c.args.hash.now) c.words_of-w.ensures)))
    ∙ sym (four_groups w c.args.hash.now refl))
