use Rattle.std.proofs.Common.{◌≡◌, ℕ, List, ap, ◌∙◌}
use Rattle.hash.specs.Sha256.{after_round, after_rounds}
use Rattle.hash.proofs.block.rounds.Goals as goal

-- one round after what is known of the rounds before
on : (k w : ℕ) (v v' r : List ℕ) → r ≡ after_round k w v → v ≡ v' → r ≡ after_round k w v'
on k w v v' r e b = e ∙ ap (after_round k w) b

pub returns : goal.returns
unfolding after_rounds
returns c =
    on _ _ _ _ _ c.round-v-16.ensures (
    on _ _ _ _ _ c.round-v-15.ensures (
    on _ _ _ _ _ c.round-v-14.ensures (
    on _ _ _ _ _ c.round-v-13.ensures (
    on _ _ _ _ _ c.round-v-12.ensures (
    on _ _ _ _ _ c.round-v-11.ensures (
    on _ _ _ _ _ c.round-v-10.ensures (
    on _ _ _ _ _ c.round-v-9.ensures (
    on _ _ _ _ _ c.round-v-8.ensures (
    on _ _ _ _ _ c.round-v-7.ensures (
    on _ _ _ _ _ c.round-v-6.ensures (
    on _ _ _ _ _ c.round-v-5.ensures (
    on _ _ _ _ _ c.round-v-4.ensures (
    on _ _ _ _ _ c.round-v-3.ensures (
    on _ _ _ _ _ c.round-v-2.ensures c.round-v.ensures))))))))))))))
