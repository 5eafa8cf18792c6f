use Rattle.std.proofs.Common.{None, sym, ap, ◌∙◌}
use Rattle.std.proofs.lemmas.Bool.{cond-true, cond-false, and_left, and_right, and_from, eq-eqb, ne_eqb, not_from_false, not_from_true}
use Rattle.slots.specs.Reading.{chain_in, home_in, kind_of}
use Rattle.slots.proofs.decoding.home_of.Goals as goal

pub returns-in_err-slot : goal.returns-in_err-slot
unfolding home_in
returns-in_err-slot c = rw c.from_residual.ensures (sym (cond-false _ (chain_in c.args.slot.now) None (and_left _ _ (ne_eqb _ _ c.in_err-slot.ensures.cases))))

pub returns-then-slot : goal.returns-then-slot
unfolding home_in
returns-then-slot c =
    let w = c.in_ok-slot.ensures.cases in
    sym (cond-false _ (chain_in c.args.slot.now) None (and_right _ _ (not_from_true _ (eq-eqb _ _ (ap kind_of (sym w.same) ∙ c.if-slot.true)))))

pub returns : goal.returns
unfolding home_in
returns c =
    let w = c.in_ok-slot.ensures.cases in
    c.read_identifier.ensures ∙ ap chain_in w.same
    ∙ sym (cond-true _ (chain_in c.args.slot.now) None
    (and_from _ _ (eq-eqb _ _ w.long) (not_from_false _ (ne_eqb _ _ (λ e. c.if-slot.false (ap kind_of w.same ∙ e))))))
