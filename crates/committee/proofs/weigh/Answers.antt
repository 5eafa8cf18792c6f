use Rattle.std.proofs.Common.{◌<◌, get_or, sym, ◌∙◌, inl, inr, ⊎_elim, arith, rules}
use Rattle.committee.proofs.Members.{no_one}
use Rattle.committee.proofs.Weights.{weight_start, weight_all, weight_refused, weight_more}
use Rattle.committee.proofs.weigh.Goals as goal

pub loop-number-init : goal.loop-number-init
loop-number-init c = (omega arith, omega arith, weight_start c.args.members.now c.args.numbers.now)

pub returns-then-number-least : goal.returns-then-number-least
returns-then-number-least c =
    sym (c.loop-number.invariant.2 ∙ weight_refused c.args.members.now c.args.numbers.now c.loop-number.number-index c.loop-number.least c.loop-number.sum c.loop-number-test.true
    (⊎_elim (λ h. inl (omega (arith, c.from-number.ensures))) (λ h. inr (omega (arith, c.from-number.ensures, h.1))) c.then-number-least.either))

pub loop-number-preserved : goal.loop-number-preserved
loop-number-preserved c =
    let ms = c.args.members.now in
    let ns = c.args.numbers.now in
    let i = c.loop-number.number-index in
    let n = get_or ns i 0 in
    let byte : n < 256 = search rules in
    let weight : (get_or ms n no_one).weight < 65536 = search rules in (
      omega arith,
      omega arith,
      simp (c.from-number.ensures, c.from-sum.ensures) (c.loop-number.invariant.2 ∙ weight_more ms ns i c.loop-number.least c.loop-number.sum c.loop-number-test.true (omega (arith, c.from-number.ensures, c.if-number-least.false)) (omega (arith, c.from-number.ensures, c.if-number-members.false))),
    )

pub returns : goal.returns
returns c = sym (c.loop-number.invariant.2 ∙ weight_all c.args.members.now c.args.numbers.now c.loop-number.number-index c.loop-number.least c.loop-number.sum c.loop-number-test.false)
