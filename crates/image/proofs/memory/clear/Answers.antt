use Rattle.std.proofs.Common.{◌≡◌, ◌*◌, ◌-◌, ◌++◌, length, drop, replicate, ap, ◌∙◌, arith, rules}
use Rattle.std.proofs.lemmas.List.{length-take-le}
use Rattle.slots.specs.Layout.{slot_len}
use Rattle.image.specs.Memory.{usable}
use Rattle.image.proofs.Slotted.{length_slots, slots_fit}
use Rattle.image.proofs.memory.clear.Goals as goal

pub slice_bounds-fill-end : goal.slice_bounds-fill-end
slice_bounds-fill-end c = let fit = slots_fit c.args.bytes.now in omega (arith, ap length c.slots.ensures ∙ length_slots c.args.bytes.now)

pub returns : goal.returns
returns c =
    let bs = c.args.bytes.now in
    let fit = slots_fit bs in
    let whole : length c.slots.result.now * slot_len ≡ usable bs * slot_len = ap (λ k. k * slot_len) (ap length c.slots.ensures ∙ length_slots bs) in
    let n : length c.slots.result.now * slot_len - 0 ≡ usable bs * slot_len = omega (arith, whole) in
    (λ i. (c.fill.ensures.after (λ y h. search rules) ∙ ap (λ k. replicate k 0) (length-take-le (length c.slots.result.now * slot_len - 0) bs (omega (arith, n)) ∙ n)) i ++ drop (n i) bs)
