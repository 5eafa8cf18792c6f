use Rattle.std.proofs.Common.{◌≡◌, ◌+◌, ◌-◌, ◌*◌, ◌++◌, length, take, drop, ap, ◌∙◌, arith, rules}
use Rattle.format.proofs.Writes.{written_part, length_written}
use Rattle.slots.specs.Layout.{slot_len}
use Rattle.image.proofs.Slotted.{slots_fit, wrote_slot}
use Rattle.image.proofs.memory.write_slot.Goals as goal

pub returns : goal.returns
returns c =
    let bs = c.args.bytes.now in
    let i = c.args.i in
    let x = c.args.slot.now in
    let fit = slots_fit bs in
    let size : length x ≡ slot_len = search rules in
    let n : i * slot_len + slot_len - i * slot_len ≡ i * slot_len + length x - i * slot_len = omega arith in
    let e = ap (λ k. take (i * slot_len) bs ++ (c.copy_from_slice.new.self ++ drop k (drop (i * slot_len) bs))) n ∙ written_part bs (i * slot_len) x _ c.copy_from_slice.ensures.after in
    let w = wrote_slot bs i x _ c.requires size (ap length e ∙ length_written bs (i * slot_len) x (omega (arith, c.requires))) e in
    record { slots = w.slots_are; rest = w.past_is }
