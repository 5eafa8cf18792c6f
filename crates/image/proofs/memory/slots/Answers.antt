use Rattle.std.proofs.Common.{◌≡◌, ◌/◌, length, take, ◌∙◌, arith}
use Rattle.slots.specs.Layout.{slot_len}
use Rattle.image.specs.Memory.{usable}
use Rattle.image.proofs.Slotted.{first_slots}
use Rattle.image.proofs.memory.slots.Goals as goal

pub returns : goal.returns
returns c =
    let bs = c.args.bytes.now in
    let n : c.min.result ≡ usable bs = omega (arith, c.min.ensures, c.as_chunks.ensures.front_len) in
    (λ i. take (n i) (c.as_chunks.ensures.front i)) ∙ first_slots (usable bs) (length bs / slot_len) bs (omega arith)
