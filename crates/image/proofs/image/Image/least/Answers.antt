use Rattle.std.proofs.Common.{◌≡◌, ◌<◌, ◌≤◌, [], length, get_or, None, sym, ap, ◌∙◌, arith}
use Rattle.std.specs.Option.{option_map}
use Rattle.books.specs.Meaning.{entry_value}
use Rattle.books.specs.Sides.{on}
use Rattle.slots.specs.Reading.{row_in, outgoing_part}
use Rattle.image.specs.Memory.{usable, cells}
use Rattle.image.specs.Waiting.{earlier_cell}
use Rattle.image.proofs.Slotted.{length_slots, length_cells, cell_at}
use Rattle.image.proofs.Waits.{least_none, least_more, least_is, least_all}
use Rattle.image.proofs.image.Image.least.Goals as goal

pub loop-slot-init : goal.loop-slot-init
loop-slot-init c = least_none (on c.args.side)

pub loop-slot-preserved : goal.loop-slot-preserved
loop-slot-preserved c =
    let bs = c.args.self.now.bytes.now in
    let i = c.loop-slot.slot-index in
    let best = option_map entry_value c.loop-slot.best in
    let within : i < usable bs = omega (arith, ap length c.slots-slot-items.ensures ∙ length_slots bs, c.loop-slot-test.true) in
    let cell : row_in (get_or c.slots-slot-items.result.now i []) ≡ get_or (cells bs) i None = ap (λ z. row_in (get_or z i [])) c.slots-slot-items.ensures ∙ sym (cell_at bs i within) in
    least_more (on c.args.side) (cells bs) i best (option_map entry_value c.earlier_in-best.result) (omega (arith, length_cells bs, within))
    (c.earlier_in-best.ensures ∙ ap (λ o. earlier_cell (on c.args.side) best (outgoing_part o)) cell)
    c.loop-slot.invariant

pub returns : goal.returns
returns c =
    let t = c.args.self.now in
    let bs = t.bytes.now in
    let r = option_map entry_value c.loop-slot.best in
    let high : length (cells bs) ≤ c.loop-slot.slot-index = omega (arith, length_cells bs, ap length c.slots-slot-items.ensures ∙ length_slots bs, c.loop-slot-test.false) in
    least_is (on c.args.side) (cells bs) t.unlike r (least_all (on c.args.side) (cells bs) c.loop-slot.slot-index r high c.loop-slot.invariant)
