use Rattle.std.proofs.Common.{◌≡◌, ◌+◌, ◌≤◌, length, drop, ap, ◌∙◌, arith, length-take, rules}
use Rattle.format.proofs.Writes.{written_part}
use Rattle.slots.proofs.Filled.{zeros_behind}
use Rattle.slots.proofs.writer.Writer.add.Goals as goal

pub invariant_of-self : goal.invariant_of-self
invariant_of-self g c =
    let w = c.args.self.now in
    let x = c.args.bytes.now in
    let size : length w.bytes ≡ g.row.N = search rules in
    let room : w.len + length x ≤ length w.bytes = omega (arith, length-take w.len w.bytes, c.requires, w.within, size) in
    record {
      within = omega (arith, room, size);
      zeros = ap (drop (w.len + length x)) (written_part w.bytes w.len x _ c.copy_from_slice.ensures.after) ∙ zeros_behind w.bytes x w.len g.row.N room w.zeros;
    }
