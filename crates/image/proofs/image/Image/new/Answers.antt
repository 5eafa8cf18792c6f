use Rattle.std.proofs.Common.{ap}
use Rattle.slots.specs.Cells.{celled}
use Rattle.image.proofs.Answered.{new_cells, new_sound}
use Rattle.image.proofs.image.Image.new.Goals as goal

pub invariant_of-result : goal.invariant_of-result
invariant_of-result c = let s = new_sound c.args.bytes.now c.clear.new.bytes c.clear.ensures in record { exact = s.0; unlike = s.1 }

pub returns-clause-meaning : goal.returns-clause-meaning
returns-clause-meaning c = ap celled (new_cells c.args.bytes.now c.clear.new.bytes c.clear.ensures)
