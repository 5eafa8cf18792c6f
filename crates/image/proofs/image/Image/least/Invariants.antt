use Rattle.std.proofs.Common.{take}
use Rattle.std.specs.Option.{option_map}
use Rattle.books.specs.Meaning.{entry_value}
use Rattle.books.specs.Sides.{on}
use Rattle.image.specs.Memory.{cells}
use Rattle.image.proofs.Waits.{LeastIn}
use Rattle.image.proofs.image.Image.least.Given as goal

abbrev pub invariant-loop-slot : goal.invariant-loop-slot
invariant-loop-slot l = LeastIn (on l.side) (take l.slot-index (cells l.self.bytes.now)) (option_map entry_value l.best)
