use Rattle.std.proofs.Common.{drop}
use Rattle.format.specs.Layout.{head_len}
use Rattle.reading.specs.Blocks.{commands_in}
use Rattle.reading.specs.Cursors.{cursor_value}
use Rattle.reading.proofs.Runs.{Sofar}
use Rattle.reading.proofs.block.read_block.Given as goal

abbrev pub invariant-loop : goal.invariant-loop
invariant-loop l = Sofar (commands_in l.head.count 0 (drop head_len l.block.bytes.now)) (cursor_value l.cursor)

abbrev pub decreases-loop : goal.decreases-loop
decreases-loop l = l.cursor.left
