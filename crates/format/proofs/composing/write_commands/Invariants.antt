use Rattle.std.proofs.Common.{take}
use Rattle.std.specs.List.{flat_map}
use Rattle.format.specs.Composing.{encoded}
use Rattle.format.specs.Writing.{Wrote}
use Rattle.format.proofs.composing.write_commands.Given as goal

abbrev pub invariant-loop-command : goal.invariant-loop-command
invariant-loop-command l = Wrote l.initial.buffer l.from (flat_map encoded (take l.command-index l.commands)) l.buffer l.at
