use Rattle.std.proofs.Common.{◌≡◌, ◌+◌, ◌*◌, ◌≤◌, length, drop}
use Rattle.std.specs.List.{flat_map}
use Rattle.format.specs.Layout.{command_byte_len, receive_len}
use Rattle.format.specs.Composing.{encoded}
use Rattle.format.proofs.Commands.{allowed}
use Rattle.format.proofs.composing.commands_len.Given as goal

abbrev pub invariant-loop-command : goal.invariant-loop-command
invariant-loop-command l =
    (l.len ≤ (command_byte_len + receive_len) * l.command-index)
    × (allowed (drop l.command-index l.commands) ≡ allowed l.commands)
    × (l.len + length (flat_map encoded (drop l.command-index l.commands)) ≡ length (flat_map encoded l.commands))
