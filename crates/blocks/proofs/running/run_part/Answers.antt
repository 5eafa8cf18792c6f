use Rattle.std.proofs.Common.{sym}
use Rattle.format.specs.Meaning.{command_value}
use Rattle.blocks.proofs.KnownCommands.{known}
use Rattle.blocks.proofs.running.run_part.Goals as goal

pub run_command-requires : goal.run_command-requires
run_command-requires g c =
    let part = c.args.part.now in
    let k = known part.byte part.operands.bytes.now (command_value c.in-Some.command) (sym c.in-Some.ensures) in
    record { byte = sym k.byte_is; index = k.index_is }
