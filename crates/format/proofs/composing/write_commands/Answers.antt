use Rattle.std.proofs.Common.{arith}
use Rattle.format.specs.Composing.{encoded}
use Rattle.format.proofs.Writes.{wrote_none, item_fits, wrote_item, wrote_all}
use Rattle.format.proofs.composing.write_commands.Goals as goal

pub loop-command-init : goal.loop-command-init
loop-command-init c = wrote_none _ _ (omega (arith, c.requires))

pub write_command-at-requires : goal.write_command-at-requires
write_command-at-requires c =
    let fits = item_fits encoded c.args.commands.now c.loop-command.command-index c.command-item.result c.loop-command-test.true c.command-item.is in
    omega (arith, fits, c.loop-command.invariant.end, c.requires, c.loop-command.auto.buffer)

pub loop-command-preserved : goal.loop-command-preserved
loop-command-preserved c =
    wrote_item encoded c.args.commands.now c.loop-command.command-index c.command-item.result c.loop-command-test.true c.command-item.is
    c.loop-command.invariant c.write_command-at.ensures

pub returns : goal.returns
returns c = wrote_all encoded c.args.commands.now c.loop-command.command-index c.loop-command-test.false c.loop-command.invariant
