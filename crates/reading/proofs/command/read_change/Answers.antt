use Rattle.std.proofs.Common.{rules}
use Rattle.reading.specs.Commands.{change_in}
use Rattle.reading.proofs.command.read_change.Goals as goal

pub returns-in_err-ok : goal.returns-in_err-ok
unfolding change_in
returns-in_err-ok c = search rules

pub returns : goal.returns
unfolding change_in
returns c = search rules
