use Rattle.std.proofs.Common.{rules}
use Rattle.reading.specs.Commands.{open_in}
use Rattle.reading.proofs.command.read_open.Goals as goal

pub returns-then-operands-ne-OPEN_LEN : goal.returns-then-operands-ne-OPEN_LEN
unfolding open_in
returns-then-operands-ne-OPEN_LEN c = search rules

pub returns-in_err-child : goal.returns-in_err-child
unfolding open_in
returns-in_err-child c = search rules

pub returns : goal.returns
unfolding open_in
returns c = search rules
