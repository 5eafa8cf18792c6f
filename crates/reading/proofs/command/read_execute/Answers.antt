use Rattle.std.proofs.Common.{◌+◌, ap, ◌∙◌, rules}
use Rattle.std.proofs.lemmas.List.{take_rest}
use Rattle.format.specs.Layout.{code_len, value_len}
use Rattle.reading.specs.Fields.{identifier_in}
use Rattle.reading.specs.Commands.{execute_in}
use Rattle.reading.proofs.command.read_execute.Goals as goal

pub returns-then-operands-ne-EXECUTE_LEN : goal.returns-then-operands-ne-EXECUTE_LEN
unfolding execute_in
returns-then-operands-ne-EXECUTE_LEN c = search rules

pub returns-in_err-target : goal.returns-in_err-target
unfolding execute_in
returns-in_err-target c =
    let t = ap identifier_in (take_rest c.args.operands.now (code_len + value_len)) in
    search rules

pub returns : goal.returns
unfolding execute_in
returns c =
    let t = c.in_ok-target.ensures ∙ ap identifier_in (take_rest c.args.operands.now (code_len + value_len)) in
    search rules
