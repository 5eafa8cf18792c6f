use Rattle.std.proofs.Common.{rules}
use Rattle.reading.specs.Fields.{message_in}
use Rattle.reading.proofs.fields.read_message.Goals as goal

pub returns-then-bytes-ne-RECEIVE_LEN : goal.returns-then-bytes-ne-RECEIVE_LEN
unfolding message_in
returns-then-bytes-ne-RECEIVE_LEN c = search rules

pub returns-in_err-name : goal.returns-in_err-name
unfolding message_in
returns-in_err-name c = search rules

pub returns : goal.returns
unfolding message_in
returns c = search rules
