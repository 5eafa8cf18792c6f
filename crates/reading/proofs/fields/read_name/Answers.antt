use Rattle.std.proofs.Common.{rules}
use Rattle.reading.specs.Fields.{name_in}
use Rattle.reading.proofs.fields.read_name.Goals as goal

pub returns-then-bytes-ne-NAME_LEN : goal.returns-then-bytes-ne-NAME_LEN
unfolding name_in
returns-then-bytes-ne-NAME_LEN c = search rules

pub returns-then-height-gt-MAX_HEIGHT : goal.returns-then-height-gt-MAX_HEIGHT
unfolding name_in
returns-then-height-gt-MAX_HEIGHT c = search rules

pub returns-in_err-sender : goal.returns-in_err-sender
unfolding name_in
returns-in_err-sender c = search rules

pub returns : goal.returns
unfolding name_in
returns c = search rules
