use Rattle.std.proofs.Common.{ap, ◌∙◌}
use Rattle.format.specs.Meaning.{name_value}
use Rattle.slots.specs.Reading.{outgoing_part}
use Rattle.slots.specs.Rows.{by_name}
use Rattle.slots.proofs.Celled.{look_of}
use Rattle.image.specs.Memory.{cells}
use Rattle.image.proofs.Answered.{outgoing_found}
use Rattle.image.proofs.image.methods.ImageBooks.outgoing.Goals as goal

pub returns-clause-key : goal.returns-clause-key
returns-clause-key c =
    let os = cells c.args.self.now.bytes.now in
    let n = name_value c.args.name.now in
    outgoing_found n _ (look_of os (by_name n)) c.decode_outgoing.result (c.decode_outgoing.ensures ∙ ap outgoing_part c.in_ok-slot_of.ensures)
