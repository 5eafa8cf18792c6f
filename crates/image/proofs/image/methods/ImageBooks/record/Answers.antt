use Rattle.std.proofs.Common.{ap, ◌∙◌}
use Rattle.format.specs.Meaning.{identifier_value}
use Rattle.slots.specs.Reading.{record_part}
use Rattle.slots.specs.Rows.{by_identifier}
use Rattle.slots.proofs.Celled.{look_of}
use Rattle.image.specs.Memory.{cells}
use Rattle.image.proofs.Answered.{record_found}
use Rattle.image.proofs.image.methods.ImageBooks.record.Goals as goal

pub returns-clause-key : goal.returns-clause-key
returns-clause-key c =
    let os = cells c.args.self.now.bytes.now in
    let d = identifier_value c.args.chain.now in
    record_found d _ (look_of os (by_identifier d)) c.decode_record.result (c.decode_record.ensures ∙ ap record_part c.in_ok-slot_of.ensures)
