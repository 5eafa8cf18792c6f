use Rattle.format.specs.Meaning.{identifier_value}
use Rattle.slots.proofs.Celled.{record_removed}
use Rattle.image.specs.Memory.{cells}
use Rattle.image.proofs.image.methods.ImageBooks.remove_record.Goals as goal

pub returns-clause-change : goal.returns-clause-change
returns-clause-change c = record_removed (identifier_value c.args.chain.now) (cells c.args.self.now.bytes.now) (cells c.remove.new.self.bytes.now) c.remove.ensures.change.change
