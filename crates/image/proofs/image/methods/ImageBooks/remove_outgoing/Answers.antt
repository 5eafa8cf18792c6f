use Rattle.format.specs.Meaning.{name_value}
use Rattle.slots.proofs.Celled.{outgoing_removed}
use Rattle.image.specs.Memory.{cells}
use Rattle.image.proofs.image.methods.ImageBooks.remove_outgoing.Goals as goal

pub returns-clause-change : goal.returns-clause-change
returns-clause-change c = outgoing_removed (name_value c.args.name.now) (cells c.args.self.now.bytes.now) (cells c.remove.new.self.bytes.now) c.remove.ensures.change.change
