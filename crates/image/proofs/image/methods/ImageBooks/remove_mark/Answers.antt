use Rattle.books.specs.Meaning.{mark_value}
use Rattle.slots.proofs.Celled.{mark_removed}
use Rattle.image.specs.Memory.{cells}
use Rattle.image.proofs.image.methods.ImageBooks.remove_mark.Goals as goal

pub returns-clause-change : goal.returns-clause-change
returns-clause-change c = mark_removed (mark_value c.args.mark.now) (cells c.args.self.now.bytes.now) (cells c.remove.new.self.bytes.now) c.remove.ensures.change.change
