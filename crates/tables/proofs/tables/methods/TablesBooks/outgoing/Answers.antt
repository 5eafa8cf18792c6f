use Rattle.format.specs.Meaning.{name_value}
use Rattle.format.specs.Same.{same_name}
use Rattle.format.proofs.Same.{name_decides}
use Rattle.books.specs.Meaning.{outgoing_key}
use Rattle.books.proofs.Finds.{found_key}
use Rattle.tables.specs.Held.{held}
use Rattle.tables.proofs.tables.methods.TablesBooks.outgoing.Goals as goal

pub returns-clause-key : goal.returns-clause-key
returns-clause-key c = found_key outgoing_key same_name name_decides (held c.args.self.now.outgoing) (name_value c.args.name.now) c.find.result c.find.ensures
