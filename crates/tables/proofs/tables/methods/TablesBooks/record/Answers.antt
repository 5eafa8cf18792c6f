use Rattle.format.specs.Meaning.{identifier_value}
use Rattle.format.specs.Same.{same_identifier}
use Rattle.format.proofs.Same.{identifier_decides}
use Rattle.books.specs.Meaning.{record_key}
use Rattle.books.proofs.Finds.{found_key}
use Rattle.tables.specs.Held.{held}
use Rattle.tables.proofs.tables.methods.TablesBooks.record.Goals as goal

pub returns-clause-key : goal.returns-clause-key
returns-clause-key c = found_key record_key same_identifier identifier_decides (held c.args.self.now.records) (identifier_value c.args.chain.now) c.find.result c.find.ensures
