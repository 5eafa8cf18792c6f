use Rattle.format.specs.Meaning.{identifier_value}
use Rattle.tables.specs.Held.{held, room}
use Rattle.tables.proofs.Tried.{record_removed}
use Rattle.tables.proofs.tables.methods.TablesBooks.remove_record.Goals as goal

pub returns-clause-change : goal.returns-clause-change
returns-clause-change c =
    let t = c.args.self.now in
    let n = c.remove.new.self in
    record_removed (held t.records) (held t.marks) (held t.outgoing) (room t.records) (room t.marks) (room t.outgoing) (identifier_value c.args.chain.now) (held n) (room n) c.remove.ensures.change
