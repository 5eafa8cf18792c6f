use Rattle.format.specs.Meaning.{name_value}
use Rattle.tables.specs.Held.{held, room}
use Rattle.tables.proofs.Tried.{outgoing_removed}
use Rattle.tables.proofs.tables.methods.TablesBooks.remove_outgoing.Goals as goal

pub returns-clause-change : goal.returns-clause-change
returns-clause-change c =
    let t = c.args.self.now in
    let n = c.remove.new.self in
    outgoing_removed (held t.records) (held t.marks) (held t.outgoing) (room t.records) (room t.marks) (room t.outgoing) (name_value c.args.name.now) (held n) (room n) c.remove.ensures.change
