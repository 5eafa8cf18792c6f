use Rattle.books.specs.Meaning.{mark_value}
use Rattle.tables.specs.Held.{held, room}
use Rattle.tables.proofs.Tried.{mark_removed}
use Rattle.tables.proofs.tables.methods.TablesBooks.remove_mark.Goals as goal

pub returns-clause-change : goal.returns-clause-change
returns-clause-change c =
    let t = c.args.self.now in
    let n = c.remove.new.self in
    mark_removed (held t.records) (held t.marks) (held t.outgoing) (room t.records) (room t.marks) (room t.outgoing) (mark_value c.args.mark.now) (held n) (room n) c.remove.ensures.change
