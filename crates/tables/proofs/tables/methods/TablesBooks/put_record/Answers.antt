use Rattle.tables.specs.Held.{held, room}
use Rattle.tables.proofs.Tried.{record_tried}
use Rattle.tables.proofs.tables.methods.TablesBooks.put_record.Goals as goal

pub returns-clause-change : goal.returns-clause-change
returns-clause-change c =
    let t = c.args.self.now in
    let n = c.put.new.self in
    record_tried (held t.records) (held t.marks) (held t.outgoing) (room t.records) (room t.marks) (room t.outgoing) c.args.row c.put.result (held n) (room n) c.put.ensures.change
