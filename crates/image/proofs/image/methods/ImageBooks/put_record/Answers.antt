use Rattle.books.specs.Meaning.{record_key, record_value}
use Rattle.slots.specs.Meaning.{held_record}
use Rattle.slots.proofs.Celled.{record_put}
use Rattle.image.specs.Memory.{cells}
use Rattle.image.proofs.Answered.{reads, encodes}
use Rattle.image.proofs.image.methods.ImageBooks.put_record.Goals as goal

pub put-requires : goal.put-requires
put-requires c =
    let e = c.encode_record.ensures in
    encodes (held_record c.args.row) c.encode_record.result e.bytes e.fits e.back

pub returns-clause-change : goal.returns-clause-change
returns-clause-change c =
    let row = c.args.row in
    let e = c.encode_record.ensures in
    record_put (record_key row) (record_value row) (cells c.args.self.now.bytes.now) c.put.result (cells c.put.new.self.bytes.now)
    (c.put.ensures.change.change (held_record row) (reads (held_record row) c.encode_record.result e.bytes e.fits e.back))
