use Rattle.books.specs.Meaning.{entry_value}
use Rattle.slots.specs.Meaning.{held_outgoing}
use Rattle.slots.proofs.Celled.{outgoing_put}
use Rattle.image.specs.Memory.{cells}
use Rattle.image.proofs.Answered.{reads, encodes}
use Rattle.image.proofs.image.methods.ImageBooks.put_outgoing.Goals as goal

pub put-requires : goal.put-requires
put-requires c =
    let e = c.encode_outgoing.ensures in
    encodes (held_outgoing c.args.row) c.encode_outgoing.result e.bytes e.fits e.back

pub returns-clause-change : goal.returns-clause-change
returns-clause-change c =
    let row = c.args.row in
    let e = c.encode_outgoing.ensures in
    outgoing_put (entry_value row) (cells c.args.self.now.bytes.now) c.put.result (cells c.put.new.self.bytes.now)
    (c.put.ensures.change.change (held_outgoing row) (reads (held_outgoing row) c.encode_outgoing.result e.bytes e.fits e.back))
