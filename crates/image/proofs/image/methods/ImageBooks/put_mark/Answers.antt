use Rattle.books.specs.Meaning.{mark_value}
use Rattle.slots.specs.Meaning.{held_mark}
use Rattle.slots.proofs.Celled.{mark_put}
use Rattle.image.specs.Memory.{cells}
use Rattle.image.proofs.Answered.{reads, encodes}
use Rattle.image.proofs.image.methods.ImageBooks.put_mark.Goals as goal

pub put-requires : goal.put-requires
put-requires c =
    let e = c.encode_mark.ensures in
    encodes (held_mark c.args.row) c.encode_mark.result e.bytes e.fits e.back

pub returns-clause-change : goal.returns-clause-change
returns-clause-change c =
    let row = c.args.row in
    let e = c.encode_mark.ensures in
    mark_put (mark_value row) (cells c.args.self.now.bytes.now) c.put.result (cells c.put.new.self.bytes.now)
    (c.put.ensures.change.change (held_mark row) (reads (held_mark row) c.encode_mark.result e.bytes e.fits e.back))
