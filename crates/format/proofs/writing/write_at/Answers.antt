use Rattle.std.proofs.Common.{refl}
use Rattle.format.proofs.Writes.{written_part}
use Rattle.format.proofs.writing.write_at.Goals as goal

pub returns : goal.returns
returns c = record {
  fits = c.requires;
  end = refl;
  held = written_part c.args.buffer.now c.args.at c.args.bytes.now _ c.copy_from_slice.ensures.after;
}
