use Rattle.std.proofs.Common.{arith}
use Rattle.reading.proofs.Moves.{begun_at}
use Rattle.reading.proofs.cursor.Cursor.new.Goals as goal

pub returns : goal.returns
returns c = begun_at _ _ _ (omega arith) (omega arith)
