use Rattle.std.proofs.Common.{arith}
use Rattle.std.proofs.lemmas.Int.{to_z-of_z}
use Rattle.applications.proofs.Limits.{kept_first, kept_second}
use Rattle.applications.proofs.stock.StockOperation.step.Goals as goal

pub returns-in-Cast : goal.returns-in-Cast
returns-in-Cast c = grind (arith, to_z-of_z, kept_first, kept_second)
