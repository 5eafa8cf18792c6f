use Rattle.std.proofs.Common.{arith}
use Rattle.std.proofs.lemmas.Int.{to_z-of_z}
use Rattle.applications.proofs.Limits.{kept_first, kept_second}
use Rattle.applications.proofs.stock.StockMessage.step.Goals as goal

pub returns-in-Delivery : goal.returns-in-Delivery
returns-in-Delivery c = grind (arith, to_z-of_z, kept_first, kept_second)
