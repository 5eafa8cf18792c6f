use Rattle.agreement.proofs.Worked.{worked_values}
use Rattle.agreement.proofs.worked_values.Goals as goal

pub returns : goal.returns
returns c = record { farthest = rw c.into.ensures at c.operate.ensures; values = worked_values }
