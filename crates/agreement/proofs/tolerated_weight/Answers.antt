use Rattle.agreement.proofs.Agreement.{members_agree}
use Rattle.agreement.proofs.Votes.{votes_are_one}
use Rattle.agreement.proofs.Instance.{accepting_run}
use Rattle.agreement.proofs.tolerated_weight.Goals as goal

pub returns : goal.returns
returns c = record { value = c.faulty.ensures; agreement = members_agree; votes = votes_are_one; instance = accepting_run }
