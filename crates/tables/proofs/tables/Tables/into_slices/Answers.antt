use Rattle.std.proofs.Common.{rules}
use Rattle.tables.proofs.Back.{given_back}
use Rattle.tables.proofs.tables.Tables.into_slices.Goals as goal

pub returns : goal.returns
returns c = given_back c.args.self _ (search rules)
