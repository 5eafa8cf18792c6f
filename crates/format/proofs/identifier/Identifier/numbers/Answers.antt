use Rattle.format.proofs.Order.{identifier_order}
use Rattle.format.proofs.Same.{identifier_eq}
use Rattle.format.proofs.identifier.Identifier.numbers.Goals as goal

pub returns-clause-equality : goal.returns-clause-equality
returns-clause-equality c = identifier_eq

pub returns-clause-order : goal.returns-clause-order
returns-clause-order c = identifier_order
