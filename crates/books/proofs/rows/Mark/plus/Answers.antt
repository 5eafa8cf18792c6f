use Rattle.books.proofs.Signs.{mark_eq, sign_eq}
use Rattle.books.proofs.rows.Mark.plus.Goals as goal

pub returns-clause-equality : goal.returns-clause-equality
returns-clause-equality c = mark_eq

pub returns-clause-sign_equality : goal.returns-clause-sign_equality
returns-clause-sign_equality c = sign_eq
