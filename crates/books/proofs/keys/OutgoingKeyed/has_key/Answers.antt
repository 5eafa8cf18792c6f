use Rattle.std.proofs.Common.{◌∙◌}
use Rattle.format.proofs.Same.{name_eq}
use Rattle.books.proofs.keys.OutgoingKeyed.has_key.Goals as goal

pub returns-then-eq : goal.returns-then-eq
returns-then-eq c = c.eq-then-eq.ensures ∙ name_eq c.args.self.now.name c.args.key.now
