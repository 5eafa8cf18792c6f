use Rattle.std.proofs.Common.{◌∙◌}
use Rattle.books.proofs.Signs.{mark_eq}
use Rattle.books.proofs.keys.MarkKeyed.has_key.Goals as goal

pub returns-then-eq : goal.returns-then-eq
returns-then-eq c = c.eq-then-eq.ensures ∙ mark_eq c.args.self.now c.args.key.now
