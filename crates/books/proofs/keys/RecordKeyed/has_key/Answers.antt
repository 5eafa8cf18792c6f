use Rattle.std.proofs.Common.{◌∙◌}
use Rattle.format.proofs.Same.{identifier_eq}
use Rattle.books.proofs.keys.RecordKeyed.has_key.Goals as goal

pub returns : goal.returns
returns c = c.eq.ensures ∙ identifier_eq c.args.self.now.identifier c.args.key.now
