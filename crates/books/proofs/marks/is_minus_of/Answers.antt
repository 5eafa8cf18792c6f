use Rattle.std.proofs.Common.{sym, ◌∙◌}
use Rattle.std.proofs.lemmas.Bool.{and_left}
use Rattle.format.proofs.Same.{identifier_eq}
use Rattle.books.proofs.marks.is_minus_of.Goals as goal

pub returns-else-eq : goal.returns-else-eq
returns-else-eq c =
    c.if-eq.false ∙ sym (and_left _ _ (sym (identifier_eq c.args.mark.now.target c.args.chain.now) ∙ sym c.eq.ensures ∙ c.if-eq.false))
