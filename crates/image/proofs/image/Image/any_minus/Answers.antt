use Rattle.std.proofs.Common.{◌∙◌, subst}
use Rattle.format.specs.Meaning.{identifier_value}
use Rattle.slots.specs.Cells.{held_and, minus_row}
use Rattle.slots.specs.Prefixes.{minus_prefix}
use Rattle.slots.proofs.Begins.{minus_begins}
use Rattle.image.specs.Memory.{Scan}
use Rattle.image.proofs.Scanned.{scanned, some_scanned}
use Rattle.image.proofs.image.Image.any_minus.Goals as goal

pub returns : goal.returns
returns c =
    let bs = c.args.self.now.bytes.now in
    let d = identifier_value c.args.chain.now in
    c.is_some.ensures
    ∙ some_scanned (held_and (minus_row d)) bs c.scan.result
    (scanned (minus_prefix d) (held_and (minus_row d)) (minus_begins d c.minus_of.ensures.fits) bs c.args.self.now.exact c.scan.result
    (subst (λ p. Scan p bs c.scan.result) c.minus_of.ensures.value c.scan.ensures))
