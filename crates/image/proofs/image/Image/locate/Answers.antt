use Rattle.std.proofs.Common.{subst}
use Rattle.slots.specs.Prefixes.{key_prefix}
use Rattle.slots.specs.Rows.{has_key}
use Rattle.slots.proofs.Begins.{key_begins}
use Rattle.image.specs.Memory.{Scan}
use Rattle.image.proofs.Scanned.{scanned}
use Rattle.image.proofs.image.Image.locate.Goals as goal

pub returns : goal.returns
returns g c =
    let bs = c.args.self.now.bytes.now in
    let k = g.K.SlotKey.keyed c.args.key.now in
    scanned (key_prefix k) (has_key k) (key_begins k c.prefix.ensures.fits) bs c.args.self.now.exact c.scan.result
    (subst (λ p. Scan p bs c.scan.result) c.prefix.ensures.value c.scan.ensures)
