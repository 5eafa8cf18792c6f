use Rattle.std.proofs.Common.{not, is_some, subst}
use Rattle.slots.specs.Prefixes.{free_prefix}
use Rattle.slots.proofs.Begins.{free_begins}
use Rattle.image.specs.Memory.{Scan}
use Rattle.image.proofs.Scanned.{scanned, free_scanned}
use Rattle.image.proofs.image.Image.free_slot.Goals as goal

pub returns : goal.returns
returns c =
    let bs = c.args.self.now.bytes.now in
    free_scanned bs c.scan.result
    (scanned free_prefix (λ o. not (is_some o)) free_begins bs c.args.self.now.exact c.scan.result
    (subst (λ p. Scan p bs c.scan.result) c.free.ensures c.scan.ensures))
