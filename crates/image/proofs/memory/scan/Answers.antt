use Rattle.std.proofs.Common.{rules, tests}
use Rattle.std.proofs.lemmas.Iterator.{YieldsList-from_slice}
use Rattle.std.proofs.lemmas.Iterator.Search.{position_from_yields_List}
use Rattle.slots.specs.Prefixes.{begins, prefix_value}
use Rattle.image.specs.Memory.{slots}
use Rattle.image.proofs.Scanned.{scan_is}
use Rattle.image.proofs.memory.scan.Goals as goal

pub returns : goal.returns
returns c =
    let bs = c.args.bytes.now in
    let p = prefix_value c.args.prefix.now in
    scan_is p bs c.position.result (position_from_yields_List (begins p) _ _ c.position.result c.position.ensures.ran (YieldsList-from_slice (slots bs) cc) (λ x b q k. search (rules, tests)))
