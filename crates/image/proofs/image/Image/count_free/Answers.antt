use Rattle.std.proofs.Common.{◌∙◌, rules, tests}
use Rattle.std.proofs.lemmas.Iterator.{YieldsList-from_slice}
use Rattle.std.proofs.lemmas.Iterator.Consumers.{YieldsList-from_filter, count_from_yields_List}
use Rattle.slots.specs.Prefixes.{begins, free_prefix}
use Rattle.image.specs.Memory.{slots}
use Rattle.image.proofs.Scanned.{count_is}
use Rattle.image.proofs.image.Image.count_free.Goals as goal

pub returns : goal.returns
returns c =
    let t = c.args.self.now in
    let ss = slots t.bytes.now in
    count_from_yields_List c.filter.result c.count.result c.count.ensures.ran (YieldsList-from_filter _ (begins free_prefix) (YieldsList-from_slice ss cc) c.filter.ensures.closure (λ x r q k. search (rules, tests)))
    ∙ count_is ss t.exact
