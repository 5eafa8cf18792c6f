use Rattle.std.proofs.Common.{arith}
use Rattle.std.proofs.lemmas.Bool.Decides.{nat_tests}
use Rattle.applications.specs.declared.stock.StockOperation.TheVariants.{Cast, SendOff, PlaceOrder}
use Rattle.applications.proofs.stock.SegmentStockApplication.operate.Goals as goal

-- none of the codes
pub returns-in_err-try_from : goal.returns-in_err-try_from
returns-in_err-try_from c =
    let no = c.in_err-try_from.ensures.1 in
    let n1 = no Cast in
    let n2 = no SendOff in
    let n3 = no PlaceOrder in
    grind (arith, nat_tests)
