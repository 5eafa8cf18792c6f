-- Each step of the ring register and of the segment stock that refuses does so with a number from 1 to 255.
use Rattle.std.specs.Prelude.{ℕ, ◌≤◌, Bool, true, false, cond, not, ◌&&◌, ℤ, pos, ◌+ℤ◌, ◌-ℤ◌, Some, None, Option, ◌==◌, int_lt}
use Rattle.std.proofs.Common.{lit≤}
use Rattle.applications.specs.Steps.{SentValue, StepValue, Refuses, Gives, Numbered, RuleNumbered, refuse_unless}
use Rattle.applications.specs.Ring.{record_and_send, record_only, recorded, offset_allowed, counts_allowed, with_left, counted, ring_operation, ring_message}
use Rattle.applications.specs.Stock.{cast, send_off, place_order, delivery, order, lot_allowed, stock_allowed, said, kept, taking, without_taking, stock_operation, stock_message}

either : (t : Bool) (x y : StepValue) → Numbered x → Numbered y → Numbered (cond t x y)
either true x y p q = p
either false x y p q = q

refusing : (t : Bool) (n : ℕ) (x : StepValue) → 1 ≤ n → n ≤ 255 → Numbered x → Numbered (refuse_unless t n x)
refusing true n x low high p = p
refusing false n x low high p = (low, high)

-- an unknown code
unknown : Numbered (Refuses 1)
unknown = (lit≤ tt, lit≤ tt)

ring_counted : (a b v : ℤ) (sent : Option SentValue) → Numbered (counted a b v sent)
ring_counted a b v sent =
    let one_more = Gives (a +ℤ pos 1) (with_left b v) sent in
    refusing (offset_allowed v) 2 (refuse_unless (counts_allowed a b) 3 one_more) (lit≤ tt) (lit≤ tt)
    (refusing (counts_allowed a b) 3 one_more (lit≤ tt) (lit≤ tt) (tt {0}))

pub ring_operation_numbered : RuleNumbered ring_operation
ring_operation_numbered a b code v =
    let sent : Option SentValue = Some (record { code = recorded; value = v }) in
    either (code == record_and_send) (counted a b v sent) (cond (code == record_only) (counted a b v None) (Refuses 1)) (ring_counted a b v sent)
    (either (code == record_only) (counted a b v None) (Refuses 1) (ring_counted a b v None) unknown)

pub ring_message_numbered : RuleNumbered ring_message
ring_message_numbered a b code v = either (code == recorded) (counted a b v None) (Refuses 1) (ring_counted a b v None) unknown

stock_kept : (a b a' b' : ℤ) (sent : Option SentValue) → Numbered (kept a b a' b' sent)
stock_kept a b a' b' sent =
    refusing ((stock_allowed a && stock_allowed b) && (stock_allowed a' && stock_allowed b')) 4 (Gives a' b' sent) (lit≤ tt) (lit≤ tt) (tt {0})

stock_without_taking : (a b n a' b' : ℤ) (sent : Option SentValue) → Numbered (without_taking a b n a' b' sent)
stock_without_taking a b n a' b' sent = refusing (lot_allowed n) 2 (kept a b a' b' sent) (lit≤ tt) (lit≤ tt) (stock_kept a b a' b' sent)

stock_taking : (a b n : ℤ) → Numbered (taking a b n)
stock_taking a b n =
    let left = kept a b (a -ℤ n) b (said delivery n) in
    refusing (lot_allowed n) 2 (refuse_unless (not (int_lt a n)) 3 left) (lit≤ tt) (lit≤ tt)
    (refusing (not (int_lt a n)) 3 left (lit≤ tt) (lit≤ tt) (stock_kept a b (a -ℤ n) b (said delivery n)))

pub stock_operation_numbered : RuleNumbered stock_operation
stock_operation_numbered a b code n =
    let added = without_taking a b n (a +ℤ n) b None in
    let ordered = without_taking a b n a b (said order n) in
    either (code == cast) added (cond (code == send_off) (taking a b n) (cond (code == place_order) ordered (Refuses 1)))
    (stock_without_taking a b n (a +ℤ n) b None)
    (either (code == send_off) (taking a b n) (cond (code == place_order) ordered (Refuses 1)) (stock_taking a b n)
    (either (code == place_order) ordered (Refuses 1) (stock_without_taking a b n a b (said order n)) unknown))

pub stock_message_numbered : RuleNumbered stock_message
stock_message_numbered a b code n =
    let delivered = without_taking a b n (a +ℤ n) (b +ℤ n) None in
    either (code == delivery) delivered (cond (code == order) (taking a b n) (Refuses 1))
    (stock_without_taking a b n (a +ℤ n) (b +ℤ n) None)
    (either (code == order) (taking a b n) (Refuses 1) (stock_taking a b n) unknown)
