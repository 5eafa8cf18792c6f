-- The codes of operations and messages, and the numbers of faults.
use Rattle.std.specs.Prelude.{◌≡◌, ◌≢◌, ℕ, Bool, true, false, Result, MatchResult}
use Rattle.applications.specs.Ring.{record_and_send, record_only, recorded}
use Rattle.applications.specs.declared.ring.RingOperation.{RingOperation}
use Rattle.applications.specs.declared.ring.RingOperation.TheVariants.{RecordAndSend, RecordOnly}
use Rattle.applications.specs.declared.ring.RingMessage.{RingMessage}
use Rattle.applications.specs.declared.ring.RingFault.{RingFault}
use Rattle.applications.specs.declared.ring.RingFault.TheVariants.{UnknownCode, OffsetOutside, CountsOutside}
use Rattle.applications.specs.Stock.{cast, send_off, place_order, delivery, order}
use Rattle.applications.specs.declared.stock.StockOperation.{StockOperation}
use Rattle.applications.specs.declared.stock.StockOperation.TheVariants.{Cast, SendOff, PlaceOrder}
use Rattle.applications.specs.declared.stock.StockMessage.{StockMessage}
use Rattle.applications.specs.declared.stock.StockMessage.TheVariants.{Delivery, Order}
use Rattle.applications.specs.declared.stock.StockFault.{StockFault}
use Rattle.applications.specs.declared.stock.StockFault.TheVariants.{LotOutside, TooFew, OutsideLimits}
use Rattle.applications.specs.declared.stock.StockFault.TheVariants.{UnknownCode as StockUnknown}

-- the result is the value with this code, or the fault where no value has it
abbrev pub Decodes : {K E : Type 0} → (K → ℕ) → E → ℕ → Result K E → Type 0
Decodes {K} code_of unknown code r = MatchResult r (λ k. code_of k ≡ code) (λ e. (e ≡ unknown) × ((k : K) → code_of k ≢ code))

-- the result passes where the test holds, and is the fault otherwise
abbrev pub Checks : {E : Type 0} → Bool → E → Result (Unit {0}) E → Type 0
Checks test fault r = MatchResult r (λ _. test ≡ true) (λ e. (e ≡ fault) × (test ≡ false))

abbrev pub ring_operation_code : RingOperation → ℕ
ring_operation_code RecordAndSend = record_and_send
ring_operation_code RecordOnly = record_only

abbrev pub ring_message_code : RingMessage → ℕ
ring_message_code _ = recorded

abbrev pub ring_fault : RingFault → ℕ
ring_fault UnknownCode = 1
ring_fault OffsetOutside = 2
ring_fault CountsOutside = 3

abbrev pub stock_operation_code : StockOperation → ℕ
stock_operation_code Cast = cast
stock_operation_code SendOff = send_off
stock_operation_code PlaceOrder = place_order

abbrev pub stock_message_code : StockMessage → ℕ
stock_message_code Delivery = delivery
stock_message_code Order = order

abbrev pub stock_fault : StockFault → ℕ
stock_fault StockUnknown = 1
stock_fault LotOutside = 2
stock_fault TooFew = 3
stock_fault OutsideLimits = 4
