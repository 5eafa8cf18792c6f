-- Steps in a row, and what the numbers then count.
use Rattle.std.specs.Prelude.{◌≡◌, ℕ, ◌+◌, cond, List, [], ◌∷◌, length, ℤ, pos, ◌+ℤ◌, ◌-ℤ◌, Some, None, Option, ◌==◌, int_lt}
use Rattle.applications.specs.Steps.{StepValue, Refuses, Gives, ApplicationValue}
use Rattle.applications.specs.Ring.{ring_register}
use Rattle.applications.specs.Stock.{cast, send_off, delivery, order, segment_stock}

-- a step that is asked for, with its code and value
pub data AskedStep : Type 0 where
  by_operation : ℕ → ℤ → AskedStep
  by_message : ℕ → ℤ → AskedStep

-- a refused step: its place in the row, and the application's own number
pub record StopValue : Type 0 where
  pub place : ℕ
  pub number : ℕ

-- the numbers after all steps, or after those before the first refused one
pub record TallyValue : Type 0 where
  pub a : ℤ
  pub b : ℤ
  pub stop : Option StopValue

abbrev pub made : ApplicationValue → ℤ → ℤ → AskedStep → StepValue
made A a b (by_operation code value) = A.operation a b code value
made A a b (by_message code value) = A.message a b code value

-- what a step at a place, from a and b, comes to, and what follows it
abbrev pub onward : (ℤ → ℤ → TallyValue) → ℕ → ℤ → ℤ → StepValue → TallyValue
onward next place a b (Refuses n) = record { a = a; b = b; stop = Some (record { place = place; number = n }) }
onward next place a b (Gives a' b' sent) = next a' b'

-- the steps from a place on
abbrev pub tally_from : ApplicationValue → List AskedStep → ℕ → ℤ → ℤ → TallyValue
tally_from A [] place a b = record { a = a; b = b; stop = None }
tally_from A (s ∷ ss) place a b = onward (tally_from A ss (place + 1)) place a b (made A a b s)

-- ---- the ring register
abbrev pub offset_of : AskedStep → ℤ
offset_of (by_operation code value) = value
offset_of (by_message code value) = value

-- how many rings lie left of the axis
abbrev pub left_of_axis : List AskedStep → ℕ
left_of_axis [] = 0
left_of_axis (s ∷ ss) = cond (int_lt (offset_of s) (pos 0)) 1 0 + left_of_axis ss

abbrev pub ring_tally : List AskedStep → TallyValue
ring_tally rings = tally_from ring_register rings 0 (pos 0) (pos 0)

-- where no ring is refused, a is how many there are, and b how many of them lie left of the axis
abbrev pub RingsAreCounted : Type 0
RingsAreCounted =
    (rings : List AskedStep) → (ring_tally rings).stop ≡ None
    → ((ring_tally rings).a ≡ pos (length rings)) × ((ring_tally rings).b ≡ pos (left_of_axis rings))

-- ---- the segment stock
-- segments that are cast or come in, that leave, and that come in
abbrev pub added : AskedStep → ℤ
added (by_operation code n) = cond (code == cast) n (pos 0)
added (by_message code n) = cond (code == delivery) n (pos 0)

abbrev pub taken : AskedStep → ℤ
taken (by_operation code n) = cond (code == send_off) n (pos 0)
taken (by_message code n) = cond (code == order) n (pos 0)

abbrev pub arrived : AskedStep → ℤ
arrived (by_operation code n) = pos 0
arrived (by_message code n) = cond (code == delivery) n (pos 0)

abbrev pub total : (AskedStep → ℤ) → List AskedStep → ℤ
total f [] = pos 0
total f (s ∷ ss) = f s +ℤ total f ss

abbrev pub stock_tally : List AskedStep → TallyValue
stock_tally steps = tally_from segment_stock steps 0 (pos 0) (pos 0)

-- where no step is refused, a is what was added less what was taken, and b what arrived
abbrev pub StockBalances : Type 0
StockBalances =
    (steps : List AskedStep) → (stock_tally steps).stop ≡ None
    → ((stock_tally steps).a ≡ total added steps -ℤ total taken steps) × ((stock_tally steps).b ≡ total arrived steps)
