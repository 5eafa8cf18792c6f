-- The segment stock: a is what a chain has, b what arrived by messages.
use Rattle.std.specs.Prelude.{ℕ, Bool, cond, not, ◌&&◌, ℤ, pos, ◌+ℤ◌, ◌-ℤ◌, Some, None, Option, ◌==◌, int_le, int_lt}
use Rattle.applications.specs.Steps.{SentValue, StepValue, Refuses, Gives, StepRule, ApplicationValue, refuse_unless}

-- the most segments of one operation or message, and of a stock
abbrev pub max_lot : ℤ
max_lot = pos 1000

abbrev pub max_stock : ℤ
max_stock = pos 1000000000

-- Operation 1 casts n segments, 2 sends n of them off, 3 orders n. Message 1 is a delivery of n, message 2 an order for n.
abbrev pub cast : ℕ
cast = 1

abbrev pub send_off : ℕ
send_off = 2

abbrev pub place_order : ℕ
place_order = 3

abbrev pub delivery : ℕ
delivery = 1

abbrev pub order : ℕ
order = 2

abbrev pub lot_allowed : ℤ → Bool
lot_allowed n = int_le (pos 1) n && int_le n max_lot

abbrev pub stock_allowed : ℤ → Bool
stock_allowed x = int_le (pos 0) x && int_le x max_stock

abbrev pub said : ℕ → ℤ → Option SentValue
said code n = Some (record { code = code; value = n })

-- new numbers where both are allowed, before and after
abbrev pub kept : ℤ → ℤ → ℤ → ℤ → Option SentValue → StepValue
kept a b a' b' sent =
    refuse_unless ((stock_allowed a && stock_allowed b) && (stock_allowed a' && stock_allowed b')) 4 (Gives a' b' sent)

-- nothing is taken
abbrev pub without_taking : ℤ → ℤ → ℤ → ℤ → ℤ → Option SentValue → StepValue
without_taking a b n a' b' sent = refuse_unless (lot_allowed n) 2 (kept a b a' b' sent)

-- n is taken from a and sent
abbrev pub taking : ℤ → ℤ → ℤ → StepValue
taking a b n =
    refuse_unless (lot_allowed n) 2
    (refuse_unless (not (int_lt a n)) 3
    (kept a b (a -ℤ n) b (said delivery n)))

abbrev pub stock_operation : StepRule
stock_operation a b code n =
    cond (code == cast) (without_taking a b n (a +ℤ n) b None)
    (cond (code == send_off) (taking a b n)
    (cond (code == place_order) (without_taking a b n a b (said order n)) (Refuses 1)))

abbrev pub stock_message : StepRule
stock_message a b code n =
    cond (code == delivery) (without_taking a b n (a +ℤ n) (b +ℤ n) None)
    (cond (code == order) (taking a b n) (Refuses 1))

abbrev pub segment_stock : ApplicationValue
segment_stock = record { start_a = pos 0; start_b = pos 0; operation = stock_operation; message = stock_message }
