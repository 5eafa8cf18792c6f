-- The ring register: a counts rings, b those left of the axis.
use Rattle.std.specs.Prelude.{ℕ, Bool, cond, ◌&&◌, ℤ, pos, negsuc, ◌+ℤ◌, Some, None, Option, ◌==◌, int_le, int_lt}
use Rattle.applications.specs.Steps.{SentValue, StepValue, Refuses, Gives, StepRule, ApplicationValue, refuse_unless}

-- the largest offset to either side in millimetres, and the count that is not passed
abbrev pub max_offset : ℤ
max_offset = pos 500

abbrev pub min_offset : ℤ
min_offset = negsuc 499

abbrev pub max_rings : ℤ
max_rings = pos 1000000

-- Operation 1 counts a ring and sends it on, operation 2 only counts it; message 1 is a ring that was sent on.
abbrev pub record_and_send : ℕ
record_and_send = 1

abbrev pub record_only : ℕ
record_only = 2

abbrev pub recorded : ℕ
recorded = 1

abbrev pub offset_allowed : ℤ → Bool
offset_allowed v = int_le min_offset v && int_le v max_offset

-- 0 ≤ b ≤ a < 1,000,000
abbrev pub counts_allowed : ℤ → ℤ → Bool
counts_allowed a b = int_le (pos 0) b && (int_le b a && int_lt a max_rings)

-- left is negative
abbrev pub with_left : ℤ → ℤ → ℤ
with_left b v = cond (int_lt v (pos 0)) (b +ℤ pos 1) b

-- one ring more with this offset, and what is sent
abbrev pub counted : ℤ → ℤ → ℤ → Option SentValue → StepValue
counted a b v sent =
    refuse_unless (offset_allowed v) 2
    (refuse_unless (counts_allowed a b) 3
    (Gives (a +ℤ pos 1) (with_left b v) sent))

abbrev pub ring_operation : StepRule
ring_operation a b code v =
    cond (code == record_and_send) (counted a b v (Some (record { code = recorded; value = v })))
    (cond (code == record_only) (counted a b v None) (Refuses 1))

abbrev pub ring_message : StepRule
ring_message a b code v = cond (code == recorded) (counted a b v None) (Refuses 1)

abbrev pub ring_register : ApplicationValue
ring_register = record { start_a = pos 0; start_b = pos 0; operation = ring_operation; message = ring_message }
