-- A place, or the limit where there is none.
use Rattle.std.specs.Prelude.{ℕ, cond, Some, None, Option, nat_lt}
use Rattle.image.specs.Memory.{max_slots}

abbrev pub place : ℕ → Option ℕ
place n = cond (nat_lt n max_slots) (Some n) None
