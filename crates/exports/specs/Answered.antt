-- How a digest is handed to a buffer of the caller.
use Rattle.std.specs.Prelude.{◌≡◌, ℕ, ◌<◌, ◌≤◌, Bool, true, false, List, ◌++◌, length, drop}
use Rattle.hash.specs.Sizes.{digest_len}

-- The answer is whether the buffer has room. Then the digest stands at its front and the rest is as before; else all is.
pub record Answered (digest before : List ℕ) (answer : Bool) (after : List ℕ) : Type 0 where
  pub room : digest_len ≤ length before → (answer ≡ true) × (after ≡ digest ++ drop digest_len before)
  pub no_room : length before < digest_len → (answer ≡ false) × (after ≡ before)
