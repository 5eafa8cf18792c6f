-- Bytes written over a part of a buffer.
use Rattle.std.specs.Prelude.{◌≡◌, ℕ, ◌+◌, ◌≤◌, List, length}
pub use Rattle.hash.specs.Written.{written}

-- x is written over d from place a on, within d: the buffer then holds d', and a' is the place behind x
pub record Wrote (d : List ℕ) (a : ℕ) (x d' : List ℕ) (a' : ℕ) : Type 0 where
  pub fits : a + length x ≤ length d
  pub end : a' ≡ a + length x
  pub held : d' ≡ written d a x
