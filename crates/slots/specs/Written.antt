-- What a writer holds.
use Rattle.std.specs.Prelude.{◌≡◌, ℕ, List, ◌++◌, take}
use Rattle.slots.specs.declared.writer.Writer.{Writer}

abbrev pub contents : {n : ℕ} → Writer n → List ℕ
contents w = take w.len w.bytes

-- x was written behind what w held
pub record Adds {n : ℕ} (w : Writer n) (x : List ℕ) (w' : Writer n) : Type 0 where
  pub added : contents w' ≡ contents w ++ x
