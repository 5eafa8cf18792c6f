-- Bytes that were written one behind the other, with zeros behind them.
use Rattle.std.proofs.Common.{◌≡◌, ℕ, ◌+◌, ◌-◌, ◌≤◌, List, [], ◌++◌, length, take, drop, replicate, sym, ap, ◌∙◌, append_assoc, arith, length-append, length-take}
use lib.ListN.{length-replicate}
use Rattle.std.proofs.lemmas.List.{drop_at, drop-drop, drop-replicate}
use Rattle.format.specs.Writing.{written}
use Rattle.slots.specs.Layout.{slot_len}
use Rattle.slots.specs.Written.{Adds, contents}
use Rattle.slots.specs.declared.writer.Writer.{Writer}
use Rattle.slots.specs.Bytes.{filled}

pub length_filled : (bs : List ℕ) → length bs ≤ slot_len → length (filled bs) ≡ slot_len
length_filled bs h = simp (length-append, length-replicate) (omega arith)

-- what lies behind bytes that were written over zeros
pub zeros_behind : (d x : List ℕ) (a n : ℕ) → a + length x ≤ length d → drop a d ≡ replicate (n - a) 0 → drop (a + length x) (written d a x) ≡ replicate (n - (a + length x)) 0
zeros_behind d x a n l e =
    let front : length (take a d ++ x) ≡ a + length x = simp (length-append, length-take) (omega arith) in
    ap (drop (a + length x)) (sym (append_assoc (take a d) x (drop (a + length x) d)))
    ∙ drop_at (take a d ++ x) (drop (a + length x) d) (a + length x) front
    ∙ sym (drop-drop (length x) a d)
    ∙ ap (drop (length x)) e
    ∙ drop-replicate (length x) (n - a) 0
    ∙ ap (λ k. replicate k 0) (omega arith)

-- ---- bytes that were written one behind the other
pub adds_as : {n : ℕ} {w w' : Writer n} {x y : List ℕ} → Adds w x w' → x ≡ y → Adds w y w'
adds_as {n} {w} a h = record { added = a.added ∙ ap (λ z. contents w ++ z) h }

pub adds_then : {n : ℕ} {w w₁ w₂ : Writer n} {x y : List ℕ} → Adds w x w₁ → Adds w₁ y w₂ → Adds w (x ++ y) w₂
adds_then {n} {w} {w₁} {w₂} {x} {y} a b = record { added = b.added ∙ ap (λ z. z ++ y) a.added ∙ append_assoc (contents w) x y }

-- all that was written, in a slot of zeros
pub adds_filled : {w w' : Writer slot_len} {x s : List ℕ} → contents w ≡ [] → Adds w x w' → s ≡ filled (contents w') → s ≡ filled x
adds_filled {w} {w'} {x} e a f = f ∙ ap filled (a.added ∙ ap (λ z. z ++ x) e)
