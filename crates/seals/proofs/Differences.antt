-- Differences of bytes, gathered by or.
use Rattle.std.proofs.Common.{◌≡◌, ℕ, ◌+◌, ◌<◌, eqb, List, [], ◌∷◌, ◌++◌, length, get_or, take, Decides, sym, ap, ◌∙◌, arith}
use lib.Bits.{bit_or, bit_xor, and_le_l, and_le_r, or_add_and, or_zero_l, xor_assoc, xor_self, xor_zero_l, xor_zero_r}
use Rattle.std.proofs.lemmas.List.{take_more, same_from_push}
use Rattle.std.proofs.lemmas.Bool.{eq-eqb, eqb-true}

-- an or is zero exactly where both are
or_left : (a b : ℕ) → bit_or a b ≡ 0 → a ≡ 0
or_left a b e = omega (arith, or_add_and a b, and_le_r a b, e)

or_right : (a b : ℕ) → bit_or a b ≡ 0 → b ≡ 0
or_right a b e = omega (arith, or_add_and a b, and_le_l a b, e)

-- an exclusive or is zero only of equals
xor_same : (a b : ℕ) → bit_xor a b ≡ 0 → a ≡ b
xor_same a b e =
    sym (xor_zero_r a) ∙ ap (bit_xor a) (sym (xor_self b)) ∙ sym (xor_assoc a b b) ∙ ap (λ n. bit_xor n b) e ∙ xor_zero_l b

xor_zero : (a b : ℕ) → a ≡ b → bit_xor a b ≡ 0
xor_zero a b e = ap (bit_xor a) (sym e) ∙ xor_self a

-- one more byte compared
pub differs_more : (d i : ℕ) (xs ys : List ℕ) → i < length xs → i < length ys
    → Decides (eqb d 0) (take i xs ≡ take i ys)
    → Decides (eqb (bit_or d (bit_xor (get_or xs i 0) (get_or ys i 0))) 0) (take (i + 1) xs ≡ take (i + 1) ys)
differs_more d i xs ys h k t =
    let x = get_or xs i 0 in
    let y = get_or ys i 0 in (
      (λ e.
          let z = eqb-true (bit_or d (bit_xor x y)) 0 e in
          let fronts = t.0 (eq-eqb d 0 (or_left d (bit_xor x y) z)) in
          let bytes = xor_same x y (or_right d (bit_xor x y) z) in
          take_more xs i 0 h ∙ (λ j. fronts j ++ (bytes j ∷ [])) ∙ sym (take_more ys i 0 k)),
      (λ e.
          let both = same_from_push (take i xs) (take i ys) x y (sym (take_more xs i 0 h) ∙ e ∙ take_more ys i 0 k) in
          eq-eqb (bit_or d (bit_xor x y)) 0 ((λ j. bit_or (eqb-true d 0 (t.1 both.0) j) (xor_zero x y both.1 j)) ∙ or_zero_l 0)),
    )
