-- Lists with one number more at the end.
use Rattle.std.proofs.Common.{◌≡◌, ℕ, List, [], ◌∷◌, ◌++◌, sym, refl, ◌∙◌, append-nil}
use mathlib.Core.List.{nil≢cons, head-eq_of_cons-eq, tail-eq_of_cons-eq, append_cancel_left, concat-ne-nil}

pub snoc_is : (p q : List ℕ) (h k : ℕ) → p ++ (h ∷ []) ≡ q ++ (k ∷ []) → (p ≡ q) × (h ≡ k)
snoc_is [] [] h k e = (refl, head-eq_of_cons-eq e)
snoc_is [] (y ∷ q) h k e = absurd (concat-ne-nil k q (sym (tail-eq_of_cons-eq e)))
snoc_is (x ∷ p) [] h k e = absurd (concat-ne-nil h p (tail-eq_of_cons-eq e))
snoc_is (x ∷ p) (y ∷ q) h k e =
    let r = snoc_is p q h k (tail-eq_of_cons-eq e) in
    ((λ i. head-eq_of_cons-eq e i ∷ r.0 i), r.1)

pub snoc_longer : (p : List ℕ) (h : ℕ) → p ≡ p ++ (h ∷ []) → ⊥
snoc_longer p h e = nil≢cons (append_cancel_left p [] (h ∷ []) (append-nil p ∙ e))
