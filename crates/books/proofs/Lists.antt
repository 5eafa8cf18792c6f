-- Tests and searches over lists of rows.
use Rattle.std.specs.Bool.{MatchBool}
use Rattle.std.proofs.Common.{false, ◌≡◌, ℕ, suc, ◌<◌, Bool, true, ◌⊎◌, List, [], ◌∷◌, length, get_or, sym, refl, subst, inl, inr, arith}
use Rattle.std.proofs.lemmas.Bool.{false≢true, or_cases, or_left, or_right}
use Rattle.books.specs.Lists.{any}

-- cases, the scrutinee first
pub split : {A B C : Type 0} → A ⊎ B → (A → C) → (B → C) → C
split (inl a) f g = f a
split (inr b) f g = g b

-- a fact for each answer from one for each
pub either : (r : Bool) {A B C D : Type 0} → (A → C) → (B → D) → MatchBool r A B → MatchBool r C D
either true f g h = f h
either false f g h = g h

-- a row of a list
abbrev pub In : {R : Type 0} → R → List R → Type 0
In x [] = ⊥
In x (y ∷ ys) = (x ≡ y) ⊎ In x ys

pub in_place : {R : Type 0} (rs : List R) (r : R) → In r rs → (i : ℕ) × (i < length rs) × ((d : R) → get_or rs i d ≡ r)
in_place [] r m = absurd m
in_place (x ∷ xs) r (inl h) = (0, omega arith, λ d. sym h)
in_place (x ∷ xs) r (inr h) = let p = in_place xs r h in let l : p.0 < length xs = p.1 in (suc p.0, omega arith, p.2)

pub any_in : {R : Type 0} (test : R → Bool) (rs : List R) → any test rs ≡ true → (r : R) × In r rs × (test r ≡ true)
any_in test [] e = absurd (false≢true e)
any_in test (x ∷ xs) e =
    split (or_cases (test x) (any test xs) e)
    (λ h. (x, inl refl, h))
    (λ h. let p = any_in test xs h in (p.0, inr p.1, p.2))

pub in_any : {R : Type 0} (test : R → Bool) (rs : List R) (r : R) → In r rs → test r ≡ true → any test rs ≡ true
in_any test [] r m e = absurd m
in_any test (x ∷ xs) r (inl h) e = or_left (test x) (any test xs) (subst (λ z. test z ≡ true) h e)
in_any test (x ∷ xs) r (inr h) e = or_right (test x) (any test xs) (in_any test xs r h e)
