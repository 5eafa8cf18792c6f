-- Maps and lists.
use Rattle.std.proofs.Common.{◌≡◌, Bool, cond, ◌⊎◌, List, [], ◌∷◌, ◌++◌, Decides, sym, refl, ◌∙◌, inl, inr, ⊎_elim}
use Rattle.std.proofs.lemmas.Bool.{cases_Bool, cond-true, cond-false, false≢true}
use Rattle.books.specs.Books.{updated}
pub use Rattle.protocol.proofs.Outcomes.{refused_passed, passed_is, bind_passed, then_passed, check_holds, check_passed, given_passed, some_none, none_some, some_is, true_false}
use Rattle.agreement.specs.Lists.{In, Once}

-- ---- tests that decide

pub same_cond : {P V : Type 0} {t : Bool} → Decides t P → P → (u v : V) → cond t u v ≡ u
same_cond d p u v = cond-true _ u v (d.1 p)

pub other_cond : {P V : Type 0} {t : Bool} → Decides t P → ¬ P → (u v : V) → cond t u v ≡ v
other_cond {t = t} d n u v = ⊎_elim (λ e. absurd (n (d.0 e))) (λ e. cond-false _ u v e) (cases_Bool t)

pub decision : {P : Type 0} {t : Bool} → Decides t P → Dec P
decision {t = t} d = ⊎_elim (λ e. yes (d.0 e)) (λ e. no (λ p. false≢true (sym e ∙ d.1 p))) (cases_Bool t)

pub decided : {K : Type 0} {same : K → K → Bool} → ((x y : K) → Decides (same x y) (x ≡ y)) → (x y : K) → Dec (x ≡ y)
decided decides x y = decision (decides x y)

module _ {K V : Type 0} {same : K → K → Bool} (decides : (x y : K) → Decides (same x y) (x ≡ y)) where
  -- a map with one entry changed
  pub put_same : (k : K) (v : V) (f : K → V) (x : K) → x ≡ k → updated same k v f x ≡ v
  put_same k v f x e = same_cond (decides k x) (sym e) v (f x)

  pub put_other : (k : K) (v : V) (f : K → V) (x : K) → ¬ (x ≡ k) → updated same k v f x ≡ f x
  put_other k v f x n = other_cond (decides k x) (λ e. n (sym e)) v (f x)

  -- the entry is the new one, or an old one under another key
  pub put_cases : (k : K) (v : V) (f : K → V) (x : K) (y : V) → updated same k v f x ≡ y → ((x ≡ k) × (v ≡ y)) ⊎ ((¬ (x ≡ k)) × (f x ≡ y))
  put_cases k v f x y e = go (decided decides x k)
    where
      go : Dec (x ≡ k) → ((x ≡ k) × (v ≡ y)) ⊎ ((¬ (x ≡ k)) × (f x ≡ y))
      go (yes p) = inl (p, sym (put_same k v f x p) ∙ e)
      go (no n) = inr (n, sym (put_other k v f x n) ∙ e)

-- ---- lists

pub in_left : {X : Type 0} (x : X) (xs ys : List X) → In x xs → In x (xs ++ ys)
in_left x [] ys i = absurd i
in_left x (y ∷ xs) ys (inl e) = inl e
in_left x (y ∷ xs) ys (inr i) = inr (in_left x xs ys i)

pub in_right : {X : Type 0} (x : X) (xs ys : List X) → In x ys → In x (xs ++ ys)
in_right x [] ys i = i
in_right x (y ∷ xs) ys i = inr (in_right x xs ys i)

pub in_either : {X : Type 0} (x : X) (xs ys : List X) → In x (xs ++ ys) → In x xs ⊎ In x ys
in_either x [] ys i = inr i
in_either x (y ∷ xs) ys (inl e) = inl (inl e)
in_either x (y ∷ xs) ys (inr i) = ⊎_elim (λ l. inl (inr l)) (λ r. inr r) (in_either x xs ys i)

pub once_both : {X : Type 0} (xs ys : List X) → Once xs → Once ys → ((m : X) → In m xs → In m ys → ⊥) → Once (xs ++ ys)
once_both [] ys o p h = p
once_both (x ∷ xs) ys o p h =
    ((λ i. ⊎_elim o.0 (h x (inl refl)) (in_either x xs ys i)), once_both xs ys o.1 p (λ m i j. h m (inr i) j))
