-- Bytes written one after another.
use Rattle.std.proofs.Common.{◌≡◌, ℕ, ◌+◌, ◌-◌, ◌<◌, ◌≤◌, List, [], ◌∷◌, ◌++◌, length, get_or, take, drop, sym, ap, ◌∙◌, subst, append_assoc, append-nil, add-zero, arith, length-append, length-drop, take-append-drop, length-take, take_all}
use Rattle.std.proofs.lemmas.List.{take_at, drop_at, drop-drop, drop_all, take_more, at_drop_more}
use Rattle.std.proofs.lemmas.Grind.{flat_map-append}
use Rattle.std.specs.List.{flat_map}
use Rattle.format.specs.Writing.{written, Wrote}

pub length_written : (d : List ℕ) (a : ℕ) (x : List ℕ) → a + length x ≤ length d → length (written d a x) ≡ length d
length_written d a x h = simp (length-append, length-take, length-drop) (omega arith)

written_twice : (d : List ℕ) (a : ℕ) (x y : List ℕ) → a + length x + length y ≤ length d → written (written d a x) (a + length x) y ≡ written d a (x ++ y)
written_twice d a x y room =
    let front : length (take a d ++ x) ≡ a + length x = simp (length-append, length-take) (omega arith) in
    let split : written d a x ≡ (take a d ++ x) ++ drop (a + length x) d = sym (append_assoc (take a d) x (drop (a + length x) d)) in
    let before : take (a + length x) (written d a x) ≡ take a d ++ x = ap (take (a + length x)) split ∙ take_at (take a d ++ x) (drop (a + length x) d) (a + length x) front in
    let behind : drop (a + length x) (written d a x) ≡ drop (a + length x) d = ap (drop (a + length x)) split ∙ drop_at (take a d ++ x) (drop (a + length x) d) (a + length x) front in
    let after : drop (a + length x + length y) (written d a x) ≡ drop (a + length x + length y) d
    = sym (drop-drop (length y) (a + length x) (written d a x)) ∙ ap (drop (length y)) behind ∙ drop-drop (length y) (a + length x) d in
    let end : a + length x + length y ≡ a + length (x ++ y) = simp length-append (omega arith) in
    (λ i. before i ++ (y ++ after i))
    ∙ append_assoc (take a d) x (y ++ drop (a + length x + length y) d)
    ∙ ap (λ z. take a d ++ z) (sym (append_assoc x y (drop (a + length x + length y) d)))
    ∙ ap (λ j. take a d ++ ((x ++ y) ++ drop j d)) end

module _ {d : List ℕ} {a : ℕ} {x d₁ : List ℕ} {a₁ : ℕ} (p : Wrote d a x d₁ a₁) where
  pub kept_length : length d₁ ≡ length d
  kept_length = ap length p.held ∙ length_written d a x p.fits

  -- y behind x
  pub wrote_then : {y d₂ : List ℕ} {a₂ : ℕ} → Wrote d₁ a₁ y d₂ a₂ → Wrote d a (x ++ y) d₂ a₂
  wrote_then {y} q =
      let room : a + length x + length y ≤ length d = omega (arith, q.fits, p.end, kept_length) in
      record {
        fits = simp length-append (omega arith);
        end = q.end ∙ ap (λ j. j + length y) p.end ∙ simp length-append (omega arith);
        held = q.held ∙ (λ i. written (p.held i) (p.end i) y) ∙ written_twice d a x y room;
      }

  -- the same bytes by another term
  pub wrote_as : {y : List ℕ} → x ≡ y → Wrote d a y d₁ a₁
  wrote_as e = subst (λ z. Wrote d a z d₁ a₁) e p

pub wrote_none : (d : List ℕ) (a : ℕ) → a ≤ length d → Wrote d a [] d a
wrote_none d a h = record {
  fits = omega arith;
  end = omega arith;
  held = sym (take-append-drop a d) ∙ ap (λ j. take a d ++ drop j d) (sym (add-zero a));
}

-- the whole buffer written over
pub wrote_whole : {d x d₁ : List ℕ} {a₁ : ℕ} → Wrote d 0 x d₁ a₁ → a₁ ≡ length d → d₁ ≡ x
wrote_whole {d} {x} p e = p.held ∙ ap (λ z. x ++ z) (drop_all (0 + length x) d (omega (arith, p.end))) ∙ append-nil x

-- a part of the buffer copied over
pub written_part : (d : List ℕ) (a : ℕ) (x w : List ℕ) → w ≡ x → take a d ++ (w ++ drop (a + length x - a) (drop a d)) ≡ written d a x
written_part d a x w e =
    let end : a + (a + length x - a) ≡ a + length x = omega arith in
    (λ i. take a d ++ (e i ++ drop (a + length x - a) (drop a d)))
    ∙ ap (λ z. take a d ++ (x ++ z)) (drop-drop (a + length x - a) a d ∙ ap (λ j. drop j d) end)

-- items written one after another, each by its bytes
module _ {X : Type 0} (f : X → List ℕ) where
  module _ (xs : List X) (i : ℕ) (x : X) (h : i < length xs) (e : x ≡ get_or xs i x) where
    pub joined_take : flat_map f (take i xs) ++ f x ≡ flat_map f (take (i + 1) xs)
    joined_take =
        ap (λ z. flat_map f (take i xs) ++ z) (sym (append-nil (f x)))
        ∙ sym (flat_map-append f (take i xs) (x ∷ []))
        ∙ ap (λ y. flat_map f (take i xs ++ (y ∷ []))) e
        ∙ ap (flat_map f) (sym (take_more xs i x h))

    joined_drop : flat_map f (drop i xs) ≡ f x ++ flat_map f (drop (i + 1) xs)
    joined_drop = at_drop_more (flat_map f) xs i x h ∙ ap (λ y. f y ++ flat_map f (drop (i + 1) xs)) (sym e)

    pub length_joined_drop : length (flat_map f (drop i xs)) ≡ length (f x) + length (flat_map f (drop (i + 1) xs))
    length_joined_drop = ap length joined_drop ∙ length-append (f x) (flat_map f (drop (i + 1) xs))

    pub item_fits : length (flat_map f (take i xs)) + length (f x) ≤ length (flat_map f xs)
    item_fits =
        let whole = ap length (sym (flat_map-append f (take i xs) (drop i xs)) ∙ ap (flat_map f) (take-append-drop i xs)) in
        let parts = length-append (flat_map f (take i xs)) (flat_map f (drop i xs)) in
        omega (arith, whole, parts, length_joined_drop)

    -- one item more, by its bytes
    pub wrote_item : {d d₁ d₂ : List ℕ} {from a₁ a₂ : ℕ} → Wrote d from (flat_map f (take i xs)) d₁ a₁ → Wrote d₁ a₁ (f x) d₂ a₂ → Wrote d from (flat_map f (take (i + 1) xs)) d₂ a₂
    wrote_item p q = wrote_as (wrote_then p q) joined_take

  pub wrote_all : (xs : List X) (i : ℕ) → length xs ≤ i → {d d₁ : List ℕ} {a a₁ : ℕ} → Wrote d a (flat_map f (take i xs)) d₁ a₁ → Wrote d a (flat_map f xs) d₁ a₁
  wrote_all xs i h p = wrote_as p (ap (flat_map f) (take_all i xs h))
