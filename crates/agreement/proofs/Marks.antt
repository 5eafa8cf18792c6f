-- What the Receives and the sent rows of a block do to the rows of the books.
use Rattle.std.proofs.Common.{◌≡◌, Bool, true, false, cond, ◌⊎◌, List, [], ◌∷◌, map, Some, sym, refl, ap, ◌∙◌, subst, inl, inr, ⊎_elim}
use Rattle.format.specs.Values.{IdentifierValue, NameValue, MessageValue}
use Rattle.format.proofs.Same.{name_decides}
use Rattle.books.specs.Values.{SignValue, plus, minus, MarkValue, marking, OutgoingValue, EntryValue}
use Rattle.books.specs.Same.{same_mark}
use Rattle.books.specs.SameLemmas.{mark_decides}
use Rattle.books.specs.Lists.{any}
use Rattle.books.specs.Books.{Rows, Operation, put_mark, remove_mark, puts, updated, apply, apply_all}
use Rattle.protocol.specs.Calls.{receipts, put_entry}
use Rattle.agreement.specs.Lists.{In, Once}
use Rattle.agreement.proofs.Basics.{true_false, some_is, decided, put_same, put_other, put_cases}

abbrev IsPlus : SignValue → Type 0
IsPlus plus = Unit
IsPlus minus = ⊥

pub plus_minus : ◌≡◌ {A = SignValue} plus minus → ⊥
plus_minus e = subst IsPlus e tt

signs : {c c' : IdentifierValue} {m m' : MessageValue} {s s' : SignValue} → marking c m s ≡ marking c' m' s' → s ≡ s'
signs e = ap (λ (k : MarkValue). k.sign) e

pub record Receipt (c : IdentifierValue) (ms : List MessageValue) (R R' : Rows) : Type 0 where
  pub records : R'.record_at ≡ R.record_at
  pub outgoing : R'.outgoing_at ≡ R.outgoing_at
  pub minus_kept : (c' : IdentifierValue) (m : MessageValue) → R.marked (marking c' m minus) ≡ true → R'.marked (marking c' m minus) ≡ true
  pub plus_was : (c' : IdentifierValue) (m : MessageValue) → R'.marked (marking c' m plus) ≡ true → R.marked (marking c' m plus) ≡ true
  pub plus_not : (m : MessageValue) → In m ms → R'.marked (marking c m plus) ≡ true → ⊥
  pub got : (m : MessageValue) → In m ms → (R'.marked (marking c m minus) ≡ true) ⊎ (R.marked (marking c m plus) ≡ true)

module _ (c : IdentifierValue) where
  nothing_received : (R : Rows) → Receipt c [] R R
  nothing_received R =
      record { records = refl; outgoing = refl; minus_kept = λ c' m e. e; plus_was = λ c' m e. e; plus_not = λ m i e. i; got = λ m i. absurd i }

  module _ (m : MessageValue) (ms : List MessageValue) (R R' : Rows) where
    removed_first : R.marked (marking c m plus) ≡ true → Receipt c ms (apply (remove_mark (marking c m plus)) R) R' → Receipt c (m ∷ ms) R R'
    removed_first q t =
        record {
          records = t.records;
          outgoing = t.outgoing;
          minus_kept = λ c' x e. t.minus_kept c' x (put_other mark_decides k false R.marked (marking c' x minus) (λ p. plus_minus (sym (signs p))) ∙ e);
          plus_was = λ c' x e. was c' x (t.plus_was c' x e);
          plus_not = λ x i e. ⊎_elim (λ p. true_false (sym (t.plus_was c x e) ∙ put_same mark_decides k false R.marked (marking c x plus) (ap (λ z. marking c z plus) p))) (λ j. t.plus_not x j e) i;
          got = λ x i. ⊎_elim (λ p. inr (ap (λ z. R.marked (marking c z plus)) p ∙ q)) (λ j. ⊎_elim (λ a. inl a) (λ a. inr (was c x a)) (t.got x j)) i;
        }
      where
        k : MarkValue
        k = marking c m plus

        was : (c' : IdentifierValue) (x : MessageValue) → updated same_mark (marking c m plus) false R.marked (marking c' x plus) ≡ true → R.marked (marking c' x plus) ≡ true
        was c' x e = ⊎_elim (λ p. absurd (true_false (sym p.1))) (λ p. p.1) (put_cases mark_decides (marking c m plus) false R.marked (marking c' x plus) true e)

    put_first : R.marked (marking c m plus) ≡ false → Receipt c ms (apply (put_mark (marking c m minus)) R) R' → Receipt c (m ∷ ms) R R'
    put_first q t =
        record {
          records = t.records;
          outgoing = t.outgoing;
          minus_kept = λ c' x e. t.minus_kept c' x (kept c' x e);
          plus_was = λ c' x e. was c' x (t.plus_was c' x e);
          plus_not = λ x i e. ⊎_elim (λ p. true_false (sym (was c x (t.plus_was c x e)) ∙ (ap (λ z. R.marked (marking c z plus)) p ∙ q))) (λ j. t.plus_not x j e) i;
          got = λ x i. ⊎_elim
              (λ p. inl (t.minus_kept c x (put_same mark_decides (marking c m minus) true R.marked (marking c x minus) (ap (λ z. marking c z minus) p))))
              (λ j. ⊎_elim (λ a. inl a) (λ a. inr (was c x a)) (t.got x j)) i;
        }
      where
        was : (c' : IdentifierValue) (x : MessageValue) → updated same_mark (marking c m minus) true R.marked (marking c' x plus) ≡ true → R.marked (marking c' x plus) ≡ true
        was c' x e = ⊎_elim (λ p. absurd (plus_minus (signs p.0))) (λ p. p.1) (put_cases mark_decides (marking c m minus) true R.marked (marking c' x plus) true e)

        kept : (c' : IdentifierValue) (x : MessageValue) → R.marked (marking c' x minus) ≡ true → updated same_mark (marking c m minus) true R.marked (marking c' x minus) ≡ true
        kept c' x e = go (decided mark_decides (marking c' x minus) (marking c m minus))
          where
            go : Dec (marking c' x minus ≡ marking c m minus) → updated same_mark (marking c m minus) true R.marked (marking c' x minus) ≡ true
            go (yes p) = put_same mark_decides (marking c m minus) true R.marked (marking c' x minus) p
            go (no n) = put_other mark_decides (marking c m minus) true R.marked (marking c' x minus) n ∙ e

  abbrev ops_from : MessageValue → List MessageValue → Rows → Bool → List Operation
  ops_from m ms R x =
      cond x (remove_mark (marking c m plus) ∷ receipts c (updated same_mark (marking c m plus) false R.marked) ms)
      (put_mark (marking c m minus) ∷ receipts c (updated same_mark (marking c m minus) true R.marked) ms)

  pub receipt : (ms : List MessageValue) (R : Rows) → Receipt c ms R (apply_all (receipts c R.marked ms) R)
  receipt [] R = nothing_received R
  receipt (m ∷ ms) R =
      go (R.marked (marking c m plus)) refl (receipt ms (apply (remove_mark (marking c m plus)) R)) (receipt ms (apply (put_mark (marking c m minus)) R))
    where
      R1 : Rows
      R1 = apply (remove_mark (marking c m plus)) R

      R2 : Rows
      R2 = apply (put_mark (marking c m minus)) R

      go : (x : Bool) → R.marked (marking c m plus) ≡ x → Receipt c ms R1 (apply_all (receipts c R1.marked ms) R1) → Receipt c ms R2 (apply_all (receipts c R2.marked ms) R2)
          → Receipt c (m ∷ ms) R (apply_all (ops_from m ms R (R.marked (marking c m plus))) R)
      go true q t u = subst (λ y. Receipt c (m ∷ ms) R (apply_all (ops_from m ms R y) R)) (sym q) (removed_first m ms R (apply_all (receipts c R1.marked ms) R1) q t)
      go false q t u = subst (λ y. Receipt c (m ∷ ms) R (apply_all (ops_from m ms R y) R)) (sym q) (put_first m ms R (apply_all (receipts c R2.marked ms) R2) q u)

  -- Receives that put no mark are of different messages, each with a plus mark
  pub no_puts : (ms : List MessageValue) (M : MarkValue → Bool) → any puts (receipts c M ms) ≡ false → Once ms × ((m : MessageValue) → In m ms → M (marking c m plus) ≡ true)
  no_puts [] M e = (tt, λ m i. absurd i)
  no_puts (m ∷ ms) M e = go (M (marking c m plus)) refl e (λ f. no_puts ms (updated same_mark (marking c m plus) false M) f)
    where
      M1 : MarkValue → Bool
      M1 = updated same_mark (marking c m plus) false M

      go : (x : Bool) → M (marking c m plus) ≡ x
          → any puts (cond x (remove_mark (marking c m plus) ∷ receipts c (updated same_mark (marking c m plus) false M) ms)
          (put_mark (marking c m minus) ∷ receipts c (updated same_mark (marking c m minus) true M) ms)) ≡ false
          → (any puts (receipts c M1 ms) ≡ false → Once ms × ((x : MessageValue) → In x ms → M1 (marking c x plus) ≡ true))
          → Once (m ∷ ms) × ((x : MessageValue) → In x (m ∷ ms) → M (marking c x plus) ≡ true)
      go false q f ih = absurd (true_false f)
      go true q f ih =
          let r = ih f in (
            ((λ i. true_false (sym (r.1 m i) ∙ put_same mark_decides (marking c m plus) false M (marking c m plus) refl)), r.0),
            λ x i. ⊎_elim (λ p. ap (λ z. M (marking c z plus)) p ∙ q) (λ j. was x (r.1 x j)) i,
          )
        where
          was : (x : MessageValue) → updated same_mark (marking c m plus) false M (marking c x plus) ≡ true → M (marking c x plus) ≡ true
          was x g = ⊎_elim (λ p. absurd (true_false (sym p.1))) (λ p. p.1) (put_cases mark_decides (marking c m plus) false M (marking c x plus) true g)

-- the rows after the sent rows are put
pub record Posted (rs : List EntryValue) (R R' : Rows) : Type 0 where
  pub records : R'.record_at ≡ R.record_at
  pub marks : R'.marked ≡ R.marked
  pub was : (n : NameValue) (o : OutgoingValue) → R'.outgoing_at n ≡ Some o → (R.outgoing_at n ≡ Some o) ⊎ ((r : EntryValue) × (In r rs × ((n ≡ r.name) × (o ≡ r.row))))
  pub untouched : (n : NameValue) → ((r : EntryValue) → In r rs → ¬ (n ≡ r.name)) → R'.outgoing_at n ≡ R.outgoing_at n

pub posted : (rs : List EntryValue) (R : Rows) → Posted rs R (apply_all (map put_entry rs) R)
posted [] R = record { records = refl; marks = refl; was = λ n o e. inl e; untouched = λ n h. refl }
posted (r ∷ rs) R =
    let t = posted rs (apply (put_entry r) R) in
    record {
      records = t.records;
      marks = t.marks;
      was = λ n o e. ⊎_elim
          (λ p. ⊎_elim (λ q. inr (r, (inl refl, (q.0, sym (some_is q.1))))) (λ q. inl q.1) (put_cases name_decides r.name (Some r.row) R.outgoing_at n (Some o) p))
          (λ p. inr (p.0, (inr p.1.0, p.1.1))) (t.was n o e);
      untouched = λ n h. t.untouched n (λ q i. h q (inr i)) ∙ put_other name_decides r.name (Some r.row) R.outgoing_at n (h r (inl refl));
    }
