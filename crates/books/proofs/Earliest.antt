-- The earliest row of a list is the least of the rows that it holds.
use Rattle.std.proofs.Common.{◌≡◌, ℕ, ◌+◌, ◌<◌, ◌≤◌, Bool, true, false, cond, List, [], ◌∷◌, length, get_or, drop, IfSome, Some, None, Option, sym, refl, ap, ◌∙◌, subst, inl, inr, arith, MatchOption}
use Rattle.std.specs.Option.{option_map}
use Rattle.std.proofs.lemmas.List.{at_drop_more, at_drop_all}
use Rattle.std.proofs.lemmas.Bool.{cases_Bool}
use Rattle.format.specs.Values.{IdentifierValue, NameValue}
use Rattle.format.specs.Same.{same_name}
use Rattle.format.proofs.Same.{name_decides}
use Rattle.books.specs.Values.{OutgoingValue, EntryValue}
use Rattle.books.specs.Meaning.{outgoing_key, outgoing_value, entry_value}
use Rattle.books.specs.Lists.{find, Apart}
use Rattle.books.specs.Order.{before, earlier, earliest, Stands, Least}
use Rattle.books.specs.declared.rows.Outgoing.{Outgoing}
use Rattle.books.proofs.Lists.{split, In}
use Rattle.books.proofs.Finds.{find_in, find_row}
use Rattle.books.proofs.Orders.{strict_order, stays_behind}

-- ---- a loop over the rows
module _ (test : Outgoing → Bool) (rs : List Outgoing) (i : ℕ) (r : Option Outgoing) (so_far : earliest test r (drop i rs) ≡ earliest test None rs) where
  pub earliest_more : (x : Outgoing) (r' : Option Outgoing) → i < length rs → x ≡ get_or rs i x → r' ≡ cond (test x) (earlier r (Some x)) r → earliest test r' (drop (i + 1) rs) ≡ earliest test None rs
  earliest_more x r' l e h =
      ap (λ o. earliest test o (drop (i + 1) rs)) (h ∙ ap (λ z. cond (test z) (earlier r (Some z)) r) e)
      ∙ sym (at_drop_more (earliest test r) rs i x l) ∙ so_far

  pub earliest_all : length rs ≤ i → r ≡ earliest test None rs
  earliest_all l = sym (at_drop_all (earliest test r) rs i l) ∙ so_far

-- ---- what it is
-- a row that x is not before
abbrev Behind : Outgoing → Option Outgoing → Type 0
Behind x r = MatchOption r ⊥ (λ y. before (entry_value x) (entry_value y) ≡ false)

behind_earlier : (x y : Outgoing) (r : Option Outgoing) → Behind x r → Behind x (earlier r (Some y))
behind_earlier x y None h = absurd h
behind_earlier x y (Some z) h = split (cases_Bool (before (entry_value y) (entry_value z)))
    (λ e. rw e (stays_behind (entry_value x) (entry_value z) (entry_value y) e h))
    (λ e. rw e h)

behind_itself : (x : Outgoing) (r : Option Outgoing) → Behind x (earlier r (Some x))
behind_itself x None = strict_order.irreflexive (entry_value x)
behind_itself x (Some z) = split (cases_Bool (before (entry_value x) (entry_value z)))
    (λ e. rw e (strict_order.irreflexive (entry_value x)))
    (λ e. rw e e)

module _ (test : Outgoing → Bool) where
  -- the earliest so far, after one more row
  abbrev next : Outgoing → Option Outgoing → Option Outgoing
  next x r = cond (test x) (earlier r (Some x)) r

  behind_next : (x y : Outgoing) (r : Option Outgoing) → Behind x r → Behind x (next y r)
  behind_next x y r h = split (cases_Bool (test y)) (λ e. rw e (behind_earlier x y r h)) (λ e. rw e h)

  behind_stays : (x : Outgoing) (rs : List Outgoing) (r : Option Outgoing) → Behind x r → Behind x (earliest test r rs)
  behind_stays x [] r h = h
  behind_stays x (y ∷ ys) r h = behind_stays x ys (next y r) (behind_next x y r h)

  -- no row that the test chooses is before it
  behind_all : (x : Outgoing) (rs : List Outgoing) (r : Option Outgoing) → In x rs → test x ≡ true → Behind x (earliest test r rs)
  behind_all x [] r m e = absurd m
  behind_all x (y ∷ ys) r (inl h) e =
      let t : test y ≡ true = subst (λ z. test z ≡ true) h e in
      subst (λ z. Behind z (earliest test (next y r) ys)) (sym h) (behind_stays y ys (next y r) (rw t (behind_itself y r)))
  behind_all x (y ∷ ys) r (inr h) e = behind_all x ys (next y r) h e

  -- it is one of them
  abbrev Has : (Outgoing → Type 0) → Option Outgoing → Type 0
  Has P r = IfSome r P

  has_next : (P : Outgoing → Type 0) (x : Outgoing) (r : Option Outgoing) → Has P r → (test x ≡ true → P x) → Has P (next x r)
  has_next P x None h p = split (cases_Bool (test x)) (λ e. rw e (p e)) (λ e. rw e tt)
  has_next P x (Some y) h p =
      split (cases_Bool (test x))
      (λ e. rw e (split (cases_Bool (before (entry_value x) (entry_value y))) (λ d. rw d (p e)) (λ d. rw d h)))
      (λ e. rw e h)

  has_all : (P : Outgoing → Type 0) (rs : List Outgoing) (r : Option Outgoing) → Has P r → ((x : Outgoing) → In x rs → test x ≡ true → P x) → Has P (earliest test r rs)
  has_all P [] r h f = h
  has_all P (y ∷ ys) r h f = has_all P ys (next y r) (has_next P y r h (f y (inl refl))) (λ x m. f x (inr m))

-- ---- the rows of a list as a map
module _ (rs : List Outgoing) (apart : Apart outgoing_key same_name rs) (test : IdentifierValue → Bool) where
  abbrev at : NameValue → Option OutgoingValue
  at n = option_map outgoing_value (find outgoing_key same_name rs n)

  abbrev sender_test : Outgoing → Bool
  sender_test x = test (entry_value x).name.sender

  listed_stands : (x : Outgoing) → In x rs → sender_test x ≡ true → Stands at test (entry_value x)
  listed_stands x m e = record { there = ap (option_map outgoing_value) (find_row outgoing_key same_name name_decides rs x apart m); chosen = e }

  stands_listed : (y : EntryValue) → Stands at test y → (x : Outgoing) × In x rs × (sender_test x ≡ true) × (entry_value x ≡ y)
  stands_listed y s = found (find outgoing_key same_name rs y.name) refl
    where
      found : (r : Option Outgoing) → find outgoing_key same_name rs y.name ≡ r → (x : Outgoing) × In x rs × (sender_test x ≡ true) × (entry_value x ≡ y)
      found None e = absurd (let h = sym (ap (option_map outgoing_value) e) ∙ s.there in let z : ◌≡◌ {A = ℕ} 0 1 = cc in omega arith)
      found (Some x) e =
          let f = find_in outgoing_key same_name name_decides rs y.name x e in
          let h : Some (outgoing_value x) ≡ Some y.row = sym (ap (option_map outgoing_value) e) ∙ s.there in
          let v : outgoing_value x ≡ y.row = cc in
          (x, f.0, subst (λ n. test n.sender ≡ true) (sym f.1) s.chosen, λ i. record { name = f.1 i; row = v i })

  pub earliest_least : Least at test (option_map entry_value (earliest sender_test None rs))
  earliest_least = least (earliest sender_test None rs)
      (has_all sender_test (λ x. Stands at test (entry_value x)) rs None tt listed_stands)
      (λ x m e. behind_all sender_test x rs None m e)
    where
      least : (r : Option Outgoing) → IfSome r (λ x. Stands at test (entry_value x)) → ((x : Outgoing) → In x rs → sender_test x ≡ true → Behind x r) → Least at test (option_map entry_value r)
      least None h f = λ y s. let p = stands_listed y s in f p.0 p.1 p.2
      least (Some x) h f = (h, λ y s. let p = stands_listed y s in subst (λ z. before z (entry_value x) ≡ false) p.3 (f p.0 p.1 p.2))
