-- The earliest outgoing row of cells is the least of the rows that they hold.
use Rattle.std.proofs.Common.{◌≡◌, ℕ, ◌+◌, ◌<◌, ◌≤◌, Bool, true, false, cond, ◌⊎◌, [], ◌∷◌, ◌++◌, length, get_or, take, Some, None, Option, sym, refl, ap, ◌∙◌, subst, inl, inr}
use Rattle.std.proofs.lemmas.List.{take_more, take_all}
use Rattle.std.proofs.lemmas.Bool.{cases_Bool, both_ways}
use Rattle.std.specs.Option.{option_map}
use Rattle.format.specs.Values.{IdentifierValue}
use Rattle.books.specs.Values.{EntryValue}
use Rattle.books.specs.Meaning.{entry_value}
use Rattle.books.specs.Order.{before, Stands, Least, earlier}
use Rattle.books.specs.declared.rows.Outgoing.{Outgoing}
use Rattle.books.proofs.Lists.{split, In}
use Rattle.books.proofs.Orders.{strict_order, stays_behind}
use Rattle.slots.specs.Rows.{RowValue, holds_record, holds_mark, holds_outgoing, by_name}
use Rattle.slots.specs.Reading.{outgoing_part}
use Rattle.slots.specs.Cells.{Cells, apart, rows_of}
use Rattle.slots.proofs.Celled.{look_in, look_row, found_outgoing}
use Rattle.image.specs.Waiting.{earlier_entry, earlier_cell}

-- the earlier of two rows, as values
pub earlier_is : (best : Option Outgoing) (x : Outgoing) → option_map entry_value (earlier best (Some x)) ≡ earlier_entry (option_map entry_value best) (entry_value x)
earlier_is None x = refl
earlier_is (Some y) x = at (before (entry_value x) (entry_value y))
  where
    at : (b : Bool) → option_map entry_value (cond b (Some x) (Some y)) ≡ cond b (Some (entry_value x)) (Some (entry_value y))
    at true = refl
    at false = refl

module _ (test : IdentifierValue → Bool) where
  -- an outgoing row of the cells that the test chooses
  abbrev Chosen : Cells → EntryValue → Type 0
  Chosen os e = In (Some (holds_outgoing e)) os × (test e.name.sender ≡ true)

  -- the least of them, or none where there is none
  abbrev pub LeastIn : Cells → Option EntryValue → Type 0
  LeastIn os None = (e : EntryValue) → Chosen os e → ⊥
  LeastIn os (Some x) = Chosen os x × ((e : EntryValue) → Chosen os e → before e x ≡ false)

  pub least_none : LeastIn [] None
  least_none e c = c.0

  -- ---- one cell more
  in_front : (os : Cells) (o p : Option RowValue) → In p os → In p (os ++ o ∷ [])
  in_front [] o p m = absurd m
  in_front (x ∷ xs) o p (inl h) = inl h
  in_front (x ∷ xs) o p (inr h) = inr (in_front xs o p h)

  in_last : (os : Cells) (o : Option RowValue) → In o (os ++ o ∷ [])
  in_last [] o = inl refl
  in_last (x ∷ xs) o = inr (in_last xs o)

  in_either : (os : Cells) (o p : Option RowValue) → In p (os ++ o ∷ []) → In p os ⊎ (p ≡ o)
  in_either [] o p (inl h) = inr h
  in_either [] o p (inr h) = absurd h
  in_either (x ∷ xs) o p (inl h) = inl (inl h)
  in_either (x ∷ xs) o p (inr h) = split (in_either xs o p h) (λ m. inl (inr m)) (λ e. inr e)

  module _ (os : Cells) (o : Option RowValue) where
    -- a cell without a chosen row
    skip : ((e : EntryValue) → o ≡ Some (holds_outgoing e) → test e.name.sender ≡ true → ⊥) → (r : Option EntryValue) → LeastIn os r → LeastIn (os ++ o ∷ []) r
    skip never r h = at r h
      where
        before_it : (e : EntryValue) → Chosen (os ++ o ∷ []) e → Chosen os e
        before_it e c = split (in_either os o (Some (holds_outgoing e)) c.0) (λ m. (m, c.1)) (λ h. absurd (never e (sym h) c.1))

        at : (r : Option EntryValue) → LeastIn os r → LeastIn (os ++ o ∷ []) r
        at None h = λ e c. h e (before_it e c)
        at (Some x) h = ((in_front os o _ h.0.0, h.0.1), λ e c. h.1 e (before_it e c))

  module _ (os : Cells) (y : EntryValue) (t : test y.name.sender ≡ true) where
    abbrev more : Cells
    more = os ++ Some (holds_outgoing y) ∷ []

    last : Chosen more y
    last = (in_last os _, t)

    each : (P : EntryValue → Type 0) → ((e : EntryValue) → Chosen os e → P e) → P y → (e : EntryValue) → Chosen more e → P e
    each P f g e c =
        split (in_either os (Some (holds_outgoing y)) (Some (holds_outgoing e)) c.0)
        (λ m. f e (m, c.1))
        (λ h. let d : y ≡ e = cc in subst P d g)

    pub take_in : (r : Option EntryValue) → LeastIn os r → LeastIn more (earlier_entry r y)
    take_in None h = (last, each (λ e. before e y ≡ false) (λ e c. absurd (h e c)) (strict_order.irreflexive y))
    take_in (Some x) h =
        split (cases_Bool (before y x))
        (λ b. rw b (last, each (λ e. before e y ≡ false) (λ e c. stays_behind e x y b (h.1 e c)) (strict_order.irreflexive y)))
        (λ b. rw b ((in_front os _ _ h.0.0, h.0.1), each (λ e. before e x ≡ false) h.1 b))

  -- the row of a cell
  outgoing_none : (o : Option RowValue) → outgoing_part o ≡ None → (e : EntryValue) → o ≡ Some (holds_outgoing e) → ⊥
  outgoing_none o h e d = let k : None ≡ Some e = sym h ∙ ap outgoing_part d in cc

  outgoing_some : (o : Option RowValue) (y : EntryValue) → outgoing_part o ≡ Some y → o ≡ Some (holds_outgoing y)
  outgoing_some None y h = cc
  outgoing_some (Some (holds_record c r)) y h = cc
  outgoing_some (Some (holds_mark m)) y h = cc
  outgoing_some (Some (holds_outgoing e)) y h = let d : e ≡ y = cc in ap (λ x. Some (holds_outgoing x)) d

  one_more : (os : Cells) (o : Option RowValue) (r : Option EntryValue) (p : Option EntryValue) → outgoing_part o ≡ p → LeastIn os r → LeastIn (os ++ o ∷ []) (earlier_cell test r p)
  one_more os o r None h k = skip os o (λ e d t. outgoing_none o h e d) r k
  one_more os o r (Some y) h k =
      split (cases_Bool (test y.name.sender))
      (λ t. rw t (subst (λ z. LeastIn (os ++ z ∷ []) (earlier_entry r y)) (sym (outgoing_some o y h)) (take_in os y t r k)))
      (λ t. rw t (skip os o (λ e d u.
      let s : Some (holds_outgoing e) ≡ Some (holds_outgoing y) = sym d ∙ outgoing_some o y h in
      let g : e ≡ y = cc in
      both_ways _ t (subst (λ x. test x.name.sender ≡ true) g u)) r k))

  pub least_more : (os : Cells) (i : ℕ) (r r' : Option EntryValue) → i < length os → r' ≡ earlier_cell test r (outgoing_part (get_or os i None)) → LeastIn (take i os) r → LeastIn (take (i + 1) os) r'
  least_more os i r r' l e h =
      subst (λ z. LeastIn z r') (sym (take_more os i None l))
      (subst (LeastIn (take i os ++ get_or os i None ∷ [])) (sym e) (one_more (take i os) (get_or os i None) r (outgoing_part (get_or os i None)) refl h))

  -- ---- the rows of the cells as a map
  module _ (os : Cells) (a : apart os ≡ true) where
    stands : (e : EntryValue) → Chosen os e → Stands (rows_of os).outgoing_at test e
    stands e c = record { there = ap (λ o. option_map (λ x. x.row) (outgoing_part o)) (look_row os (holds_outgoing e) a c.0); chosen = c.1 }

    chosen : (e : EntryValue) → Stands (rows_of os).outgoing_at test e → Chosen os e
    chosen e s = (look_in os (by_name e.name) (holds_outgoing e) (found_outgoing os e s.there), s.chosen)

    pub least_is : (r : Option EntryValue) → LeastIn os r → Least (rows_of os).outgoing_at test r
    least_is None h = λ e s. h e (chosen e s)
    least_is (Some x) h = (stands x h.0, λ e s. h.1 e (chosen e s))

  pub least_all : (os : Cells) (i : ℕ) (r : Option EntryValue) → length os ≤ i → LeastIn (take i os) r → LeastIn os r
  least_all os i r l h = subst (λ z. LeastIn z r) (take_all i os l) h
