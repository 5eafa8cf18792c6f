-- The meaning of two books side by side: the first's rows of chains whose first number is even, and the second's of the others.
use Rattle.std.specs.Prelude.{◌≡◌, Bool, true, false, cond, not, ◌&&◌, refl}
use Rattle.std.proofs.Common.{sym, ap, ◌∙◌}
use Rattle.std.proofs.lemmas.Bool.{and_from, and_parts, not-true}
use Rattle.format.specs.Values.{IdentifierValue, MessageValue}
use Rattle.format.specs.Same.{first_is_even}
use Rattle.books.specs.Values.{minus, marking}
use Rattle.books.specs.Counts.{Counts, Fewer}
use Rattle.books.specs.Sides.{on}
use Rattle.books.specs.Books.{Rows, Fits, BooksValue, NoRow, Laws}
use Rattle.books.specs.declared.side.Side.{Side}
use Rattle.books.specs.declared.side.Side.TheVariants.{All, Even, Odd}

-- what two workers say of a chain
abbrev pub by_chain : {X : Type 0} → IdentifierValue → X → X → X
by_chain c x y = cond (first_is_even c) x y

abbrev pub joined_rows : Rows → Rows → Rows
joined_rows w v = record {
  record_at = λ c. by_chain c (w.record_at c) (v.record_at c);
  marked = λ k. by_chain k.target (w.marked k) (v.marked k);
  outgoing_at = λ n. by_chain n.sender (w.outgoing_at n) (v.outgoing_at n);
}

abbrev pub joined_fits : Fits → Fits → Fits
joined_fits f g c x = by_chain c (f c x) (g c x)

-- no row of the chains on a side, where each worker answers for its own
abbrev pub joined_blank : (Side → Bool) → (Side → Bool) → Side → Bool
joined_blank f g All = f Even && g Odd
joined_blank f g Even = f Even
joined_blank f g Odd = g Odd

abbrev pub joined : BooksValue → BooksValue → BooksValue
joined m n = record {
  rows = joined_rows m.rows n.rows;
  fits = joined_fits m.fits n.fits;
  owing = λ c. by_chain c (m.owing c) (n.owing c);
  blank = joined_blank m.blank n.blank;
}

-- ---- the laws
-- what holds of both holds of the one chosen
either : {X : Type 0} (P : X → Type 0) (b : Bool) (x y : X) → P x → P y → P (cond b x y)
either P true x y p q = p
either P false x y p q = q

-- the rows on the first's side are the first's, those on the other the second's
even_none : (w v : Rows) → NoRow w (on Even) → NoRow (joined_rows w v) (on Even)
even_none w v h = record {
  no_record = λ c e. ap (λ b. cond b (w.record_at c) (v.record_at c)) e ∙ h.no_record c e;
  no_mark = λ k e. ap (λ b. cond b (w.marked k) (v.marked k)) e ∙ h.no_mark k e;
  no_outgoing = λ n e. ap (λ b. cond b (w.outgoing_at n) (v.outgoing_at n)) e ∙ h.no_outgoing n e;
}

none_even : (w v : Rows) → NoRow (joined_rows w v) (on Even) → NoRow w (on Even)
none_even w v h = record {
  no_record = λ c e. sym (ap (λ b. cond b (w.record_at c) (v.record_at c)) e) ∙ h.no_record c e;
  no_mark = λ k e. sym (ap (λ b. cond b (w.marked k) (v.marked k)) e) ∙ h.no_mark k e;
  no_outgoing = λ n e. sym (ap (λ b. cond b (w.outgoing_at n) (v.outgoing_at n)) e) ∙ h.no_outgoing n e;
}

odd_none : (w v : Rows) → NoRow v (on Odd) → NoRow (joined_rows w v) (on Odd)
odd_none w v h = record {
  no_record = λ c e. ap (λ b. cond b (w.record_at c) (v.record_at c)) (not-true _ e) ∙ h.no_record c e;
  no_mark = λ k e. ap (λ b. cond b (w.marked k) (v.marked k)) (not-true _ e) ∙ h.no_mark k e;
  no_outgoing = λ n e. ap (λ b. cond b (w.outgoing_at n) (v.outgoing_at n)) (not-true _ e) ∙ h.no_outgoing n e;
}

none_odd : (w v : Rows) → NoRow (joined_rows w v) (on Odd) → NoRow v (on Odd)
none_odd w v h = record {
  no_record = λ c e. sym (ap (λ b. cond b (w.record_at c) (v.record_at c)) (not-true _ e)) ∙ h.no_record c e;
  no_mark = λ k e. sym (ap (λ b. cond b (w.marked k) (v.marked k)) (not-true _ e)) ∙ h.no_mark k e;
  no_outgoing = λ n e. sym (ap (λ b. cond b (w.outgoing_at n) (v.outgoing_at n)) (not-true _ e)) ∙ h.no_outgoing n e;
}

-- each chain lies on one of the two sides
on_either : {P : Type 0} (b : Bool) → (b ≡ true → P) → (not b ≡ true → P) → P
on_either true f g = f refl
on_either false f g = g refl

all_none : (w : Rows) → NoRow w (on Even) → NoRow w (on Odd) → NoRow w (on All)
all_none w h k = record {
  no_record = λ c e. on_either (first_is_even c) (h.no_record c) (k.no_record c);
  no_mark = λ x e. on_either (first_is_even x.target) (h.no_mark x) (k.no_mark x);
  no_outgoing = λ n e. on_either (first_is_even n.sender) (h.no_outgoing n) (k.no_outgoing n);
}

none_on : (w : Rows) (s : Side) → NoRow w (on All) → NoRow w (on s)
none_on w s h = record { no_record = λ c e. h.no_record c refl; no_mark = λ k e. h.no_mark k refl; no_outgoing = λ n e. h.no_outgoing n refl }

module _ (m n : BooksValue) (p : Laws m) (q : Laws n) where
  less : (c : IdentifierValue) (x y : Counts) → Fewer x y → (b : Bool) → cond b (m.fits c y) (n.fits c y) ≡ true → cond b (m.fits c x) (n.fits c x) ≡ true
  less c x y h true e = p.less_fits c x y h e
  less c x y h false e = q.less_fits c x y h e

  owes_by : (c : IdentifierValue) (x : MessageValue) (b : Bool) → cond b (m.rows.marked (marking c x minus)) (n.rows.marked (marking c x minus)) ≡ true → cond b (m.owing c) (n.owing c) ≡ true
  owes_by c x true e = p.owes c x e
  owes_by c x false e = q.owes c x e

  owed_by : (c : IdentifierValue) (b : Bool) → cond b (m.owing c) (n.owing c) ≡ true → (x : MessageValue) × (cond b (m.rows.marked (marking c x minus)) (n.rows.marked (marking c x minus)) ≡ true)
  owed_by c true e = p.owed c e
  owed_by c false e = q.owed c e

  blank_none_on : (s : Side) → joined_blank m.blank n.blank s ≡ true → NoRow (joined_rows m.rows n.rows) (on s)
  blank_none_on All e =
      let h = and_parts (m.blank Even) (n.blank Odd) e in
      all_none (joined_rows m.rows n.rows) (even_none m.rows n.rows (p.blank_none Even h.0)) (odd_none m.rows n.rows (q.blank_none Odd h.1))
  blank_none_on Even e = even_none m.rows n.rows (p.blank_none Even e)
  blank_none_on Odd e = odd_none m.rows n.rows (q.blank_none Odd e)

  none_blank_on : (s : Side) → NoRow (joined_rows m.rows n.rows) (on s) → joined_blank m.blank n.blank s ≡ true
  none_blank_on All h =
      and_from _ _ (p.none_blank Even (none_even m.rows n.rows (none_on (joined_rows m.rows n.rows) Even h)))
      (q.none_blank Odd (none_odd m.rows n.rows (none_on (joined_rows m.rows n.rows) Odd h)))
  none_blank_on Even h = p.none_blank Even (none_even m.rows n.rows h)
  none_blank_on Odd h = q.none_blank Odd (none_odd m.rows n.rows h)

  pub joined_laws : Laws (joined m n)
  joined_laws = record {
    zeros_fit = λ c. either (λ t. t ≡ true) (first_is_even c) _ _ (p.zeros_fit c) (q.zeros_fit c);
    less_fits = λ c x y h. less c x y h (first_is_even c);
    owes = λ c x. owes_by c x (first_is_even c);
    owed = λ c. owed_by c (first_is_even c);
    blank_none = blank_none_on;
    none_blank = none_blank_on;
  }
