-- A change of one worker's books is that change of the two.
use Rattle.std.proofs.Common.{◌≡◌, ◌≤◌, Bool, true, false, cond, not, ◌||◌, Some, None, Decides, sym, refl, ap, ◌∙◌, subst, add-zero, arith}
use mathlib.Core.Path.{fun_ext}
use Rattle.std.proofs.lemmas.Bool.{cases_Bool, not_from_false}
use Rattle.format.specs.Values.{IdentifierValue}
use Rattle.format.specs.Same.{same_identifier, same_name, first_is_even}
use Rattle.format.proofs.Same.{identifier_decides, name_decides}
use Rattle.books.specs.Same.{same_mark}
use Rattle.books.specs.Counts.{Counts, none, Kind, a_record, a_mark, an_outgoing, more}
use Rattle.books.specs.Books.{BooksValue, Rows, Fits, Operation, put_record, put_mark, put_outgoing, remove_record, remove_mark, remove_outgoing, kind, chain_of, puts, present, updated, with_records, with_marks, with_outgoing, apply, Takes, Gives, Places, Step, Tried}
use Rattle.books.specs.SameLemmas.{mark_decides}
use Rattle.books.proofs.Lists.{either, split}
use Rattle.split.specs.Joined.{joined}

-- the first's where a test chooses the chain, and else the second's
abbrev rows_by : (IdentifierValue → Bool) → Rows → Rows → Rows
rows_by s w v = record {
  record_at = λ c. cond (s c) (w.record_at c) (v.record_at c);
  marked = λ k. cond (s k.target) (w.marked k) (v.marked k);
  outgoing_at = λ n. cond (s n.sender) (w.outgoing_at n) (v.outgoing_at n);
}

abbrev fits_by : (IdentifierValue → Bool) → Fits → Fits → Fits
fits_by s f g c x = cond (s c) (f c x) (g c x)

-- a map changed at a key that is the first's
updated_first : {K X : Type 0} (same : K → K → Bool) → ((x y : K) → Decides (same x y) (x ≡ y)) → (t : K → Bool) (f g : K → X) (k : K) (v : X)
    → t k ≡ true → (q : K) → cond (t q) (updated same k v f q) (g q) ≡ updated same k v (λ z. cond (t z) (f z) (g z)) q
updated_first same decides t f g k v e q =
    split (cases_Bool (same k q))
    (λ h. let d : t q ≡ true = subst (λ z. t z ≡ true) ((decides k q).0 h) e in rw (h, d))
    (λ h. rw h)

no_more : (k : Kind) (x : Counts) → x ≡ more k 0 x
no_more a_record x = λ i. record { records = sym (add-zero x.records) i; marks = x.marks; outgoing = x.outgoing }
no_more a_mark x = λ i. record { records = x.records; marks = sym (add-zero x.marks) i; outgoing = x.outgoing }
no_more an_outgoing x = λ i. record { records = x.records; marks = x.marks; outgoing = sym (add-zero x.outgoing) i }

module _ (s : IdentifierValue → Bool) where
  -- ---- the rows
  apply_first : (o : Operation) (w v : Rows) → s (chain_of o) ≡ true → rows_by s (apply o w) v ≡ apply o (rows_by s w v)
  apply_first (put_record c r) w v e = ap (λ f. with_records f (rows_by s w v)) (fun_ext (updated_first same_identifier identifier_decides s w.record_at v.record_at c (Some r) e))
  apply_first (put_mark k) w v e = ap (λ f. with_marks f (rows_by s w v)) (fun_ext (updated_first same_mark mark_decides (λ x. s x.target) w.marked v.marked k true e))
  apply_first (put_outgoing n o) w v e = ap (λ f. with_outgoing f (rows_by s w v)) (fun_ext (updated_first same_name name_decides (λ x. s x.sender) w.outgoing_at v.outgoing_at n (Some o) e))
  apply_first (remove_record c) w v e = ap (λ f. with_records f (rows_by s w v)) (fun_ext (updated_first same_identifier identifier_decides s w.record_at v.record_at c None e))
  apply_first (remove_mark k) w v e = ap (λ f. with_marks f (rows_by s w v)) (fun_ext (updated_first same_mark mark_decides (λ x. s x.target) w.marked v.marked k false e))
  apply_first (remove_outgoing n) w v e = ap (λ f. with_outgoing f (rows_by s w v)) (fun_ext (updated_first same_name name_decides (λ x. s x.sender) w.outgoing_at v.outgoing_at n None e))

  present_first : (o : Operation) (w v : Rows) → s (chain_of o) ≡ true → present (rows_by s w v) o ≡ present w o
  present_first (put_record c r) w v e = rw e
  present_first (put_mark k) w v e = rw e
  present_first (put_outgoing n o) w v e = rw e
  present_first (remove_record c) w v e = rw e
  present_first (remove_mark k) w v e = rw e
  present_first (remove_outgoing n) w v e = rw e

  -- ---- the places
  takes_first : (k : Kind) (c : IdentifierValue) (f f' g : Fits) → s c ≡ true → Takes k c f f' → Takes k c (fits_by s f g) (fits_by s f' g)
  takes_first k c f f' g e t = record {
    taken = λ d. cond (s d) (t.taken d) 0;
    own = rw e t.own;
    most = λ d. few d (s d);
    after = λ d x. then d x (s d);
  }
    where
      few : (d : IdentifierValue) (b : Bool) → cond b (t.taken d) 0 ≤ 1
      few d true = t.most d
      few d false = omega arith

      then : (d : IdentifierValue) (x : Counts) (b : Bool) → cond b (f' d x) (g d x) ≡ cond b (f d (more k (cond b (t.taken d) 0) x)) (g d (more k (cond b (t.taken d) 0) x))
      then d x true = t.after d x
      then d x false = ap (g d) (no_more k x)

  gives_first : (k : Kind) (c : IdentifierValue) (f f' g : Fits) → s c ≡ true → Gives k c f f' → Gives k c (fits_by s f g) (fits_by s f' g)
  gives_first k c f f' g e t = record { own = λ x. rw e (t.own x); others = λ d x. others d x (s d) }
    where
      others : (d : IdentifierValue) (x : Counts) (b : Bool) → cond b (f d x) (g d x) ≡ true → cond b (f' d x) (g d x) ≡ true
      others d x true h = t.others d x h
      others d x false h = h

  places_first : (p b : Bool) (k : Kind) (c : IdentifierValue) (f f' g : Fits) → s c ≡ true → Places p b k c f f' → Places p b k c (fits_by s f g) (fits_by s f' g)
  places_first true true k c f f' g e h = ap (λ z. fits_by s z g) h
  places_first true false k c f f' g e h = takes_first k c f f' g e h
  places_first false true k c f f' g e h = gives_first k c f f' g e h
  places_first false false k c f f' g e h = ap (λ z. fits_by s z g) h

  -- ---- both, of a change that was made
  rows_first : (o : Operation) (w w' v : Rows) → s (chain_of o) ≡ true → w' ≡ apply o w → rows_by s w' v ≡ apply o (rows_by s w v)
  rows_first o w w' v e h = ap (λ z. rows_by s z v) h ∙ apply_first o w v e

  fits_first : (o : Operation) (w v : Rows) (f f' g : Fits) → s (chain_of o) ≡ true → Places (puts o) (present w o) (kind o) (chain_of o) f f'
      → Places (puts o) (present (rows_by s w v) o) (kind o) (chain_of o) (fits_by s f g) (fits_by s f' g)
  fits_first o w v f f' g e h =
      subst (λ b. Places (puts o) b (kind o) (chain_of o) (fits_by s f g) (fits_by s f' g)) (sym (present_first o w v e)) (places_first (puts o) (present w o) (kind o) (chain_of o) f f' g e h)

-- ---- the two the other way round
cond_not : {X : Type 0} (b : Bool) (x y : X) → cond (not b) y x ≡ cond b x y
cond_not true x y = refl
cond_not false x y = refl

rows_turned : (s : IdentifierValue → Bool) (w v : Rows) → rows_by (λ c. not (s c)) v w ≡ rows_by s w v
rows_turned s w v = λ i. record {
  record_at = λ c. cond_not (s c) (w.record_at c) (v.record_at c) i;
  marked = λ k. cond_not (s k.target) (w.marked k) (v.marked k) i;
  outgoing_at = λ n. cond_not (s n.sender) (w.outgoing_at n) (v.outgoing_at n) i;
}

fits_turned : (s : IdentifierValue → Bool) (f g : Fits) → fits_by (λ c. not (s c)) g f ≡ fits_by s f g
fits_turned s f g = λ i c x. cond_not (s c) (f c x) (g c x) i

-- ---- the steps
abbrev odd : IdentifierValue → Bool
odd c = not (first_is_even c)

pub step_first : (o : Operation) (m m' n : BooksValue) → first_is_even (chain_of o) ≡ true → Step m o m' → Step (joined m n) o (joined m' n)
step_first o m m' n e t = record {
  rows = rows_first first_is_even o m.rows m'.rows n.rows e t.rows;
  places = fits_first first_is_even o m.rows n.rows m.fits m'.fits n.fits e t.places;
}

pub step_second : (o : Operation) (m n n' : BooksValue) → first_is_even (chain_of o) ≡ false → Step n o n' → Step (joined m n) o (joined m n')
step_second o m n n' e t = record {
  rows =
      sym (rows_turned first_is_even m.rows n'.rows)
      ∙ rows_first odd o n.rows n'.rows m.rows away t.rows
      ∙ ap (apply o) (rows_turned first_is_even m.rows n.rows);
  places =
      subst (λ w. Places (puts o) (present w o) (kind o) (chain_of o) (fits_by first_is_even m.fits n.fits) (fits_by first_is_even m.fits n'.fits)) (rows_turned first_is_even m.rows n.rows)
      (subst (λ f. Places (puts o) (present (rows_by odd n.rows m.rows) o) (kind o) (chain_of o) f (fits_by first_is_even m.fits n'.fits)) (fits_turned first_is_even m.fits n.fits)
      (subst (λ f. Places (puts o) (present (rows_by odd n.rows m.rows) o) (kind o) (chain_of o) (fits_by odd n.fits m.fits) f) (fits_turned first_is_even m.fits n'.fits)
      (fits_first odd o n.rows m.rows n.fits n'.fits m.fits away t.places)));
}
  where
    away : not (first_is_even (chain_of o)) ≡ true
    away = not_from_false _ e

-- ---- puts, made or refused
pub tried_first : (o : Operation) (r : Bool) (m m' n : BooksValue) → first_is_even (chain_of o) ≡ true → Tried m o r m' → Tried (joined m n) o r (joined m' n)
tried_first o r m m' n e t = record {
  answer = t.answer ∙ (λ i. sym (present_first first_is_even o m.rows n.rows e) i || cond (sym e i) (m.fits (chain_of o) (more (kind o) 1 none)) (n.fits (chain_of o) (more (kind o) 1 none)));
  change = either r (step_first o m m' n e) (ap (λ z. joined z n)) t.change;
}

pub tried_second : (o : Operation) (r : Bool) (m n n' : BooksValue) → first_is_even (chain_of o) ≡ false → Tried n o r n' → Tried (joined m n) o r (joined m n')
tried_second o r m n n' e t = record {
  answer = t.answer ∙ (λ i. present_second i || cond (sym e i) (m.fits (chain_of o) (more (kind o) 1 none)) (n.fits (chain_of o) (more (kind o) 1 none)));
  change = either r (step_second o m n n' e) (ap (λ z. joined m z)) t.change;
}
  where
    present_second : present n.rows o ≡ present (joined m n).rows o
    present_second =
        sym (present_first odd o n.rows m.rows (not_from_false _ e))
        ∙ ap (λ w. present w o) (rows_turned first_is_even m.rows n.rows)
