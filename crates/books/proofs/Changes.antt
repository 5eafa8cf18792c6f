-- Changes of books one after another, and the places that they take.
use Rattle.std.proofs.Common.{◌≡◌, ℕ, ◌≤◌, Bool, true, false, cond, not, ◌&&◌, List, [], ◌∷◌, ◌++◌, refl, ap, ◌∙◌, subst, arith}
use Rattle.std.proofs.lemmas.Bool.{cases_Bool, or_left, or_right}
use Rattle.std.proofs.lemmas.Bool.Decides.{when_true, when_false}
use Rattle.format.specs.Values.{IdentifierValue}
use Rattle.books.specs.Counts.{Counts, none, Fewer, Kind, a_record, a_mark, an_outgoing, more}
use Rattle.books.specs.Books.{BooksValue, Laws, Operation, kind, chain_of, puts, present, apply, apply_all, Places, Step, goes, Tried, Changed, counting, needed}
use Rattle.books.proofs.Lists.{split}

-- a put that is made, and one that is refused
pub went : (m : BooksValue) (o : Operation) (r : Bool) (m' : BooksValue) → Tried m o r m' → goes m o ≡ true → Step m o m'
went m o r m' t e = when_true (Step m o m') (m' ≡ m) (t.answer ∙ e) t.change

pub stayed : (m : BooksValue) (o : Operation) (r : Bool) (m' : BooksValue) → Tried m o r m' → goes m o ≡ false → m' ≡ m
stayed m o r m' t e = when_false (Step m o m') (m' ≡ m) (t.answer ∙ e) t.change

-- the rows after changes
pub changed_rows : (os : List Operation) (m m' : BooksValue) → Changed m os m' → m'.rows ≡ apply_all os m.rows
changed_rows [] m m' h = ap (λ n. n.rows) h
changed_rows (o ∷ os) m m' h = changed_rows os h.0 m' h.2 ∙ ap (apply_all os) h.1.rows

-- changes after changes
pub changed_after : (os ps : List Operation) (m n m' : BooksValue) → Changed m os n → Changed n ps m' → Changed m (os ++ ps) m'
changed_after [] ps m n m' h k = subst (λ z. Changed z ps m') h k
changed_after (o ∷ os) ps m n m' h k = (h.0, h.1, changed_after os ps h.0 n m' h.2 k)

pub changed_one : (o : Operation) (m m' : BooksValue) → Step m o m' → Changed m (o ∷ []) m'
changed_one o m m' s = (m', s, refl)

pub changed_push : (os : List Operation) (o : Operation) (m n m' : BooksValue) → Changed m os n → Step n o m' → Changed m (os ++ o ∷ []) m'
changed_push os o m n m' h s = changed_after os (o ∷ []) m n m' h (changed_one o n m' s)

-- ---- places
more_fewer : (k : Kind) (n : ℕ) (x : Counts) → n ≤ 1 → Fewer (more k n x) (more k 1 x)
more_fewer a_record n x h = record { records = omega arith; marks = omega arith; outgoing = omega arith }
more_fewer a_mark n x h = record { records = omega arith; marks = omega arith; outgoing = omega arith }
more_fewer an_outgoing n x h = record { records = omega arith; marks = omega arith; outgoing = omega arith }

one_fewer : (k : Kind) (x : Counts) → Fewer (more k 1 none) (more k 1 x)
one_fewer a_record x = record { records = omega arith; marks = omega arith; outgoing = omega arith }
one_fewer a_mark x = record { records = omega arith; marks = omega arith; outgoing = omega arith }
one_fewer an_outgoing x = record { records = omega arith; marks = omega arith; outgoing = omega arith }

-- What fits any chain before a change, with the place that the change takes besides, fits it after.
places_fit : (p b : Bool) (k : Kind) (c d : IdentifierValue) (m m' : BooksValue) → Laws m → Places p b k c m.fits m'.fits
    → (x : Counts) → m.fits d (cond (p && not b) (more k 1 x) x) ≡ true → m'.fits d x ≡ true
places_fit true true k c d m m' laws h x e = ap (λ f. f d x) h ∙ e
places_fit true false k c d m m' laws h x e = h.after d x ∙ laws.less_fits d _ _ (more_fewer k (h.taken d) x (h.most d)) e
places_fit false true k c d m m' laws h x e = h.others d x e
places_fit false false k c d m m' laws h x e = ap (λ f. f d x) h ∙ e

pub step_fits : (m : BooksValue) (o : Operation) (m' : BooksValue) → Laws m → Step m o m' → (d : IdentifierValue) (x : Counts) → m.fits d (counting m.rows o x) ≡ true → m'.fits d x ≡ true
step_fits m o m' laws s d x e = places_fit (puts o) (present m.rows o) (kind o) (chain_of o) d m m' laws s.places x e

-- What fits for changes lets the first go in, and then fits for the others.
pub needed_goes : (m : BooksValue) (o : Operation) (os : List Operation) → Laws m → puts o ≡ true → m.fits (chain_of o) (needed m.rows (o ∷ os)) ≡ true → goes m o ≡ true
needed_goes m o os laws p e =
    split (cases_Bool (present m.rows o))
    (λ h. or_left (present m.rows o) _ h)
    (λ h. or_right (present m.rows o) _ (laws.less_fits (chain_of o) _ _ (one_fewer (kind o) (needed (apply o m.rows) os)) (rw (p, h) at e)))

pub needed_left : (m : BooksValue) (o : Operation) (os : List Operation) (m' : BooksValue) → Laws m → Step m o m' → (d : IdentifierValue) → m.fits d (needed m.rows (o ∷ os)) ≡ true → m'.fits d (needed m'.rows os) ≡ true
needed_left m o os m' laws s d e =
    ap (λ w. m'.fits d (needed w os)) s.rows ∙ step_fits m o m' laws s d (needed (apply o m.rows) os) e
