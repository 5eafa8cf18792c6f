-- Roots, one by one: their keys, their places, and their records.
use Rattle.std.proofs.Common.{◌≡◌, ℕ, ◌+◌, ◌-◌, ◌<◌, ◌≤◌, Bool, true, false, cond, not, ◌&&◌, leb, List, [], ◌∷◌, length, get_or, drop, sym, refl, ap, ◌∙◌, subst, arith}
use lib.ListN.{length-map}
use Rattle.std.specs.List.{list_all, range_with_len}
use Rattle.std.proofs.lemmas.List.Folds.{list_all-map}
use Rattle.std.proofs.lemmas.List.{at_drop_more, at_drop_all}
use Rattle.std.proofs.lemmas.Bool.{and_parts, and_from, or_right, le-leb, leb-true}
use Rattle.format.specs.Values.{IdentifierValue}
use Rattle.format.specs.Rules.{zero_digest}
use Rattle.format.specs.Outcomes.{refusal, Refused, Passed}
use Rattle.format.specs.declared.fields.Key.{Key}
use Rattle.committee.specs.Rules.{CommitteeValue, committee_allowed}
use Rattle.books.specs.Values.{RecordValue}
use Rattle.books.specs.Counts.{counts}
use Rattle.books.specs.Books.{BooksValue, Laws, Operation, put_record, present, goes, Step, Tried, Changed}
use Rattle.books.specs.declared.side.Side.TheVariants.{All}
use Rattle.books.proofs.Changes.{went, step_fits}
use Rattle.applications.specs.Steps.{ApplicationValue}
use Rattle.protocol.specs.Execution.{key_allowed}
use Rattle.protocol.specs.Calls.{new_record, max_roots, root_of, root_keys_allowed, roots_allowed, roots_fit, root_records, Ends, start}
use Rattle.calls.specs.Roots.{keys_value}

abbrev pub no_key : Key
no_key = record { 0 = 0 }

module _ (ks : List Key) (i : ℕ) (d : Key) where
  pub fit_more : (B : BooksValue) (n : ℕ) → i < length ks
      → roots_fit B n i (keys_value (drop i ks)) ≡ (B.fits (root_of i) (counts n 0 0) && roots_fit B n (i + 1) (keys_value (drop (i + 1) ks)))
  fit_more B n h = at_drop_more (λ xs. roots_fit B n i (keys_value xs)) ks i d h

  pub records_more : (A : ApplicationValue) → i < length ks
      → root_records A i (keys_value (drop i ks)) ≡ put_record (root_of i) (new_record A (get_or ks i d).0) ∷ root_records A (i + 1) (keys_value (drop (i + 1) ks))
  records_more A h = at_drop_more (λ xs. root_records A i (keys_value xs)) ks i d h

module _ (ks : List Key) (i : ℕ) (h : length ks ≤ i) where
  pub records_all : (A : ApplicationValue) → root_records A i (keys_value (drop i ks)) ≡ []
  records_all A = at_drop_all (λ xs. root_records A i (keys_value xs)) ks i h

-- the places, one by one
pub fit_places : (B : BooksValue) (n k : ℕ) (ks : List Key) → roots_fit B n k (keys_value ks) ≡ list_all (λ i. B.fits (root_of i) (counts n 0 0)) (range_with_len k (length ks))
fit_places B n k [] = refl
fit_places B n k (x ∷ ks) = ap (λ t. B.fits (root_of k) (counts n 0 0) && t) (fit_places B n (k + 1) ks)

-- one record more takes at most one place of each chain
module _ (m m' : BooksValue) (laws : Laws m) (c : IdentifierValue) (r : RecordValue) (s : Step m (put_record c r) m') where
  one_less : (d : IdentifierValue) (n : ℕ) → 1 ≤ n → m.fits d (counts n 0 0) ≡ true → m'.fits d (counts (n - 1) 0 0) ≡ true
  one_less d n h e = step_fits m (put_record c r) m' laws s d (counts (n - 1) 0 0) (by_present (present m.rows (put_record c r)))
    where
      by_present : (t : Bool) → m.fits d (cond (true && not t) (counts (n - 1 + 1) 0 0) (counts (n - 1) 0 0)) ≡ true
      by_present false = let p : n - 1 + 1 ≡ n = omega arith in ap (λ x. m.fits d (counts x 0 0)) p ∙ e
      by_present true = laws.less_fits d (counts (n - 1) 0 0) (counts n 0 0) (record { records = omega arith; marks = omega arith; outgoing = omega arith }) e

  pub roots_left : (n k : ℕ) (os : List ℕ) → 1 ≤ n → roots_fit m n k os ≡ true → roots_fit m' (n - 1) k os ≡ true
  roots_left n k [] h e = refl
  roots_left n k (o ∷ os) h e =
      let p = and_parts (m.fits (root_of k) (counts n 0 0)) _ e in
      and_from _ _ (one_less (root_of k) n h p.0) (roots_left n (k + 1) os h p.1)

pub root_goes : (m : BooksValue) → Laws m → (c : IdentifierValue) (r : RecordValue) (n : ℕ) → 1 ≤ n → m.fits c (counts n 0 0) ≡ true → goes m (put_record c r) ≡ true
root_goes m laws c r n h e =
    or_right (present m.rows (put_record c r)) _
    (laws.less_fits c (counts 1 0 0) (counts n 0 0) (record { records = omega arith; marks = omega arith; outgoing = omega arith }) e)

-- ---- the count of roots, which is that of their keys
module _ (C : CommitteeValue) (ks : List Key) where
  pub some_roots : (r : Bool) → 1 ≤ length ks → length ks ≤ max_roots → r ≡ list_all (λ k. key_allowed C k.0) ks → r ≡ roots_allowed C (keys_value ks)
  some_roots r h k e =
      let n : length (keys_value ks) ≡ length ks = length-map ks (λ x. x.0) in
      e ∙ sym (list_all-map (key_allowed C) (λ k. k.0) ks) ∙ sym (ap (λ t. t && root_keys_allowed C (keys_value ks)) (and_from _ _ (le-leb 1 (length (keys_value ks)) (omega arith)) (le-leb (length (keys_value ks)) max_roots (omega arith))))

  pub few_roots : true ≡ roots_allowed C (keys_value ks) → length ks ≤ max_roots
  few_roots e =
      let n : length (keys_value ks) ≡ length ks = length-map ks (λ x. x.0) in
      let p = and_parts (leb 1 (length (keys_value ks))) _ (and_parts _ (root_keys_allowed C (keys_value ks)) (sym e)).0 in
      let l = leb-true (length (keys_value ks)) max_roots p.1 in
      omega arith

  pub roots_fit_keys : (B : BooksValue) → roots_fit B (length ks) 0 (keys_value ks) ≡ roots_fit B (length (keys_value ks)) 0 (keys_value ks)
  roots_fit_keys B = ap (λ n. roots_fit B n 0 (keys_value ks)) (sym (length-map ks (λ x. x.0)))

-- one root more is put
module _ (A : ApplicationValue) (m m' : BooksValue) (laws : Laws m) (ks : List Key) (i : ℕ) (h : i < length ks) where
  abbrev row : RecordValue
  row = new_record A (get_or ks i no_key).0

  abbrev rest : List Operation
  rest = root_records A (i + 1) (keys_value (drop (i + 1) ks))

  pub root_put : (c : IdentifierValue) (v : RecordValue) (r : Bool) → c ≡ root_of i → v ≡ row → Tried m (put_record c v) r m'
      → roots_fit m (length ks - i) i (keys_value (drop i ks)) ≡ true
      → Step m (put_record (root_of i) row) m' × (roots_fit m' (length ks - (i + 1)) (i + 1) (keys_value (drop (i + 1) ks)) ≡ true)
  root_put c v r e f t fit = (step, left)
    where
      parts : (m.fits (root_of i) (counts (length ks - i) 0 0) ≡ true) × (roots_fit m (length ks - i) (i + 1) (keys_value (drop (i + 1) ks)) ≡ true)
      parts = and_parts _ _ (sym (fit_more ks i no_key m (length ks - i) h) ∙ fit)

      tried : Tried m (put_record (root_of i) row) r m'
      tried = subst (λ q. Tried m (put_record q row) r m') e (subst (λ x. Tried m (put_record c x) r m') f t)

      step : Step m (put_record (root_of i) row) m'
      step = went m (put_record (root_of i) row) r m' tried (root_goes m laws (root_of i) row (length ks - i) (omega arith) parts.0)

      left : roots_fit m' (length ks - (i + 1)) (i + 1) (keys_value (drop (i + 1) ks)) ≡ true
      left =
          let n : length ks - i - 1 ≡ length ks - (i + 1) = omega arith in
          ap (λ x. roots_fit m' x (i + 1) (keys_value (drop (i + 1) ks))) (sym n) ∙ roots_left m m' laws (root_of i) row step (length ks - i) (i + 1) (keys_value (drop (i + 1) ks)) (omega arith) parts.1

  pub root_and_rest : Step m (put_record (root_of i) row) m' → (q : BooksValue) → Changed m' rest q → Changed m (root_records A i (keys_value (drop i ks))) q
  root_and_rest s q k = subst (λ os. Changed m os q) (sym (records_more ks i no_key A h)) (m', s, k)

-- nothing is left to put
pub all_put : (A : ApplicationValue) (m : BooksValue) (ks : List Key) (i : ℕ) → length ks ≤ i → Changed m (root_records A i (keys_value (drop i ks))) m
all_put A m ks i h = subst (λ os. Changed m os m) (sym (records_all ks i h A)) refl

-- books that passed every check start
pub starts : (C : CommitteeValue) (A : ApplicationValue) (ks : List Key) (m m' : BooksValue) → committee_allowed C ≡ true → roots_allowed C (keys_value ks) ≡ true → m.blank All ≡ true
    → roots_fit m (length ks) 0 (keys_value ks) ≡ true → Changed m (root_records A 0 (keys_value ks)) m' → Ends (start C A (keys_value ks) m) m (Passed zero_digest) m'
starts C A ks m m' a b c d h = rw (a, b, c, sym (roots_fit_keys C ks m) ∙ d) (refl, h)

pub no_place : (C : CommitteeValue) (A : ApplicationValue) (ks : List Key) (m : BooksValue) → committee_allowed C ≡ true → roots_allowed C (keys_value ks) ≡ true → m.blank All ≡ true
    → roots_fit m (length ks) 0 (keys_value ks) ≡ false → Ends (start C A (keys_value ks) m) m (Refused (refusal 19)) m
no_place C A ks m a b c d = rw (a, b, c, sym (roots_fit_keys C ks m) ∙ d) (refl, refl)
