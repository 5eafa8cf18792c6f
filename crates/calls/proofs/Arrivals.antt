-- What the arrival of an outgoing row needs, and that it then goes in.
use Rattle.std.proofs.Common.{◌≡◌, ℕ, Bool, true, false, cond, not, is_some, ◌||◌, [], ◌∷◌, ◌++◌, ℤ, Some, None, Option, sym, refl, ap, ◌∙◌, subst}
use Rattle.std.specs.Option.{option_map}
use Rattle.std.specs.Int.{from_bool}
use Rattle.std.proofs.lemmas.Bool.{cond-true, false≢true}
use Rattle.format.specs.Values.{IdentifierValue, NameValue}
use Rattle.format.specs.Rules.{zero_digest}
use Rattle.format.specs.Outcomes.{Passed}
use Rattle.format.proofs.Same.{identifier_decides}
use Rattle.books.specs.Values.{RecordValue, plus, minus, marking, LoadValue, opening, sent, OutgoingValue}
use Rattle.books.specs.Counts.{Counts, counts}
use Rattle.books.specs.Books.{Rows, BooksValue, put_record, put_mark, remove_mark, remove_outgoing, apply, apply_all, Step, Changed, needed}
use Rattle.books.proofs.Changes.{changed_push}
use Rattle.applications.specs.Steps.{ApplicationValue}
use Rattle.protocol.specs.Calls.{new_record, made, record_or_new, unopened, with_owner, message_of, arrives, arrival, Ends, deliver}
use Rattle.calls.specs.Arrivals.{missing, load_marks, arrival_counts}

module _ (A : ApplicationValue) (w : Rows) (c : IdentifierValue) where
  -- the record that was put is there
  put_there : (r : RecordValue) → (apply (put_record c r) w).record_at c ≡ Some r
  put_there r = cond-true _ (Some r) (w.record_at c) ((identifier_decides c c).1 refl)

  pub made_there : (at : Option RecordValue) → w.record_at c ≡ at → (apply_all (made A c at) w).record_at c ≡ Some (record_or_new A at)
  made_there None e = put_there (new_record A 0)
  made_there (Some r) e = e

  opening_needs : (u : Bool) (at : Option RecordValue) (r : RecordValue) → w.record_at c ≡ at
      → needed w (made A c at ++ cond u (put_record c r ∷ []) []) ≡ counts (missing at) 0 0
  opening_needs true None r e = rw (e, (identifier_decides c c).1 refl) refl
  opening_needs false None r e = rw e refl
  opening_needs true (Some x) r e = rw e refl
  opening_needs false (Some x) r e = refl

  module _ (n : NameValue) (code : ℕ) (value : ℤ) where
    message_needs : (at : Option RecordValue) → w.record_at c ≡ at → (x y : Bool) → w.marked (marking c (message_of n code value) minus) ≡ x → w.marked (marking c (message_of n code value) plus) ≡ y
        → needed w (made A c at ++ cond x (remove_mark (marking c (message_of n code value) minus) ∷ []) (put_mark (marking c (message_of n code value) plus) ∷ []))
        ≡ counts (missing at) (cond (x || y) 0 1) 0
    message_needs None e true y p q = rw e refl
    message_needs None e false true p q = rw (e, q) refl
    message_needs None e false false p q = rw (e, q) refl
    message_needs (Some r) e true y p q = refl
    message_needs (Some r) e false true p q = rw q refl
    message_needs (Some r) e false false p q = rw q refl

pub arrival_needs : (A : ApplicationValue) (w : Rows) (n : NameValue) (o : OutgoingValue) → needed w (arrival A w n o) ≡ arrival_counts w n o
arrival_needs A w n o = by_load o.load
  where
    by_load : (l : LoadValue) → needed w (made A o.target (w.record_at o.target) ++ arrives w n o.target (record_or_new A (w.record_at o.target)) l)
        ≡ counts (missing (w.record_at o.target)) (load_marks w n o.target l) 0
    by_load (opening key) =
        opening_needs A w o.target (unopened (record_or_new A (w.record_at o.target))) (w.record_at o.target) (with_owner key (record_or_new A (w.record_at o.target))) refl
    by_load (sent code value) = message_needs A w o.target n code value (w.record_at o.target) refl _ _ refl refl

-- a record that was not found is a new one
pub missing_is : {X Y : Type 0} (f : X → Y) (found : Option X) (at : Option Y) (t : Bool) → is_some found ≡ not t → option_map f found ≡ at → from_bool t ≡ missing at
missing_is f None at true p e = ap missing e
missing_is f None at false p e = absurd (false≢true p)
missing_is f (Some x) at true p e = absurd (false≢true (sym p))
missing_is f (Some x) at false p e = ap missing e

-- what fits for the counts fits for the arrival
pub placed : (A : ApplicationValue) (m : BooksValue) (n : NameValue) (o : OutgoingValue) (x : Counts) → x ≡ arrival_counts m.rows n o → m.fits o.target x ≡ true
    → m.fits o.target (needed m.rows (arrival A m.rows n o)) ≡ true
placed A m n o x e f = ap (m.fits o.target) (arrival_needs A m.rows n o ∙ sym e) ∙ f

-- the arrival and the removal of the row make a delivery
pub delivered : (A : ApplicationValue) (m m₁ m₂ : BooksValue) (n k : NameValue) (o : OutgoingValue) → k ≡ n → Some o ≡ m.rows.outgoing_at n
    → m.fits o.target (needed m.rows (arrival A m.rows k o)) ≡ true → Changed m (arrival A m.rows k o) m₁ → Step m₁ (remove_outgoing n) m₂
    → Ends (deliver A m n) m (Passed zero_digest) m₂
delivered A m m₁ m₂ n k o same there place change gone =
    let P : NameValue → Type 0 = λ x. (m.fits o.target (needed m.rows (arrival A m.rows x o)) ≡ true) × Changed m (arrival A m.rows x o) m₁ in
    let q = subst P same (place, change) in
    rw (sym there, q.0) (refl, changed_push (arrival A m.rows n o) (remove_outgoing n) m m₁ m₂ q.1 gone)
