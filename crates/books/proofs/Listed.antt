-- Books of listed rows keep the laws of books, and their rows change as the lists do.
use Rattle.std.proofs.Common.{◌≡◌, ℕ, Bool, true, false, List, is_some, Some, None, Decides, Option, sym, refl, ap, ◌∙◌, subst, arith}
use mathlib.Core.Path.{fun_ext}
use Rattle.std.specs.Option.{option_map}
use Rattle.std.proofs.lemmas.Bool.{and_from, and_parts, both_ways, cases_Bool, not_from_false, not-true}
use Rattle.format.specs.Values.{IdentifierValue, NameValue, MessageValue}
use Rattle.format.specs.Same.{same_identifier, same_name}
use Rattle.format.proofs.Same.{identifier_decides, name_decides}
use Rattle.books.specs.Values.{minus, MarkValue, marking}
use Rattle.books.specs.Same.{same_mark, minus_of}
use Rattle.books.specs.Counts.{Counts, none, Fewer}
use Rattle.books.specs.Meaning.{record_key, record_value, mark_value, outgoing_key, outgoing_value}
use Rattle.books.specs.Sides.{on}
use Rattle.books.specs.Books.{Fits, NoRow, Laws, updated, with_records, with_marks, with_outgoing}
use Rattle.books.specs.Lists.{find, any}
use Rattle.books.specs.Listed.{Lists, lists, rows_of, owing_of, blank_of, listed}
use Rattle.books.specs.declared.rows.Record.{Record}
use Rattle.books.specs.declared.rows.Mark.{Mark}
use Rattle.books.specs.declared.rows.Outgoing.{Outgoing}
use Rattle.books.specs.declared.side.Side.{Side}
use Rattle.books.specs.SameLemmas.{sign_decides, mark_decides}
use Rattle.books.proofs.Lists.{split, any_in, in_any}
use Rattle.books.proofs.Finds.{find_in, in_found}

-- ---- options
some_mapped : {X Y : Type 0} (f : X → Y) (o : Option X) → is_some (option_map f o) ≡ is_some o
some_mapped f None = refl
some_mapped f (Some x) = refl

none_from : {X : Type 0} (o : Option X) → is_some o ≡ false → o ≡ None
none_from None e = refl
none_from (Some x) e = absurd (let z : ◌≡◌ {A = ℕ} 0 1 = cc in omega arith)

-- ---- a test of the chains of keys
module _ {R K : Type 0} (key : R → K) (same : K → K → Bool) (decides : (x y : K) → Decides (same x y) (x ≡ y)) (test : K → Bool) (rs : List R) where
  -- no row that is chosen: none is found at a key that is chosen
  not_found : any (λ r. test (key r)) rs ≡ false → (k : K) → test k ≡ true → is_some (find key same rs k) ≡ false
  not_found e k t = at (find key same rs k) refl
    where
      at : (o : Option R) → find key same rs k ≡ o → is_some o ≡ false
      at None h = refl
      at (Some r) h =
          let f = find_in key same decides rs k r h in
          absurd (both_ways _ e (in_any (λ x. test (key x)) rs r f.0 (subst (λ z. test z ≡ true) (sym f.1) t)))

  none_chosen : ((k : K) → test k ≡ true → is_some (find key same rs k) ≡ false) → any (λ r. test (key r)) rs ≡ false
  none_chosen h = split (cases_Bool (any (λ r. test (key r)) rs))
      (λ e. let p = any_in (λ r. test (key r)) rs e in absurd (both_ways _ (h (key p.0) p.2) (in_found key same decides rs p.0 p.1)))
      (λ e. e)

-- ---- minus marks
minus_parts : (c : IdentifierValue) (k : MarkValue) → minus_of c k ≡ true → k ≡ marking c k.message minus
minus_parts c k e =
    let p = and_parts _ _ e in
    let t = (identifier_decides k.target c).0 p.0 in
    let s = (sign_decides k.sign minus).0 p.1 in
    λ i. record { target = t i; message = k.message; sign = s i }

minus_from : (c : IdentifierValue) (x : MessageValue) → minus_of c (marking c x minus) ≡ true
minus_from c x = and_from _ _ ((identifier_decides c c).1 refl) refl

listed_owes : (ms : List Mark) (c : IdentifierValue) (x : MessageValue) → is_some (find mark_value same_mark ms (marking c x minus)) ≡ true → owing_of ms c ≡ true
listed_owes ms c x e =
    split (cases_Bool (owing_of ms c))
    (λ h. h)
    (λ h. absurd (both_ways _ (not_found mark_value same_mark mark_decides (minus_of c) ms h (marking c x minus) (minus_from c x)) e))

listed_owed : (ms : List Mark) (c : IdentifierValue) → owing_of ms c ≡ true → (x : MessageValue) × (is_some (find mark_value same_mark ms (marking c x minus)) ≡ true)
listed_owed ms c e =
    let p = any_in (λ k. minus_of c (mark_value k)) ms e in
    let k = mark_value p.0 in
    (k.message, subst (λ z. is_some (find mark_value same_mark ms z) ≡ true) (minus_parts c k p.2) (in_found mark_value same_mark mark_decides ms p.0 p.1))

-- ---- blank
listed_none : (l : Lists) (s : Side) → blank_of l s ≡ true → NoRow (rows_of l) (on s)
listed_none l s e =
    let p = and_parts _ _ e in
    let q = and_parts _ _ p.1 in
    record {
      no_record = λ c t. none_from _ (some_mapped record_value _ ∙ not_found record_key same_identifier identifier_decides (on s) l.records (not-true _ p.0) c t);
      no_mark = λ k t. not_found mark_value same_mark mark_decides (λ k. on s k.target) l.marks (not-true _ q.0) k t;
      no_outgoing = λ n t. none_from _ (some_mapped outgoing_value _ ∙ not_found outgoing_key same_name name_decides (λ n. on s n.sender) l.outgoing (not-true _ q.1) n t);
    }

listed_blank : (l : Lists) (s : Side) → NoRow (rows_of l) (on s) → blank_of l s ≡ true
listed_blank l s h =
    and_from _ _ (not_from_false _ (none_chosen record_key same_identifier identifier_decides (on s) l.records (λ c t. sym (some_mapped record_value _) ∙ ap is_some (h.no_record c t))))
    (and_from _ _ (not_from_false _ (none_chosen mark_value same_mark mark_decides (λ k. on s k.target) l.marks h.no_mark))
    (not_from_false _ (none_chosen outgoing_key same_name name_decides (λ n. on s n.sender) l.outgoing (λ n t. sym (some_mapped outgoing_value _) ∙ ap is_some (h.no_outgoing n t)))))

pub listed_laws : (l : Lists) (f : Fits)
    → ((c : IdentifierValue) → f c none ≡ true)
    → ((c : IdentifierValue) (x y : Counts) → Fewer x y → f c y ≡ true → f c x ≡ true)
    → Laws (listed l f)
listed_laws l f zeros less = record {
  zeros_fit = zeros;
  less_fits = less;
  owes = listed_owes l.marks;
  owed = listed_owed l.marks;
  blank_none = listed_none l;
  none_blank = listed_blank l;
}

-- ---- changes: rs' finds what rs does, but for w at the key k
mapped_updated : {X Y K : Type 0} (f : X → Y) (same : K → K → Bool) (k : K) (w : Option X) (g : K → Option X) (q : K) → option_map f (updated same k w g q) ≡ updated same k (option_map f w) (λ z. option_map f (g z)) q
mapped_updated f same k w g q = split (cases_Bool (same k q)) (λ e. rw e) (λ e. rw e)

some_updated : {X K : Type 0} (same : K → K → Bool) (k : K) (w : Option X) (g : K → Option X) (q : K) → is_some (updated same k w g q) ≡ updated same k (is_some w) (λ z. is_some (g z)) q
some_updated same k w g q = split (cases_Bool (same k q)) (λ e. rw e) (λ e. rw e)

module _ (rs : List Record) (ms : List Mark) (os : List Outgoing) where
  pub records_changed : (rs' : List Record) (k : IdentifierValue) (w : Option Record) → ((q : IdentifierValue) → find record_key same_identifier rs' q ≡ updated same_identifier k w (find record_key same_identifier rs) q)
      → rows_of (lists rs' ms os) ≡ with_records (updated same_identifier k (option_map record_value w) (rows_of (lists rs ms os)).record_at) (rows_of (lists rs ms os))
  records_changed rs' k w h = ap (λ f. with_records f (rows_of (lists rs ms os))) (fun_ext (λ q. ap (option_map record_value) (h q) ∙ mapped_updated record_value same_identifier k w (find record_key same_identifier rs) q))

  pub marks_changed : (ms' : List Mark) (k : MarkValue) (w : Option Mark) → ((q : MarkValue) → find mark_value same_mark ms' q ≡ updated same_mark k w (find mark_value same_mark ms) q)
      → rows_of (lists rs ms' os) ≡ with_marks (updated same_mark k (is_some w) (rows_of (lists rs ms os)).marked) (rows_of (lists rs ms os))
  marks_changed ms' k w h = ap (λ f. with_marks f (rows_of (lists rs ms os))) (fun_ext (λ q. ap is_some (h q) ∙ some_updated same_mark k w (find mark_value same_mark ms) q))

  pub outgoing_changed : (os' : List Outgoing) (k : NameValue) (w : Option Outgoing) → ((q : NameValue) → find outgoing_key same_name os' q ≡ updated same_name k w (find outgoing_key same_name os) q)
      → rows_of (lists rs ms os') ≡ with_outgoing (updated same_name k (option_map outgoing_value w) (rows_of (lists rs ms os)).outgoing_at) (rows_of (lists rs ms os))
  outgoing_changed os' k w h = ap (λ f. with_outgoing f (rows_of (lists rs ms os))) (fun_ext (λ q. ap (option_map outgoing_value) (h q) ∙ mapped_updated outgoing_value same_name k w (find outgoing_key same_name os) q))

pub some_record_is : (rs : List Record) (k : IdentifierValue) → is_some (option_map record_value (find record_key same_identifier rs k)) ≡ is_some (find record_key same_identifier rs k)
some_record_is rs k = some_mapped record_value (find record_key same_identifier rs k)

pub some_outgoing_is : (os : List Outgoing) (k : NameValue) → is_some (option_map outgoing_value (find outgoing_key same_name os k)) ≡ is_some (find outgoing_key same_name os k)
some_outgoing_is os k = some_mapped outgoing_value (find outgoing_key same_name os k)
