-- A change of one table is that change of the books.
use Rattle.std.proofs.Common.{◌≡◌, ℕ, ◌+◌, Bool, true, false, cond, ◌||◌, ltb, List, Some, None, MatchBool, sym, refl, ap, ◌∙◌, subst}
use Rattle.format.specs.Values.{IdentifierValue, NameValue}
use Rattle.format.specs.Same.{same_identifier, same_name}
use Rattle.books.specs.Values.{MarkValue}
use Rattle.books.specs.Same.{same_mark}
use Rattle.books.specs.Counts.{Counts, counts, more}
use Rattle.books.specs.Meaning.{record_key, record_value, mark_value, outgoing_key, outgoing_value}
use Rattle.books.specs.Books.{Operation, put_record, put_mark, put_outgoing, remove_record, remove_mark, remove_outgoing, kind, chain_of, puts, present, apply, Places, Step, Tried}
use Rattle.books.specs.Listed.{Lists, lists, rows_of, listed}
use Rattle.books.specs.declared.rows.Record.{Record}
use Rattle.books.specs.declared.rows.Mark.{Mark}
use Rattle.books.specs.declared.rows.Outgoing.{Outgoing}
use Rattle.books.proofs.Lists.{either}
use Rattle.books.proofs.Listed.{records_changed, marks_changed, outgoing_changed, some_record_is, some_outgoing_is}
use Rattle.tables.specs.Dense.{Put, Removed}
use Rattle.tables.specs.Within.{within}
use Rattle.tables.proofs.Places.{of_kind, put_places, remove_places, one_fits}

module _ (o : Operation) (l l' : Lists) (free free' : Counts) where
  step : rows_of l' ≡ apply o (rows_of l) → Places (puts o) (present (rows_of l) o) (kind o) (chain_of o) (within free) (within free') → Step (listed l (within free)) o (listed l' (within free'))
  step e p = record { rows = e; places = p }

  change : (r : Bool) → puts o ≡ true
      → MatchBool r ((rows_of l' ≡ apply o (rows_of l)) × (free ≡ more (kind o) (cond (present (rows_of l) o) 0 1) free')) ((l' ≡ l) × (free' ≡ free))
      → MatchBool r (Step (listed l (within free)) o (listed l' (within free'))) (listed l' (within free') ≡ listed l (within free))
  change true p h =
      step h.0
      (subst (λ t. Places t (present (rows_of l) o) (kind o) (chain_of o) (within free) (within free')) (sym p) (put_places (present (rows_of l) o) (kind o) (chain_of o) free free' h.1))
  change false p h = λ i. listed (h.0 i) (within (h.1 i))

  tried : (r : Bool) → puts o ≡ true → r ≡ (present (rows_of l) o || ltb 0 (of_kind (kind o) free))
      → MatchBool r ((rows_of l' ≡ apply o (rows_of l)) × (free ≡ more (kind o) (cond (present (rows_of l) o) 0 1) free')) ((l' ≡ l) × (free' ≡ free))
      → Tried (listed l (within free)) o r (listed l' (within free'))
  tried r p a h = record { answer = a ∙ ap (λ t. present (rows_of l) o || t) (sym (one_fits (kind o) free (chain_of o))); change = change r p h }

  removed : puts o ≡ false → rows_of l' ≡ apply o (rows_of l) → free' ≡ more (kind o) (cond (present (rows_of l) o) 1 0) free → Step (listed l (within free)) o (listed l' (within free'))
  removed p e f =
      step e
      (subst (λ t. Places t (present (rows_of l) o) (kind o) (chain_of o) (within free) (within free')) (sym p) (remove_places (present (rows_of l) o) (kind o) (chain_of o) free free' f))

-- what is promised where a row goes in, and where it does not
module _ (rs : List Record) (ms : List Mark) (os : List Outgoing) (x y z : ℕ) where
  pub record_tried : (row : Record) (r : Bool) (rs' : List Record) (x' : ℕ) → Put record_key same_identifier rs x row r rs' x'
      → Tried (listed (lists rs ms os) (within (counts x y z))) (put_record (record_key row) (record_value row)) r (listed (lists rs' ms os) (within (counts x' y z)))
  record_tried row r rs' x' p =
      let k = record_key row in
      tried (put_record k (record_value row)) (lists rs ms os) (lists rs' ms os) (counts x y z) (counts x' y z) r refl
      (p.answer ∙ ap (λ t. t || ltb 0 x) (sym (some_record_is rs k)))
      (either r
      (λ h. (records_changed rs ms os rs' k (Some row) h.0, λ i. counts ((h.1 ∙ ap (λ t. x' + cond t 0 1) (sym (some_record_is rs k))) i) y z))
      (λ h. (λ i. lists (h.0 i) ms os, λ i. counts (h.1 i) y z))
      p.change)

  pub mark_tried : (row : Mark) (r : Bool) (ms' : List Mark) (y' : ℕ) → Put mark_value same_mark ms y row r ms' y'
      → Tried (listed (lists rs ms os) (within (counts x y z))) (put_mark (mark_value row)) r (listed (lists rs ms' os) (within (counts x y' z)))
  mark_tried row r ms' y' p =
      let k = mark_value row in
      tried (put_mark k) (lists rs ms os) (lists rs ms' os) (counts x y z) (counts x y' z) r refl
      p.answer
      (either r
      (λ h. (marks_changed rs ms os ms' k (Some row) h.0, λ i. counts x (h.1 i) z))
      (λ h. (λ i. lists rs (h.0 i) os, λ i. counts x (h.1 i) z))
      p.change)

  pub outgoing_tried : (row : Outgoing) (r : Bool) (os' : List Outgoing) (z' : ℕ) → Put outgoing_key same_name os z row r os' z'
      → Tried (listed (lists rs ms os) (within (counts x y z))) (put_outgoing (outgoing_key row) (outgoing_value row)) r (listed (lists rs ms os') (within (counts x y z')))
  outgoing_tried row r os' z' p =
      let k = outgoing_key row in
      tried (put_outgoing k (outgoing_value row)) (lists rs ms os) (lists rs ms os') (counts x y z) (counts x y z') r refl
      (p.answer ∙ ap (λ t. t || ltb 0 z) (sym (some_outgoing_is os k)))
      (either r
      (λ h. (outgoing_changed rs ms os os' k (Some row) h.0, λ i. counts x y ((h.1 ∙ ap (λ t. z' + cond t 0 1) (sym (some_outgoing_is os k))) i)))
      (λ h. (λ i. lists rs ms (h.0 i), λ i. counts x y (h.1 i)))
      p.change)

  pub record_removed : (k : IdentifierValue) (rs' : List Record) (x' : ℕ) → Removed record_key same_identifier rs x k rs' x'
      → Step (listed (lists rs ms os) (within (counts x y z))) (remove_record k) (listed (lists rs' ms os) (within (counts x' y z)))
  record_removed k rs' x' p =
      removed (remove_record k) (lists rs ms os) (lists rs' ms os) (counts x y z) (counts x' y z) refl
      (records_changed rs ms os rs' k None p.rows)
      (λ i. counts ((p.places ∙ ap (λ t. x + cond t 1 0) (sym (some_record_is rs k))) i) y z)

  pub mark_removed : (k : MarkValue) (ms' : List Mark) (y' : ℕ) → Removed mark_value same_mark ms y k ms' y'
      → Step (listed (lists rs ms os) (within (counts x y z))) (remove_mark k) (listed (lists rs ms' os) (within (counts x y' z)))
  mark_removed k ms' y' p =
      removed (remove_mark k) (lists rs ms os) (lists rs ms' os) (counts x y z) (counts x y' z) refl
      (marks_changed rs ms os ms' k None p.rows)
      (λ i. counts x (p.places i) z)

  pub outgoing_removed : (k : NameValue) (os' : List Outgoing) (z' : ℕ) → Removed outgoing_key same_name os z k os' z'
      → Step (listed (lists rs ms os) (within (counts x y z))) (remove_outgoing k) (listed (lists rs ms os') (within (counts x y z')))
  outgoing_removed k os' z' p =
      removed (remove_outgoing k) (lists rs ms os) (lists rs ms os') (counts x y z) (counts x y z') refl
      (outgoing_changed rs ms os os' k None p.rows)
      (λ i. counts x y ((p.places ∙ ap (λ t. z + cond t 1 0) (sym (some_outgoing_is os k))) i))
