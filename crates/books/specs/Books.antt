-- The meaning of books: their rows by keys, what fits, and the changes of one row.
use Rattle.std.specs.Prelude.{◌≡◌, ℕ, ◌≤◌, Bool, true, false, cond, not, ◌&&◌, ◌||◌, List, [], ◌∷◌, is_some, Some, None, MatchBool, Option}
use Rattle.format.specs.Values.{IdentifierValue, NameValue, MessageValue}
use Rattle.format.specs.Same.{same_identifier, same_name}
use Rattle.books.specs.Values.{RecordValue, minus, MarkValue, marking, OutgoingValue}
use Rattle.books.specs.Same.{same_mark}
use Rattle.books.specs.Counts.{Counts, none, Fewer, Kind, a_record, a_mark, an_outgoing, more}
use Rattle.books.specs.Sides.{on}
use Rattle.books.specs.declared.side.Side.{Side}

-- a map of records by identifier, a set of marks, a map of outgoing rows by name
pub record Rows : Type 0 where
  pub record_at : IdentifierValue → Option RecordValue
  pub marked : MarkValue → Bool
  pub outgoing_at : NameValue → Option OutgoingValue

-- whether so many new records and marks for a chain, and outgoing rows sent by it, go in together
abbrev pub Fits : Type 0
Fits = IdentifierValue → Counts → Bool

-- what books mean
pub record BooksValue : Type 0 where
  pub rows : Rows
  pub fits : Fits
  -- whether a chain has a minus mark
  pub owing : IdentifierValue → Bool
  -- whether there is no row of a chain on a side
  pub blank : Side → Bool

-- no row of the chains that a test chooses
pub record NoRow (w : Rows) (test : IdentifierValue → Bool) : Type 0 where
  pub no_record : (c : IdentifierValue) → test c ≡ true → w.record_at c ≡ None
  pub no_mark : (k : MarkValue) → test k.target ≡ true → w.marked k ≡ false
  pub no_outgoing : (n : NameValue) → test n.sender ≡ true → w.outgoing_at n ≡ None

-- zeros fit, and less than what fits; `owing` and `blank` tell of the rows
pub record Laws (m : BooksValue) : Type 0 where
  pub zeros_fit : (c : IdentifierValue) → m.fits c none ≡ true
  pub less_fits : (c : IdentifierValue) (x y : Counts) → Fewer x y → m.fits c y ≡ true → m.fits c x ≡ true
  pub owes : (c : IdentifierValue) (x : MessageValue) → m.rows.marked (marking c x minus) ≡ true → m.owing c ≡ true
  pub owed : (c : IdentifierValue) → m.owing c ≡ true → (x : MessageValue) × (m.rows.marked (marking c x minus) ≡ true)
  pub blank_none : (s : Side) → m.blank s ≡ true → NoRow m.rows (on s)
  pub none_blank : (s : Side) → NoRow m.rows (on s) → m.blank s ≡ true

-- a change of one row
pub data Operation : Type 0 where
  put_record : IdentifierValue → RecordValue → Operation
  put_mark : MarkValue → Operation
  put_outgoing : NameValue → OutgoingValue → Operation
  remove_record : IdentifierValue → Operation
  remove_mark : MarkValue → Operation
  remove_outgoing : NameValue → Operation

abbrev pub kind : Operation → Kind
kind (put_record c r) = a_record
kind (put_mark k) = a_mark
kind (put_outgoing n o) = an_outgoing
kind (remove_record c) = a_record
kind (remove_mark k) = a_mark
kind (remove_outgoing n) = an_outgoing

-- the chain whose place the row takes
abbrev pub chain_of : Operation → IdentifierValue
chain_of (put_record c r) = c
chain_of (put_mark k) = k.target
chain_of (put_outgoing n o) = n.sender
chain_of (remove_record c) = c
chain_of (remove_mark k) = k.target
chain_of (remove_outgoing n) = n.sender

abbrev pub puts : Operation → Bool
puts (put_record c r) = true
puts (put_mark k) = true
puts (put_outgoing n o) = true
puts (remove_record c) = false
puts (remove_mark k) = false
puts (remove_outgoing n) = false

-- whether a row with the key is there
abbrev pub present : Rows → Operation → Bool
present w (put_record c r) = is_some (w.record_at c)
present w (put_mark k) = w.marked k
present w (put_outgoing n o) = is_some (w.outgoing_at n)
present w (remove_record c) = is_some (w.record_at c)
present w (remove_mark k) = w.marked k
present w (remove_outgoing n) = is_some (w.outgoing_at n)

-- a map with another value at one key
abbrev pub updated : {K X : Type 0} → (K → K → Bool) → K → X → (K → X) → K → X
updated same k v f q = cond (same k q) v (f q)

abbrev pub with_records : (IdentifierValue → Option RecordValue) → Rows → Rows
with_records f w = record { record_at = f; marked = w.marked; outgoing_at = w.outgoing_at }

abbrev pub with_marks : (MarkValue → Bool) → Rows → Rows
with_marks f w = record { record_at = w.record_at; marked = f; outgoing_at = w.outgoing_at }

abbrev pub with_outgoing : (NameValue → Option OutgoingValue) → Rows → Rows
with_outgoing f w = record { record_at = w.record_at; marked = w.marked; outgoing_at = f }

-- the rows after a change: every other row stays
abbrev pub apply : Operation → Rows → Rows
apply (put_record c r) w = with_records (updated same_identifier c (Some r) w.record_at) w
apply (put_mark k) w = with_marks (updated same_mark k true w.marked) w
apply (put_outgoing n o) w = with_outgoing (updated same_name n (Some o) w.outgoing_at) w
apply (remove_record c) w = with_records (updated same_identifier c None w.record_at) w
apply (remove_mark k) w = with_marks (updated same_mark k false w.marked) w
apply (remove_outgoing n) w = with_outgoing (updated same_name n None w.outgoing_at) w

abbrev pub apply_all : List Operation → Rows → Rows
apply_all [] w = w
apply_all (o ∷ os) w = apply_all os (apply o w)

-- A place is taken: counts fit now that fitted before with one more of that kind.
-- A new row takes one from its own chain, and at most one from another.
pub record Takes (k : Kind) (c : IdentifierValue) (f f' : Fits) : Type 0 where
  pub taken : IdentifierValue → ℕ
  pub own : taken c ≡ 1
  pub most : (d : IdentifierValue) → taken d ≤ 1
  pub after : (d : IdentifierValue) (x : Counts) → f' d x ≡ f d (more k (taken d) x)

-- one place is given back to a chain, and none is taken from another
pub record Gives (k : Kind) (c : IdentifierValue) (f f' : Fits) : Type 0 where
  pub own : (x : Counts) → f' c (more k 1 x) ≡ f c x
  pub others : (d : IdentifierValue) (x : Counts) → f d x ≡ true → f' d x ≡ true

-- What a change does to the places: whether it puts, and whether a row with its key is there.
-- A row put in the place of another takes none, and the removal of an absent row gives none.
abbrev pub Places : Bool → Bool → Kind → IdentifierValue → Fits → Fits → Type 0
Places true true k c f f' = f' ≡ f
Places true false k c f f' = Takes k c f f'
Places false true k c f f' = Gives k c f f'
Places false false k c f f' = f' ≡ f

-- one change, made
pub record Step (m : BooksValue) (o : Operation) (m' : BooksValue) : Type 0 where
  pub rows : m'.rows ≡ apply o m.rows
  pub places : Places (puts o) (present m.rows o) (kind o) (chain_of o) m.fits m'.fits

-- whether a put is made: a row with its key is there, or one more of its kind fits
abbrev pub goes : BooksValue → Operation → Bool
goes m o = present m.rows o || m.fits (chain_of o) (more (kind o) 1 none)

-- a put, made or refused
pub record Tried (m : BooksValue) (o : Operation) (r : Bool) (m' : BooksValue) : Type 0 where
  pub answer : r ≡ goes m o
  pub change : MatchBool r (Step m o m') (m' ≡ m)

-- changes made one after another
abbrev pub Changed : BooksValue → List Operation → BooksValue → Type 0
Changed m [] m' = m' ≡ m
Changed m (o ∷ os) m' = (n : BooksValue) × Step m o n × Changed n os m'

-- the counts, and the place that a change takes besides
abbrev pub counting : Rows → Operation → Counts → Counts
counting w o x = cond (puts o && not (present w o)) (more (kind o) 1 x) x

-- The places that changes take, each on the rows that those before it left.
-- Places that they give back are not counted.
abbrev pub needed : Rows → List Operation → Counts
needed w [] = none
needed w (o ∷ os) = counting w o (needed (apply o w) os)
