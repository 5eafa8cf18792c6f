-- What a slot reads as, by its length and first byte.
use Rattle.std.proofs.Common.{◌≡◌, ℕ, Bool, true, false, cond, eqb, ◌≢◌, List, length, Some, None, Option, refl, ap, ◌∙◌, arith}
use Rattle.std.proofs.lemmas.Bool.{cond-false, ne_eqb}
use Rattle.std.specs.Option.{option_map}
use Rattle.format.specs.Values.{IdentifierValue}
use Rattle.books.specs.Values.{RecordValue, EntryValue}
use Rattle.slots.specs.Layout.{slot_len, record_byte, plus_byte, minus_byte, opening_byte, message_byte, message_at}
use Rattle.slots.specs.Kinds.{kind_byte}
use Rattle.slots.specs.declared.kind.Kind.{Kind}
use Rattle.slots.specs.declared.kind.Kind.TheVariants.{Free, Record, Plus, Minus, Opening, Message}
use Rattle.slots.specs.Rows.{RowValue, holds_record, holds_outgoing}
use Rattle.slots.specs.Reading.{both, chain_in, name_at, record_fields, record_in, opening_in, sent_in, entry_in, outgoing_in, row_of_kind, kind_of, row_in, record_part, outgoing_part}
use Rattle.slots.proofs.Fields.{of_kind}

pub row_short : (s : List ℕ) → length s ≢ slot_len → row_in s ≡ None
unfolding row_in
row_short s l = cond-false _ (row_of_kind (kind_of s) s) None (ne_eqb (length s) slot_len l)

module _ {X : Type 0} (part : Option RowValue → Option X) where
  none_of : (t : Bool) (x y : Option RowValue) → part x ≡ None → part y ≡ None → part (cond t x y) ≡ None
  none_of true x y e h = e
  none_of false x y e h = h

-- ---- records
mark_no_record : {A B : Type 0} (f : A → B → RowValue) → ((a : A) (b : B) → record_part (Some (f a b)) ≡ None) → (x : Option A) (y : Option B) → record_part (both f x y) ≡ None
mark_no_record f h None y = refl
mark_no_record f h (Some a) None = refl
mark_no_record f h (Some a) (Some b) = h a b

outgoing_no_record : (x : Option EntryValue) → record_part (option_map holds_outgoing x) ≡ None
outgoing_no_record None = refl
outgoing_no_record (Some e) = refl

pub no_record : (s : List ℕ) → length s ≡ slot_len → kind_of s ≢ record_byte → record_part (row_in s) ≡ None
no_record s l n =
    ap record_part (of_kind s (kind_of s) l refl ∙ cond-false _ (record_in s) _ (ne_eqb (kind_of s) record_byte n))
    ∙ none_of record_part (eqb (kind_of s) plus_byte) _ _ (mark_no_record _ (λ a b. refl) (chain_in s) (name_at message_at s))
    (none_of record_part (eqb (kind_of s) minus_byte) _ _ (mark_no_record _ (λ a b. refl) (chain_in s) (name_at message_at s))
    (none_of record_part (eqb (kind_of s) opening_byte) _ _ (outgoing_no_record (entry_in (opening_in s) s))
    (none_of record_part (eqb (kind_of s) message_byte) _ _ (outgoing_no_record (entry_in (sent_in s) s)) refl)))

record_only : (f : IdentifierValue → RecordValue) (x : Option IdentifierValue) → record_part (option_map (λ c. holds_record c (f c)) x) ≡ option_map (λ c. (c, f c)) x
record_only f None = refl
record_only f (Some c) = refl

pub a_record : (s : List ℕ) → length s ≡ slot_len → kind_of s ≡ record_byte → record_part (row_in s) ≡ option_map (λ c. (c, record_fields s)) (chain_in s)
a_record s l e = ap record_part (of_kind s record_byte l e) ∙ record_only (λ _. record_fields s) (chain_in s)

-- ---- outgoing rows
both_no_outgoing : {A B : Type 0} (f : A → B → RowValue) → ((a : A) (b : B) → outgoing_part (Some (f a b)) ≡ None) → (x : Option A) (y : Option B) → outgoing_part (both f x y) ≡ None
both_no_outgoing f h None y = refl
both_no_outgoing f h (Some a) None = refl
both_no_outgoing f h (Some a) (Some b) = h a b

record_no_outgoing : (f : RecordValue) (x : Option IdentifierValue) → outgoing_part (option_map (λ c. holds_record c f) x) ≡ None
record_no_outgoing f None = refl
record_no_outgoing f (Some c) = refl

outgoing_only : (x : Option EntryValue) → outgoing_part (option_map holds_outgoing x) ≡ x
outgoing_only None = refl
outgoing_only (Some e) = refl

pub no_outgoing : (s : List ℕ) → length s ≡ slot_len → kind_of s ≢ opening_byte → kind_of s ≢ message_byte → outgoing_part (row_in s) ≡ None
no_outgoing s l n m =
    ap outgoing_part (of_kind s (kind_of s) l refl)
    ∙ none_of outgoing_part (eqb (kind_of s) record_byte) _ _ (record_no_outgoing (record_fields s) (chain_in s))
    (none_of outgoing_part (eqb (kind_of s) plus_byte) _ _ (both_no_outgoing _ (λ a b. refl) (chain_in s) (name_at message_at s))
    (none_of outgoing_part (eqb (kind_of s) minus_byte) _ _ (both_no_outgoing _ (λ a b. refl) (chain_in s) (name_at message_at s))
    (ap outgoing_part (cond-false _ (outgoing_in (opening_in s) s) _ (ne_eqb (kind_of s) opening_byte n) ∙ cond-false _ (outgoing_in (sent_in s) s) None (ne_eqb (kind_of s) message_byte m)))))

pub an_opening : (s : List ℕ) → length s ≡ slot_len → kind_of s ≡ opening_byte → outgoing_part (row_in s) ≡ entry_in (opening_in s) s
an_opening s l e = ap outgoing_part (of_kind s opening_byte l e) ∙ outgoing_only (entry_in (opening_in s) s)

pub a_message : (s : List ℕ) → length s ≡ slot_len → kind_of s ≡ message_byte → outgoing_part (row_in s) ≡ entry_in (sent_in s) s
a_message s l e = ap outgoing_part (of_kind s message_byte l e) ∙ outgoing_only (entry_in (sent_in s) s)

pub other_kind : (s : List ℕ) (k : Kind) → length s ≡ slot_len → kind_byte k ≡ kind_of s → k ≢ Opening → k ≢ Message → outgoing_part (row_in s) ≡ None
other_kind s Free l e n m = no_outgoing s l (λ h. omega (arith, e, h)) (λ h. omega (arith, e, h))
other_kind s Record l e n m = no_outgoing s l (λ h. omega (arith, e, h)) (λ h. omega (arith, e, h))
other_kind s Plus l e n m = no_outgoing s l (λ h. omega (arith, e, h)) (λ h. omega (arith, e, h))
other_kind s Minus l e n m = no_outgoing s l (λ h. omega (arith, e, h)) (λ h. omega (arith, e, h))
other_kind s Opening l e n m = absurd (n refl)
other_kind s Message l e n m = absurd (m refl)
