-- What the slot that a key leads to holds.
use Rattle.std.proofs.Common.{◌≡◌, ℕ, zero, suc, ◌*◌, ◌/◌, ◌<◌, min, true, List, [], ◌∷◌, map, length, get_or, drop, replicate, is_some, IfSome, Some, None, Option, sym, refl, ap, ◌∙◌, arith, length-append, length-drop}
use lib.ListN.{length-replicate}
use Rattle.std.proofs.lemmas.List.{drop_at}
use Rattle.std.specs.Option.{option_map}
use Rattle.format.specs.Values.{IdentifierValue, NameValue}
use Rattle.books.specs.Meaning.{record_key, record_row, outgoing_key, entry_value}
use Rattle.books.specs.declared.rows.Record.{Record}
use Rattle.books.specs.declared.rows.Outgoing.{Outgoing}
use Rattle.slots.specs.Layout.{slot_len}
use Rattle.slots.specs.Rows.{RowValue, holds_record, holds_mark, holds_outgoing, RowKey, by_identifier, by_name, row_key, has_key}
use Rattle.slots.specs.Bytes.{row_bytes, slot_bytes}
use Rattle.slots.specs.Reading.{row_in, record_part, outgoing_part}
use Rattle.slots.specs.RoundTrip.{RowFits, RowsReadBack}
use Rattle.slots.specs.Cells.{look, apart}
use Rattle.slots.proofs.Cells.{OfKey, absent_look, found}
use Rattle.image.specs.Memory.{max_slots, usable, slots, cells, past, cleared, Encodes, Located}
use Rattle.image.proofs.Slotted.{Sound, slots_fit, length_cells, cell_at, cleared_slots}
use Rattle.image.proofs.Changed.{zero_row}

-- ---- a row looked for
module _ (bs : List ℕ) (sound : Sound bs) (k : RowKey) where
  pub located : (i : ℕ) → i < usable bs → has_key k (get_or (cells bs) i None) ≡ true → row_in (get_or (slots bs) i []) ≡ look (cells bs) k
  located i l h = sym (cell_at bs i l) ∙ sym (found (cells bs) i k sound.1 (omega (arith, length_cells bs, l)) h)

  some_there : (i : ℕ) → has_key k (get_or (cells bs) i None) ≡ true → is_some (get_or (cells bs) i None) ≡ true
  some_there i h = at (get_or (cells bs) i None) h
    where
      at : (o : Option RowValue) → has_key k o ≡ true → is_some o ≡ true
      at None h = h
      at (Some v) h = refl

  pub some_located : (r : Option ℕ) → Located (has_key k) bs r → is_some r ≡ is_some (look (cells bs) k)
  some_located None e = sym (ap is_some (absent_look (cells bs) k e))
  some_located (Some i) e = sym (ap is_some (found (cells bs) i k sound.1 (omega (arith, length_cells bs, e.0)) e.1) ∙ some_there i e.1)

-- a record that was read
pub record_found : (d : IdentifierValue) (o : Option RowValue) → OfKey (by_identifier d) o → (r : Option Record) → option_map record_row r ≡ record_part o
    → IfSome r (λ x. record_key x ≡ d)
record_found d o k None e = tt
record_found d o k (Some x) e = at o k e
  where
    at : (o : Option RowValue) → OfKey (by_identifier d) o → Some (record_row x) ≡ record_part o → record_key x ≡ d
    at None k e = cc
    at (Some (holds_record c r)) k e =
        let row : record_row x ≡ (c, r) = cc in
        let same : c ≡ d = cc in
        ap (λ z. z.0) row ∙ same
    at (Some (holds_mark m)) k e = cc
    at (Some (holds_outgoing y)) k e = cc

pub outgoing_found : (n : NameValue) (o : Option RowValue) → OfKey (by_name n) o → (r : Option Outgoing) → option_map entry_value r ≡ outgoing_part o
    → IfSome r (λ x. outgoing_key x ≡ n)
outgoing_found n o k None e = tt
outgoing_found n o k (Some x) e = at o k e
  where
    at : (o : Option RowValue) → OfKey (by_name n) o → Some (entry_value x) ≡ outgoing_part o → outgoing_key x ≡ n
    at None k e = cc
    at (Some (holds_record c r)) k e = cc
    at (Some (holds_mark m)) k e = cc
    at (Some (holds_outgoing y)) k e =
        let row : entry_value x ≡ y = cc in
        let same : y.name ≡ n = cc in
        ap (λ z. z.name) row ∙ same

-- ---- the slot of a row
pub reads : (v : RowValue) (s : List ℕ) → s ≡ row_bytes v → RowFits v → RowsReadBack → row_in s ≡ Some v
reads v s e fits back = ap row_in e ∙ (back v fits).1

pub encodes : (v : RowValue) (s : List ℕ) → s ≡ row_bytes v → RowFits v → RowsReadBack → Encodes (row_key v) s
encodes v s e fits back =
    let r = reads v s e fits back in
    record { exact = ap slot_bytes r ∙ sym e; row = (v, r, refl) }

-- ---- a cleared memory
none_cells : (n : ℕ) → map row_in (replicate n (replicate slot_len 0)) ≡ replicate n None
none_cells zero = refl
none_cells (suc n) = λ i. zero_row i ∷ none_cells n i

none_apart : (n : ℕ) → apart (replicate n None) ≡ true
none_apart zero = refl
none_apart (suc n) = none_apart n

zeros_exact : (n : ℕ) → map (λ s. slot_bytes (row_in s)) (replicate n (replicate slot_len 0)) ≡ replicate n (replicate slot_len 0)
zeros_exact zero = refl
zeros_exact (suc n) = λ i. ap slot_bytes zero_row i ∷ zeros_exact n i

module _ (bs bs' : List ℕ) (e : bs' ≡ cleared bs) where
  same_length : length bs' ≡ length bs
  same_length = let fit = slots_fit bs in ap length e ∙ simp (length-append, length-replicate, length-drop) (omega arith)

  slots_are : slots bs' ≡ replicate (usable bs) (replicate slot_len 0)
  slots_are = cleared_slots bs bs' same_length e

  pub new_cells : cells bs' ≡ replicate (usable bs) None
  new_cells = ap (map row_in) slots_are ∙ none_cells (usable bs)

  pub new_sound : Sound bs'
  new_sound = (ap (map (λ s. slot_bytes (row_in s))) slots_are ∙ zeros_exact (usable bs) ∙ sym slots_are, ap apart new_cells ∙ none_apart (usable bs))

  pub new_past : past bs' ≡ past bs
  new_past =
      (λ i. drop (min (same_length i / slot_len) max_slots * slot_len) (e i))
      ∙ drop_at (replicate (usable bs * slot_len) 0) (past bs) (usable bs * slot_len) (length-replicate {A = ℕ} (usable bs * slot_len) 0)
