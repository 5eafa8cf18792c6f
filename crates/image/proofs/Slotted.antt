-- The slots of a memory, one of which is read or written.
use Rattle.std.proofs.Common.{◌≡◌, ℕ, zero, suc, ◌+◌, ◌-◌, ◌*◌, ◌/◌, ◌<◌, ◌≤◌, min, Bool, true, ◌||◌, List, [], ◌∷◌, ◌++◌, map, length, get_or, take, drop, set, replicate, None, Option, sym, refl, ap, ◌∙◌, append_assoc, arith, length-append, length-drop, length-take}
use lib.ListN.{length-map, length-replicate}
use Rattle.std.proofs.lemmas.List.{take_at, drop_at, take-take, take-append-le, drop-append-le, drop-take, drop-drop, get_or-map, map-set, replicate-append-replicate}
use Rattle.std.specs.Simd.{first_chunks}
use Rattle.format.specs.Writing.{written}
use Rattle.books.specs.Lists.{any}
use Rattle.slots.specs.Layout.{slot_len}
use Rattle.slots.specs.Rows.{RowValue}
use Rattle.slots.specs.Bytes.{slot_bytes}
use Rattle.slots.specs.Reading.{row_in}
use Rattle.slots.specs.RoundTrip.{Exact}
use Rattle.slots.specs.Cells.{apart}
use Rattle.image.specs.Memory.{max_slots, usable, slots, cells, past, cleared, SlotsExact}

-- what an image keeps of its memory
abbrev pub Sound : List ℕ → Type 0
Sound bs = SlotsExact bs × (apart (cells bs) ≡ true)

pub length_first : (n : ℕ) (bs : List ℕ) → length (first_chunks slot_len n bs) ≡ n
length_first zero bs = refl
length_first (suc n) bs = ap suc (length_first n (drop slot_len bs))

pub length_slots : (bs : List ℕ) → length (slots bs) ≡ usable bs
length_slots bs = length_first (usable bs) bs

pub length_cells : (bs : List ℕ) → length (cells bs) ≡ usable bs
length_cells bs = length-map (slots bs) row_in ∙ length_slots bs

-- the first of the slots
pub first_slots : (j k : ℕ) (bs : List ℕ) → j ≤ k → take j (first_chunks slot_len k bs) ≡ first_chunks slot_len j bs
first_slots zero k bs l = refl
first_slots (suc j) zero bs l = absurd (omega arith)
first_slots (suc j) (suc k) bs l = ap (λ z. take slot_len bs ∷ z) (first_slots j k (drop slot_len bs) (omega arith))

-- a slot further on
further : (i : ℕ) → slot_len + i * slot_len ≡ suc i * slot_len
further i = omega arith

pub slot_is : (n : ℕ) (bs : List ℕ) (i : ℕ) (d : List ℕ) → i < n → get_or (first_chunks slot_len n bs) i d ≡ take slot_len (drop (i * slot_len) bs)
slot_is zero bs i d l = absurd (omega arith)
slot_is (suc n) bs zero d l = refl
slot_is (suc n) bs (suc i) d l =
    slot_is n (drop slot_len bs) i d (omega arith)
    ∙ ap (take slot_len) (drop-drop (i * slot_len) slot_len bs ∙ ap (λ k. drop k bs) (further i))

-- the slots lie in the memory
pub slots_fit : (bs : List ℕ) → usable bs * slot_len ≤ length bs
slots_fit bs = omega arith

-- ---- one slot written over
module _ (x : List ℕ) (size : length x ≡ slot_len) where
  take_further : (bs : List ℕ) (a : ℕ) → slot_len + a + slot_len ≤ length bs → take slot_len (written bs (slot_len + a) x) ≡ take slot_len bs
  take_further bs a l =
      take-append-le slot_len (take (slot_len + a) bs) _ (simp length-take (omega arith))
      ∙ take-take slot_len (slot_len + a) bs (omega arith)

  drop_further : (bs : List ℕ) (a : ℕ) → slot_len + a + slot_len ≤ length bs → drop slot_len (written bs (slot_len + a) x) ≡ written (drop slot_len bs) a x
  drop_further bs a l =
      let n : slot_len + a + length x ≡ slot_len + (a + length x) = omega arith in
      drop-append-le slot_len (take (slot_len + a) bs) _ (simp length-take (omega arith))
      ∙ (λ i. drop-take slot_len a bs i ++ (x ++ (ap (λ k. drop k bs) n ∙ sym (drop-drop (a + length x) slot_len bs)) i))

  pub slots_written : (n : ℕ) (bs : List ℕ) (i : ℕ) → i < n → n * slot_len ≤ length bs → first_chunks slot_len n (written bs (i * slot_len) x) ≡ set (first_chunks slot_len n bs) i x
  slots_written zero bs i l m = absurd (omega arith)
  slots_written (suc n) bs zero l m =
      let e : 0 + length x ≡ slot_len = omega arith in
      (λ i. take_at x (drop (0 + length x) bs) slot_len size i ∷ first_chunks slot_len n (drop_at x (drop (0 + length x) bs) slot_len size i))
      ∙ ap (λ k. x ∷ first_chunks slot_len n (drop k bs)) e
  slots_written (suc n) bs (suc i) l m =
      let low : i < n = omega arith in
      let room : slot_len + i * slot_len + slot_len ≤ length bs = omega arith in
      let left : n * slot_len ≤ length (drop slot_len bs) = simp length-drop (omega arith) in
      ap (λ k. first_chunks slot_len (suc n) (written bs k x)) (sym (further i))
      ∙ (λ j. take_further bs (i * slot_len) room j ∷ first_chunks slot_len n (drop_further bs (i * slot_len) room j))
      ∙ ap (λ z. take slot_len bs ∷ z) (slots_written n (drop slot_len bs) i low left)

pub past_written : (bs : List ℕ) (a : ℕ) (x : List ℕ) (n : ℕ) → a + length x ≤ n → a + length x ≤ length bs → drop n (written bs a x) ≡ drop n bs
past_written bs a x n l m =
    let b = a + length x in
    let front : length (take a bs ++ x) ≡ b = simp (length-append, length-take) (omega arith) in
    let e : b + (n - b) ≡ n = omega arith in
    ap (drop n) (sym (append_assoc (take a bs) x (drop b bs)))
    ∙ ap (λ k. drop k ((take a bs ++ x) ++ drop b bs)) (sym e)
    ∙ sym (drop-drop (n - b) b ((take a bs ++ x) ++ drop b bs))
    ∙ ap (drop (n - b)) (drop_at (take a bs ++ x) (drop b bs) b front)
    ∙ drop-drop (n - b) b bs
    ∙ ap (λ k. drop k bs) e

-- ---- a memory after a write of one slot
pub record WroteSlot (bs : List ℕ) (i : ℕ) (x bs' : List ℕ) : Type 0 where
  pub slots_are : slots bs' ≡ set (slots bs) i x
  pub past_is : past bs' ≡ past bs

pub wrote_slot : (bs : List ℕ) (i : ℕ) (x bs' : List ℕ) → i < usable bs → length x ≡ slot_len → length bs' ≡ length bs → bs' ≡ written bs (i * slot_len) x → WroteSlot bs i x bs'
wrote_slot bs i x bs' l size same e =
    let fit = slots_fit bs in
    let n : usable bs' ≡ usable bs = ap (λ k. min (k / slot_len) max_slots) same in
    record {
      slots_are = (λ j. first_chunks slot_len (n j) (e j)) ∙ slots_written x size (usable bs) bs i l fit;
      past_is =
          (λ j. drop (n j * slot_len) (e j))
          ∙ past_written bs (i * slot_len) x (usable bs * slot_len) (omega arith) (omega arith);
    }

pub cells_are : (bs : List ℕ) (i : ℕ) (x bs' : List ℕ) → slots bs' ≡ set (slots bs) i x → cells bs' ≡ set (cells bs) i (row_in x)
cells_are bs i x bs' e = ap (map row_in) e ∙ map-set row_in (slots bs) i x

pub exact_set : (bs : List ℕ) (i : ℕ) (x bs' : List ℕ) → slots bs' ≡ set (slots bs) i x → SlotsExact bs → Exact x → SlotsExact bs'
exact_set bs i x bs' e h k =
    ap (map (λ s. slot_bytes (row_in s))) e ∙ map-set (λ s. slot_bytes (row_in s)) (slots bs) i x
    ∙ (λ j. set (h j) i (k j)) ∙ sym e

-- ---- exact slots
pub exact_at : (bs : List ℕ) (i : ℕ) → SlotsExact bs → i < usable bs → Exact (get_or (slots bs) i [])
exact_at bs i h l =
    let m : i < length (slots bs) = omega (arith, length_slots bs) in
    sym (get_or-map (λ s. slot_bytes (row_in s)) (slots bs) i [] [] m) ∙ ap (λ z. get_or z i []) h

pub cell_at : (bs : List ℕ) (i : ℕ) → i < usable bs → get_or (cells bs) i None ≡ row_in (get_or (slots bs) i [])
cell_at bs i l = let m : i < length (slots bs) = omega (arith, length_slots bs) in get_or-map row_in (slots bs) i [] None m

-- a test of the bytes of slots that is a test of what they hold
any_cells : (test : List ℕ → Bool) (on_cell : Option RowValue → Bool) → ((s : List ℕ) → Exact s → test s ≡ on_cell (row_in s)) → (ss : List (List ℕ)) → map (λ s. slot_bytes (row_in s)) ss ≡ ss → any test ss ≡ any on_cell (map row_in ss)
any_cells test on_cell f [] e = refl
any_cells test on_cell f (s ∷ ss) e =
    let head : slot_bytes (row_in s) ≡ s = cc in
    let tail : map (λ s. slot_bytes (row_in s)) ss ≡ ss = cc in
    (λ i. f s head i || any_cells test on_cell f ss tail i)

pub any_held : (test : List ℕ → Bool) (on_cell : Option RowValue → Bool) → ((s : List ℕ) → Exact s → test s ≡ on_cell (row_in s)) → (bs : List ℕ) → SlotsExact bs → any test (slots bs) ≡ any on_cell (cells bs)
any_held test on_cell f bs h = any_cells test on_cell f (slots bs) h

-- ---- a cleared memory
zero_slots : (n : ℕ) (z : List ℕ) → first_chunks slot_len n (replicate (n * slot_len) 0 ++ z) ≡ replicate n (replicate slot_len 0)
zero_slots zero z = refl
zero_slots (suc n) z =
    let first : replicate (suc n * slot_len) 0 ++ z ≡ replicate slot_len 0 ++ (replicate (n * slot_len) 0 ++ z)
    = ap (λ k. replicate k 0 ++ z) (sym (further n)) ∙ ap (λ y. y ++ z) (sym (replicate-append-replicate slot_len (n * slot_len) 0)) ∙ append_assoc (replicate slot_len 0) (replicate (n * slot_len) 0) z in
    (λ i. take slot_len (first i) ∷ first_chunks slot_len n (drop slot_len (first i)))
    ∙ (λ i. take_at (replicate slot_len 0) (replicate (n * slot_len) 0 ++ z) slot_len (length-replicate {A = ℕ} slot_len 0) i ∷ first_chunks slot_len n (drop_at (replicate slot_len 0) (replicate (n * slot_len) 0 ++ z) slot_len (length-replicate {A = ℕ} slot_len 0) i))
    ∙ ap (λ y. replicate slot_len 0 ∷ y) (zero_slots n z)

pub cleared_slots : (bs bs' : List ℕ) → length bs' ≡ length bs → bs' ≡ cleared bs → slots bs' ≡ replicate (usable bs) (replicate slot_len 0)
cleared_slots bs bs' same e =
    (λ j. first_chunks slot_len (min (same j / slot_len) max_slots) (e j)) ∙ zero_slots (usable bs) (past bs)
