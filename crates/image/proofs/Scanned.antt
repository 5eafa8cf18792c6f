-- What a scan of the bytes of slots tells of the rows that they hold.
use Rattle.std.proofs.Common.{◌≡◌, ℕ, zero, suc, ◌+◌, ◌<◌, Bool, true, false, cond, not, List, [], ◌∷◌, map, filter, length, get_or, take, is_some, Some, None, Option, sym, refl, ap, ◌∙◌, subst, arith}
use Rattle.std.specs.List.{position, position_or_len}
use Rattle.std.specs.Option.{option_map}
use Rattle.std.proofs.lemmas.List.{take_all}
use Rattle.std.proofs.lemmas.List.Sums.{prefix_len_stops}
use Rattle.std.proofs.lemmas.Bool.{or_left, or_right, false≢true, lt-ltb, le-ltb, cases_lt}
use Rattle.books.specs.Lists.{any}
use Rattle.books.specs.Sides.{on}
use Rattle.books.specs.declared.side.Side.{Side}
use Rattle.books.proofs.Lists.{split}
use Rattle.slots.specs.Bytes.{slot_bytes}
use Rattle.slots.specs.Rows.{RowValue, home, row_key}
use Rattle.slots.specs.Reading.{row_in, home_in}
use Rattle.slots.specs.RoundTrip.{Exact}
use Rattle.slots.specs.Cells.{Cells, free, held_and}
use Rattle.slots.specs.Prefixes.{PrefixValue, begins, free_prefix}
use Rattle.slots.proofs.Begins.{free_begins, home_is}
use Rattle.slots.proofs.Cells.{none_free}
use Rattle.image.specs.Memory.{slots, cells, Scan, SlotsExact, Located, FreeSlot}
use Rattle.image.specs.Waiting.{on_side}
use Rattle.image.proofs.Slotted.{length_slots, length_cells, exact_at, cell_at, any_held}

pub scanned : (p : PrefixValue) (test : Option RowValue → Bool) → ((s : List ℕ) → Exact s → begins p s ≡ test (row_in s)) → (bs : List ℕ) → SlotsExact bs → (r : Option ℕ) → Scan p bs r → Located test bs r
scanned p test f bs h None e = sym (any_held (begins p) test f bs h) ∙ e
scanned p test f bs h (Some i) e = (e.within, ap test (cell_at bs i e.within) ∙ sym (f _ (exact_at bs i h e.within)) ∙ e.here)

-- ---- the first that passes a test
module _ {X : Type 0} (test : X → Bool) where
  none_before : (xs : List X) → any test (take (position_or_len test xs) xs) ≡ false
  none_before [] = refl
  none_before (x ∷ xs) = at (test x) refl (none_before xs)
    where
      at : (b : Bool) → test x ≡ b → any test (take (position_or_len test xs) xs) ≡ false → any test (take (cond (not b) (1 + position_or_len test xs) 0) (x ∷ xs)) ≡ false
      at true e h = refl
      at false e h =
          let next : suc (position_or_len test xs) ≡ 1 + position_or_len test xs = omega arith in
          subst (λ n. any test (take n (x ∷ xs)) ≡ false) next (rw e h)

  there : (xs : List X) (d : X) → position_or_len test xs < length xs → test (get_or xs (position_or_len test xs) d) ≡ true
  there xs d l = true_of _ (prefix_len_stops (λ x. not (test x)) xs d l)
    where
      true_of : (t : Bool) → not t ≡ false → t ≡ true
      true_of true e = refl
      true_of false e = sym e

pub scan_is : (p : PrefixValue) (bs : List ℕ) (r : Option ℕ) → r ≡ position (begins p) (slots bs) → Scan p bs r
scan_is p bs r e =
    let test = begins p in
    let ss = slots bs in
    let n = position_or_len test ss in
    let there_are = length_slots bs in
    split (cases_lt n (length ss))
    (λ l. subst (Scan p bs) (sym (e ∙ ap (λ t. cond t (Some n) None) (lt-ltb n (length ss) l)))
    (record { within = omega arith; here = there test ss [] l; before = none_before test ss }))
    (λ l. subst (Scan p bs) (sym (e ∙ ap (λ t. cond t (Some n) None) (le-ltb n (length ss) l)))
    (subst (λ z. any test z ≡ false) (take_all n ss l) (none_before test ss)))

any_at : (test : Option RowValue → Bool) (os : Cells) (i : ℕ) → i < length os → test (get_or os i None) ≡ true → any test os ≡ true
any_at test [] i l e = absurd (omega arith)
any_at test (o ∷ os) zero l e = or_left _ _ e
any_at test (o ∷ os) (suc i) l e = or_right _ _ (any_at test os i (omega arith) e)

pub some_scanned : (test : Option RowValue → Bool) (bs : List ℕ) (r : Option ℕ) → Located test bs r → is_some r ≡ any test (cells bs)
some_scanned test bs None e = sym e
some_scanned test bs (Some i) e = sym (any_at test (cells bs) i (omega (arith, length_cells bs, e.0)) e.1)

-- a free cell
none_there : (o : Option RowValue) → not (is_some o) ≡ true → o ≡ None
none_there None e = refl
none_there (Some v) e = absurd (false≢true e)

pub free_scanned : (bs : List ℕ) (r : Option ℕ) → Located (λ o. not (is_some o)) bs r → FreeSlot bs r
free_scanned bs None e = none_free (cells bs) e
free_scanned bs (Some i) e = (e.0, none_there _ e.1)

-- the slots that begin as free ones do are as many as the free cells
pub count_is : (ss : List (List ℕ)) → map (λ s. slot_bytes (row_in s)) ss ≡ ss → length (filter (begins free_prefix) ss) ≡ free (map row_in ss)
count_is [] e = refl
count_is (s ∷ ss) e =
    let head : slot_bytes (row_in s) ≡ s = cc in
    let tail : map (λ s. slot_bytes (row_in s)) ss ≡ ss = cc in
    ap (λ t. length (cond t (s ∷ filter (begins free_prefix) ss) (filter (begins free_prefix) ss))) (free_begins s head)
    ∙ at (row_in s) (count_is ss tail)
  where
    at : (o : Option RowValue) → length (filter (begins free_prefix) ss) ≡ free (map row_in ss) → length (cond (not (is_some o)) (s ∷ filter (begins free_prefix) ss) (filter (begins free_prefix) ss)) ≡ free (o ∷ map row_in ss)
    at None h = omega (arith, h)
    at (Some v) h = h

-- ---- chains on a side
pub on_side_is : (s : Side) (b : List ℕ) → Exact b → on_side s (home_in b) ≡ held_and (λ v. on s (home (row_key v))) (row_in b)
on_side_is s b e = ap (on_side s) (home_is b e) ∙ at (row_in b)
  where
    at : (o : Option RowValue) → on_side s (option_map (λ v. home (row_key v)) o) ≡ held_and (λ v. on s (home (row_key v))) o
    at None = refl
    at (Some v) = refl
