-- Cells of which one is changed.
use Rattle.std.proofs.Common.{◌≡◌, ℕ, zero, suc, ◌+◌, ◌<◌, Bool, true, false, cond, not, ◌||◌, [], ◌∷◌, length, get_or, set, is_some, IfSome, Some, None, Option, sym, refl, ap, ◌∙◌, subst, arith}
use Rattle.std.proofs.lemmas.List.{set-get_or}
use Rattle.std.proofs.lemmas.Bool.{and_parts, and_from, or_left, or_right, cases_Bool, both_ways, not-true, not_from_false, lt-ltb, le-ltb, false≢true}
use Rattle.books.specs.Lists.{any}
use Rattle.books.proofs.Lists.{split}
use Rattle.slots.specs.Rows.{RowValue, RowKey, row_key, same_key, has_key}
use Rattle.slots.specs.Cells.{Cells, look, free, clashes, apart, Edited, Put, Removed}
use Rattle.slots.proofs.Begins.{key_decides}

-- no row, or the row with the key
abbrev pub OfKey : RowKey → Option RowValue → Type 0
OfKey k o = IfSome o (λ v. row_key v ≡ k)

itself : (k : RowKey) → same_key k k ≡ true
itself k = (key_decides k k).1 refl

flipped : (x y : RowKey) → same_key x y ≡ false → same_key y x ≡ false
flipped x y h = split (cases_Bool (same_key y x))
    (λ e. absurd (both_ways (same_key x y) h ((key_decides x y).1 (sym ((key_decides y x).0 e)))))
    (λ e. e)

pub or_parts : (x y : Bool) → (x || y) ≡ false → (x ≡ false) × (y ≡ false)
or_parts true y e = absurd (false≢true (sym e))
or_parts false y e = (refl, e)

or_from : (x y : Bool) → x ≡ false → y ≡ false → (x || y) ≡ false
or_from x y e h = (λ i. e i || h i)

-- a cell without the key
other_key : (k q : RowKey) (o : Option RowValue) → OfKey k o → same_key k q ≡ false → has_key q o ≡ false
other_key k q None h e = refl
other_key k q (Some v) h e = ap (λ z. same_key z q) h ∙ e

of_key : (k : RowKey) (o : Option RowValue) → has_key k o ≡ true → OfKey k o
of_key k None e = tt
of_key k (Some v) e = (key_decides (row_key v) k).0 e

pub absent_look : (os : Cells) (k : RowKey) → any (has_key k) os ≡ false → look os k ≡ None
absent_look [] k e = refl
absent_look (o ∷ os) k e = let p = or_parts _ _ e in ap (λ t. cond t o (look os k)) p.0 ∙ absent_look os k p.1

-- ---- the cell at i set to n
-- where no other cell has the key, the one at i is found
look_here : (os : Cells) (i : ℕ) (n : Option RowValue) (k : RowKey) → i < length os → any (has_key k) (set os i None) ≡ false → OfKey k n → look (set os i n) k ≡ n
look_here [] i n k l a h = absurd (omega arith)
look_here (o ∷ os) zero None k l a h = absent_look os k a
look_here (o ∷ os) zero (Some v) k l a h = ap (λ t. cond t (Some v) (look os k)) ((key_decides (row_key v) k).1 h)
look_here (o ∷ os) (suc i) n k l a h =
    let p = or_parts _ _ a in
    ap (λ t. cond t o (look (set os i n) k)) p.0 ∙ look_here os i n k (omega arith) p.1 h

-- a key that neither the old nor the new row has
look_there : (os : Cells) (i : ℕ) (n : Option RowValue) (q : RowKey) → has_key q (get_or os i None) ≡ false → has_key q n ≡ false → look (set os i n) q ≡ look os q
look_there [] i n q a b = refl
look_there (o ∷ os) zero n q a b = ap (λ t. cond t n (look os q)) b ∙ sym (ap (λ t. cond t o (look os q)) a)
look_there (o ∷ os) (suc i) n q a b = ap (cond (has_key q o) o) (look_there os i n q a b)

pub set_look : (os : Cells) (i : ℕ) (n : Option RowValue) (k : RowKey) → i < length os → any (has_key k) (set os i None) ≡ false → OfKey k (get_or os i None) → OfKey k n → Edited os k n (set os i n)
set_look os i n k l a old new q = split (cases_Bool (same_key k q))
    (λ e. rw e (subst (λ z. look (set os i n) z ≡ n) ((key_decides k q).0 e) (look_here os i n k l a new)))
    (λ e. rw e (look_there os i n q (other_key k q (get_or os i None) old e) (other_key k q n new e)))

-- where one cell has the key, no other has it
pub alone : (os : Cells) (i : ℕ) (k : RowKey) → apart os ≡ true → i < length os → has_key k (get_or os i None) ≡ true → any (has_key k) (set os i None) ≡ false
alone [] i k a l h = absurd (omega arith)
alone (o ∷ os) zero k a l h = no_clash o os k (not-true _ (and_parts _ _ a).0) h
  where
    no_clash : (o : Option RowValue) (os : Cells) (k : RowKey) → clashes o os ≡ false → has_key k o ≡ true → any (has_key k) os ≡ false
    no_clash None os k e h = absurd (false≢true h)
    no_clash (Some v) os k e h = subst (λ z. any (has_key z) os ≡ false) ((key_decides (row_key v) k).0 h) e
alone (o ∷ os) (suc i) k a l h =
    let p = and_parts _ _ a in
    or_from _ _ (before o (not-true _ p.0)) (alone os i k p.1 (omega arith) h)
  where
    some_has : (os : Cells) (i : ℕ) (k : RowKey) → i < length os → has_key k (get_or os i None) ≡ true → any (has_key k) os ≡ true
    some_has [] i k l h = absurd (omega arith)
    some_has (o ∷ os) zero k l h = or_left _ _ h
    some_has (o ∷ os) (suc i) k l h = or_right _ _ (some_has os i k (omega arith) h)

    before : (o : Option RowValue) → clashes o os ≡ false → has_key k o ≡ false
    before None e = refl
    before (Some v) e = split (cases_Bool (same_key (row_key v) k))
        (λ t. absurd (both_ways _ (subst (λ z. any (has_key z) os ≡ false) ((key_decides (row_key v) k).0 t) e) (some_has os i k (omega arith) h)))
        (λ t. t)

pub vacant : (os : Cells) (i : ℕ) (k : RowKey) → any (has_key k) os ≡ false → any (has_key k) (set os i None) ≡ false
vacant [] i k e = refl
vacant (o ∷ os) zero k e = (or_parts _ _ e).1
vacant (o ∷ os) (suc i) k e = let p = or_parts _ _ e in or_from _ _ p.0 (vacant os i k p.1)

-- ---- apart
any_set : (os : Cells) (i : ℕ) (n : Option RowValue) (q : RowKey) → any (has_key q) os ≡ false → has_key q n ≡ false → any (has_key q) (set os i n) ≡ false
any_set [] i n q e h = refl
any_set (o ∷ os) zero n q e h = or_from _ _ h (or_parts _ _ e).1
any_set (o ∷ os) (suc i) n q e h = let p = or_parts _ _ e in or_from _ _ p.0 (any_set os i n q p.1 h)

pub set_apart : (os : Cells) (i : ℕ) (n : Option RowValue) (k : RowKey) → apart os ≡ true → any (has_key k) (set os i None) ≡ false → OfKey k n → apart (set os i n) ≡ true
set_apart [] i n k a e h = refl
set_apart (o ∷ os) zero n k a e h = and_from _ _ (not_from_false _ (fresh n h)) (and_parts _ _ a).1
  where
    fresh : (n : Option RowValue) → OfKey k n → clashes n os ≡ false
    fresh None h = refl
    fresh (Some v) h = subst (λ z. any (has_key z) os ≡ false) (sym h) e
set_apart (o ∷ os) (suc i) n k a e h =
    let p = and_parts _ _ a in
    let q = or_parts _ _ e in
    and_from _ _ (not_from_false _ (still o (not-true _ p.0) q.0)) (set_apart os i n k p.1 q.1 h)
  where
    still : (o : Option RowValue) → clashes o os ≡ false → has_key k o ≡ false → clashes o (set os i n) ≡ false
    still None c d = refl
    still (Some v) c d = any_set os i n (row_key v) c (other_key k (row_key v) n h (flipped (row_key v) k d))

-- ---- free cells
free_taken : (os : Cells) (i : ℕ) (v : RowValue) → i < length os → get_or os i None ≡ None → free os ≡ free (set os i (Some v)) + 1
free_taken [] i v l e = absurd (omega arith)
free_taken (None ∷ os) zero v l e = refl
free_taken (Some w ∷ os) zero v l e = cc
free_taken (None ∷ os) (suc i) v l e = let h = free_taken os i v (omega arith) e in omega arith
free_taken (Some w ∷ os) (suc i) v l e = free_taken os i v (omega arith) e

free_given : (os : Cells) (i : ℕ) → i < length os → is_some (get_or os i None) ≡ true → free (set os i None) ≡ free os + 1
free_given [] i l e = absurd (omega arith)
free_given (None ∷ os) zero l e = absurd (false≢true e)
free_given (Some w ∷ os) zero l e = refl
free_given (None ∷ os) (suc i) l e = let h = free_given os i (omega arith) e in omega arith
free_given (Some w ∷ os) (suc i) l e = free_given os i (omega arith) e

free_kept : (os : Cells) (i : ℕ) (v : RowValue) → is_some (get_or os i None) ≡ true → free (set os i (Some v)) ≡ free os
free_kept [] i v e = refl
free_kept (None ∷ os) zero v e = absurd (false≢true e)
free_kept (Some w ∷ os) zero v e = refl
free_kept (None ∷ os) (suc i) v e = ap (λ n. n + 1) (free_kept os i v e)
free_kept (Some w ∷ os) (suc i) v e = free_kept os i v e

-- some cell is free where the count is not 0
pub none_free : (os : Cells) → any (λ o. not (is_some o)) os ≡ false → free os ≡ 0
none_free [] e = refl
none_free (None ∷ os) e = absurd (false≢true (sym e))
none_free (Some v ∷ os) e = none_free os e

-- ---- a put, and a removal
pub found : (os : Cells) (i : ℕ) (k : RowKey) → apart os ≡ true → i < length os → has_key k (get_or os i None) ≡ true → look os k ≡ get_or os i None
found os i k a l h =
    ap (λ z. look z k) (sym (set-get_or os i None)) ∙ look_here os i (get_or os i None) k l (alone os i k a l h) (of_key k (get_or os i None) h)

has_some : (k : RowKey) (o : Option RowValue) → has_key k o ≡ true → is_some o ≡ true
has_some k None e = absurd (false≢true e)
has_some k (Some v) e = refl

module _ (os : Cells) (sound : apart os ≡ true) where
  module _ (i : ℕ) (l : i < length os) where
    -- in the place of the row with its key
    pub put_old : (v : RowValue) → has_key (row_key v) (get_or os i None) ≡ true → Put os v true (set os i (Some v)) × (apart (set os i (Some v)) ≡ true)
    put_old v h =
        let k = row_key v in
        let a = alone os i k sound l h in
        let some : is_some (look os k) ≡ true = ap is_some (found os i k sound l h) ∙ has_some k (get_or os i None) h in (
          record {
            answer = rw some;
            change = (set_look os i (Some v) k l a (of_key k (get_or os i None) h) refl, rw some (let n = free_kept os i v (has_some k (get_or os i None) h) in omega arith));
          },
          set_apart os i (Some v) k sound a refl,
        )

    -- in a free cell
    pub put_new : (v : RowValue) → any (has_key (row_key v)) os ≡ false → get_or os i None ≡ None → Put os v true (set os i (Some v)) × (apart (set os i (Some v)) ≡ true)
    put_new v h e =
        let k = row_key v in
        let a = vacant os i k h in
        let none : is_some (look os k) ≡ false = ap is_some (absent_look os k h) in
        let n = free_taken os i v l e in (
          record {
            answer = rw (none, lt-ltb 0 (free os) (omega arith));
            change = (set_look os i (Some v) k l a (subst (OfKey k) (sym e) tt) refl, rw none n);
          },
          set_apart os i (Some v) k sound a refl,
        )

    pub remove_old : (k : RowKey) → has_key k (get_or os i None) ≡ true → Removed os k (set os i None) × (apart (set os i None) ≡ true)
    remove_old k h =
        let a = alone os i k sound l h in
        let some : is_some (look os k) ≡ true = ap is_some (found os i k sound l h) ∙ has_some k (get_or os i None) h in (
          record {
            rows = set_look os i None k l a (of_key k (get_or os i None) h) tt;
            places = rw some (free_given os i l (has_some k (get_or os i None) h));
          },
          set_apart os i None k sound a tt,
        )

  pub put_full : (v : RowValue) → any (has_key (row_key v)) os ≡ false → free os ≡ 0 → Put os v false os
  put_full v h e = record { answer = rw (ap is_some (absent_look os (row_key v) h), le-ltb 0 (free os) (omega arith)); change = refl }

  pub remove_none : (k : RowKey) → any (has_key k) os ≡ false → Removed os k os
  remove_none k h =
      let none = absent_look os k h in
      record {
        rows = λ q. split (cases_Bool (same_key k q))
            (λ e. rw e (subst (λ z. look os z ≡ None) ((key_decides k q).0 e) none))
            (λ e. rw e);
        places = rw none (omega arith);
      }
