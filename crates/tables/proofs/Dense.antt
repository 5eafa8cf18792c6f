-- A row put into or removed from a table.
use Rattle.std.proofs.Common.{◌≡◌, ℕ, suc, ◌+◌, ◌-◌, ◌<◌, ◌≤◌, true, false, List, [], ◌∷◌, ◌++◌, length, get_or, take, drop, set, is_some, None, Decides, sym, refl, ap, ◌∙◌, subst, arith, length-take}
use lib.Seq.{take-set-lt}
use Rattle.std.proofs.lemmas.List.{drop-set-lt, get_or-take, get_or_default, length-set, length-take-le, take-take, take_more_set}
use Rattle.std.proofs.lemmas.Bool.{lt-ltb, le-ltb, cases_Bool}
use Rattle.books.specs.Lists.{find, Absent, Apart, Present}
use Rattle.books.specs.declared.keyed.Keyed.{Ghosts}
use Rattle.books.proofs.Lists.{split}
use Rattle.books.proofs.Finds.{find_first, find_absent, set_apart, set_find, push_apart, push_find, left_apart, left_find}
use Rattle.tables.specs.Dense.{Edited, Put, Removed}
use Rattle.tables.specs.Held.{memory, usable, held, room, past}
use Rattle.tables.specs.Limits.{max_rows}
use Rattle.tables.specs.declared.table.Table.{Table}

module _ {R L : Type 0} {keys : Ghosts R L} (decides : (x y : keys.Label) → Decides (keys.same x y) (x ≡ y)) (t : Table R L keys) where
  abbrev rows : List R
  rows = memory t

  abbrev n : ℕ
  n = t.count

  abbrev rs : List R
  rs = held t

  -- the first n' of the rows rows', of which Q holds, with their free places
  pub record After (Q : List R → ℕ → Type 0) (rows' : List R) (n' : ℕ) : Type 0 where
    pub change : Q (take n' rows') (usable rows' - n')
    pub in_slice : n' ≤ length rows'
    pub in_limit : n' ≤ max_rows
    pub apart : Apart keys.named keys.same (take n' rows')
    pub rest : drop max_rows rows' ≡ past t

  present_some : (k : keys.Label) (i : ℕ) (d : R) → Present keys.named keys.same rs k i → is_some (find keys.named keys.same rs k) ≡ true
  present_some k i d p = ap is_some (find_first keys.named keys.same rs k i d p.within (p.here d) p.before)

  absent_none : (k : keys.Label) → Absent keys.named keys.same rs k → is_some (find keys.named keys.same rs k) ≡ false
  absent_none k a = ap is_some (find_absent keys.named keys.same rs k a)

  -- a row in the place of the one with its key
  pub put_old : (i : ℕ) (row : R) → i < n → Present keys.named keys.same rs (keys.named row) i → After (Put keys.named keys.same rs (room t) row true) (set rows i row) n
  put_old i row low p =
      let old : take n (set rows i row) ≡ set rs i row = take-set-lt n rows i row low in
      let some = present_some (keys.named row) i row p in
      let l = t.in_limit in
      record {
        change = record {
          answer = rw some;
          change = (λ q. rw old (set_find keys.named keys.same decides rs i row t.apart (p.within, p.here) q), rw (some, length-set rows i row) (omega arith));
        };
        in_slice = simp length-set t.in_slice;
        in_limit = l;
        apart = rw old (set_apart keys.named keys.same decides rs i row t.apart (p.within, p.here));
        rest = drop-set-lt max_rows rows i row (omega arith);
      }

  -- a row behind the others
  pub put_new : (row : R) → n < usable rows → Absent keys.named keys.same rs (keys.named row) → After (Put keys.named keys.same rs (room t) row true) (set rows n row) (n + 1)
  put_new row space a =
      let new : take (n + 1) (set rows n row) ≡ rs ++ row ∷ [] = take_more_set rows n row (omega arith) in
      let none = absent_none (keys.named row) a in
      record {
        change = record {
          answer = rw (none, lt-ltb 0 (room t) (omega arith));
          change = (λ q. rw new (push_find keys.named keys.same decides rs row t.apart a q), rw (none, length-set rows n row) (omega arith));
        };
        in_slice = simp length-set (omega arith);
        in_limit = omega arith;
        apart = rw new (push_apart keys.named keys.same decides rs row t.apart a);
        rest = drop-set-lt max_rows rows n row (omega arith);
      }

  -- no room
  pub put_full : (row : R) → n ≡ usable rows → Absent keys.named keys.same rs (keys.named row) → Put keys.named keys.same rs (room t) row false rs (room t)
  put_full row full a = record { answer = rw (absent_none (keys.named row) a, le-ltb 0 (room t) (omega arith)); change = (refl, refl) }

  -- one row fewer
  pub fewer_apart : Apart keys.named keys.same (take (n - 1) rows)
  fewer_apart = subst (Apart keys.named keys.same) (take-take (n - 1) n rows (omega arith)) front
    where
      front : Apart keys.named keys.same (take (n - 1) rs)
      front p =
          let l = length-take (n - 1) rs in
          let i : p.0 < p.1 = p.3 in
          let j : p.1 < length (take (n - 1) rs) = p.4 in
          rw (get_or-take (n - 1) rs p.0 p.2 (omega arith), get_or-take (n - 1) rs p.1 p.2 (omega arith)) (t.apart (p.0, p.1, p.2, p.3, omega arith))

  -- the last row in the place of one that goes
  module _ (k : keys.Label) (i : ℕ) (d : R) (low : i < n) (p : Present keys.named keys.same rs k i) where
    abbrev last : R
    last = get_or rows (n - 1) d

    size : length rs ≡ suc (n - 1)
    size = length-take-le n rows t.in_slice ∙ omega arith

    end : (x : R) → get_or rs (n - 1) x ≡ last
    end x = let w = t.in_slice in get_or-take n rows (n - 1) x (omega arith) ∙ get_or_default rows (n - 1) x d (omega arith)

    gone : take (n - 1) (set rows i last) ≡ take (n - 1) (set rs i last)
    gone = sym (take-take (n - 1) n (set rows i last) (omega arith)) ∙ ap (take (n - 1)) (take-set-lt n rows i last low)

    pub remove_old : After (Removed keys.named keys.same rs (room t) k) (set rows i last) (n - 1)
    remove_old =
        let w = t.in_slice in
        let l = t.in_limit in
        record {
          change = record {
            rows = λ q. rw gone (left_find keys.named keys.same decides rs i (n - 1) last k t.apart (p.within, p.here) size end q);
            places = rw (present_some k i d p, length-set rows i last) (omega arith);
          };
          in_slice = simp length-set (omega arith);
          in_limit = omega arith;
          apart = rw gone (left_apart keys.named keys.same decides rs i (n - 1) last k t.apart (p.within, p.here) size end);
          rest = drop-set-lt max_rows rows i last (omega arith);
        }

  -- no row has the key
  pub remove_none : (k : keys.Label) → Absent keys.named keys.same rs k → Removed keys.named keys.same rs (room t) k rs (room t)
  remove_none k a = record { rows = unchanged; places = rw (absent_none k a) (omega arith) }
    where
      unchanged : Edited keys.named keys.same rs k None rs
      unchanged q = split (cases_Bool (keys.same k q))
          (λ e. rw e (subst (λ z. find keys.named keys.same rs z ≡ None) ((decides k q).0 e) (find_absent keys.named keys.same rs k a)))
          (λ e. rw e)
