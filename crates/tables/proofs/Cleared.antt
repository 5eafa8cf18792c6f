-- Blank rows written one after another.
use Rattle.std.proofs.Common.{◌≡◌, ℕ, zero, suc, min, List, [], ◌∷◌, ◌++◌, map, length, take, drop, replicate, sym, refl, ap, ◌∙◌, arith, length-append, length-drop}
use lib.ListN.{length-map, length-replicate}
use Rattle.std.proofs.lemmas.List.{drop_all, drop_at, drop-map, length-take-le, map-append}
use Rattle.std.proofs.lemmas.Bool.{cases_lt}
use Rattle.books.proofs.Lists.{split}
use Rattle.tables.specs.Limits.{max_rows}
use Rattle.tables.specs.Held.{memory, usable, held, room, past, cleared}
use Rattle.tables.specs.declared.table.Table.{Table}

-- what lies past the rows that are used
drop_usable : {R : Type 0} (cap : ℕ) (d : List R) → drop (min (length d) cap) d ≡ drop cap d
drop_usable cap d =
    split (cases_lt cap (length d))
    (λ l. let e : min (length d) cap ≡ cap = omega arith in ap (λ n. drop n d) e)
    (λ l. drop_all (min (length d) cap) d (omega arith) ∙ sym (drop_all cap d l))

-- the first rows filled, and behind them what was there
pub cleared_is : {R : Type 0} (b : R) (front rs : List R) (end : ℕ) → front ≡ replicate (length (take end rs)) b → end ≡ usable rs → front ++ drop end rs ≡ cleared b rs
cleared_is b front rs end e h =
    let l : length (take end rs) ≡ usable rs = length-take-le end rs (omega arith) ∙ h in
    (λ i. (e ∙ ap (λ n. replicate n b) l) i ++ drop (h i) rs) ∙ ap (λ z. replicate (usable rs) b ++ z) (drop_usable max_rows rs)

map_replicate : {X Y : Type 0} (f : X → Y) (n : ℕ) (x : X) → map f (replicate n x) ≡ replicate n (f x)
map_replicate f zero x = refl
map_replicate f (suc n) x = ap (λ z. f x ∷ z) (map_replicate f n x)

pub map_cleared : {X Y : Type 0} (f : X → Y) (b : X) (c : Y) (rs : List X) → f b ≡ c → map f (cleared b rs) ≡ cleared c (map f rs)
map_cleared f b c rs e =
    map-append f (replicate (usable rs) b) (drop max_rows rs)
    ∙ (λ i. (map_replicate f (usable rs) b ∙ (λ j. replicate (min (sym (length-map rs f) j) max_rows) (e j))) i ++ sym (drop-map f max_rows rs) i)

-- ---- a table with no row in cleared memory
module _ {R L : Type 0} {keys : _} (t : Table R L keys) (b : R) (rs : List R) (none : t.count ≡ 0) (is : memory t ≡ cleared b rs) where
  length_is : length (memory t) ≡ length rs
  length_is = ap length is ∙ simp (length-append, length-replicate, length-drop) (omega arith)

  pub new_held : held t ≡ []
  new_held = ap (λ n. take n (memory t)) none

  pub new_room : room t ≡ usable rs
  new_room = let l = length_is in omega arith

  pub new_past : past t ≡ drop max_rows rs
  new_past =
      ap (drop max_rows) is
      ∙ split (cases_lt (length rs) max_rows)
      (λ l. drop_all max_rows (cleared b rs) (simp (length-append, length-replicate, length-drop) (omega arith)) ∙ sym (drop_all max_rows rs (omega arith)))
      (λ l. drop_at (replicate (usable rs) b) (drop max_rows rs) max_rows (length-replicate (usable rs) b ∙ omega arith))
