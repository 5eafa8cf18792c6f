-- List seals: the number of a row that the site's signing module has checked.
use Rattle.std.specs.Prelude.{ℕ, Bool, false, ◌&&◌, List, [], ◌∷◌, length, drop, ◌==◌}
use Rattle.std.proofs.Common.{lit≤}
use Rattle.std.proofs.lemmas.Bool.{and_parts, eqb-true}
use Rattle.std.specs.Str.{bytes_eq}
use Rattle.hash.specs.Words.{from_bytes}
use Rattle.seals.specs.Meaning.{Holds, Laws}
use Rattle.seals.specs.declared.lists.Checked.{Checked}
use Rattle.seals.specs.declared.lists.CheckedList.{CheckedList}

-- the row is of this key and digest
abbrev pub row_is : Checked → ℕ → List ℕ → Bool
row_is r key digest = r.key.0 == key && bytes_eq r.digest.bytes digest

-- the first row is; no row means no
abbrev pub first_is : List Checked → ℕ → List ℕ → Bool
first_is [] key digest = false
first_is (r ∷ rs) key digest = row_is r key digest

-- the bytes of a row number
abbrev pub list_width : ℕ
list_width = 4

abbrev pub list_holds : CheckedList → Holds
list_holds l key digest seal = length seal == list_width && first_is (drop (from_bytes seal) l.rows.now) key digest

pub list_laws : Laws list_width list_holds
list_laws = record { some = lit≤ tt; few = lit≤ tt; exact = λ l key digest seal e. eqb-true (length seal) list_width (and_parts (length seal == list_width) _ e).0 }
