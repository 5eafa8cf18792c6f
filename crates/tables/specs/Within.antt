-- Each count is within the free rows of its table.
use Rattle.std.specs.Prelude.{◌≡◌, ℕ, ◌≤◌, true, ◌&&◌, nat_le}
use Rattle.std.proofs.Common.{arith}
use Rattle.std.proofs.lemmas.Bool.{le-leb, leb-true, and_parts, and_from}
use Rattle.format.specs.Values.{IdentifierValue}
use Rattle.books.specs.Counts.{Counts, none, Fewer}
use Rattle.books.specs.Books.{Fits}

abbrev pub within : Counts → Fits
within free c x = nat_le x.records free.records && (nat_le x.marks free.marks && nat_le x.outgoing free.outgoing)

pub within_zeros : (free : Counts) (c : IdentifierValue) → within free c none ≡ true
within_zeros free c = and_from _ _ (le-leb 0 free.records (omega arith)) (and_from _ _ (le-leb 0 free.marks (omega arith)) (le-leb 0 free.outgoing (omega arith)))

pub within_less : (free free' : Counts) → Fewer free free' → (c : IdentifierValue) (x y : Counts) → Fewer x y → within free c y ≡ true → within free' c x ≡ true
within_less free free' k c x y h e =
    let p = and_parts (nat_le y.records free.records) _ e in
    let q = and_parts (nat_le y.marks free.marks) _ p.1 in
    and_from _ _ (below h.records k.records p.0) (and_from _ _ (below h.marks k.marks q.0) (below h.outgoing k.outgoing q.1))
  where
    below : {x y n m : ℕ} → x ≤ y → n ≤ m → nat_le y n ≡ true → nat_le x m ≡ true
    below {x} {y} {n} {m} l k e = let b = leb-true y n e in le-leb x m (omega arith)

pub same_counts : (x : Counts) → Fewer x x
same_counts x = record { records = omega arith; marks = omega arith; outgoing = omega arith }
