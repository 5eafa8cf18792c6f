-- Slices that are given back whole.
use Rattle.std.proofs.Common.{◌≡◌, ℕ, ◌≤◌, List, length, take, drop, ap, ◌∙◌, length-take}
use native.Mathlib.Nat.{min-eq_left}
use Rattle.books.specs.Listed.{Lists, lists}
use Rattle.tables.specs.Limits.{max_rows}
use Rattle.tables.specs.Meaning.{GivenBack, rows_held, slices}
use Rattle.tables.specs.declared.tables.Tables.{Tables}

-- as many rows as are held, from the front
front : {R : Type 0} (n : ℕ) (rs : List R) → n ≤ length rs → take (length (take n rs)) rs ≡ take n rs
front n rs h = ap (λ k. take k rs) (length-take n rs ∙ min-eq_left h)

pub given_back : (t : Tables) (l : Lists) → l ≡ slices t → GivenBack t l
given_back t l e = record {
  whole = e;
  held_rows =
      ap (λ s. lists (take (length (rows_held t).records) s.records) (take (length (rows_held t).marks) s.marks) (take (length (rows_held t).outgoing) s.outgoing)) e
      ∙ (λ i. lists (front t.records.count _ t.records.in_slice i) (front t.marks.count _ t.marks.in_slice i) (front t.outgoing.count _ t.outgoing.in_slice i));
  past_rows = ap (λ s. lists (drop max_rows s.records) (drop max_rows s.marks) (drop max_rows s.outgoing)) e;
}
