-- Counts of new rows.
use Rattle.std.specs.Prelude.{ℕ, ◌+◌, ◌≤◌}

-- so many new rows of each kind
pub record Counts : Type 0 where
  pub records : ℕ
  pub marks : ℕ
  pub outgoing : ℕ

abbrev pub counts : ℕ → ℕ → ℕ → Counts
counts x y z = record { records = x; marks = y; outgoing = z }

abbrev pub none : Counts
none = counts 0 0 0

pub record Fewer (x y : Counts) : Type 0 where
  pub records : x.records ≤ y.records
  pub marks : x.marks ≤ y.marks
  pub outgoing : x.outgoing ≤ y.outgoing

pub data Kind : Type 0 where
  a_record : Kind
  a_mark : Kind
  an_outgoing : Kind

-- n more of a kind
abbrev pub more : Kind → ℕ → Counts → Counts
more a_record n x = counts (x.records + n) x.marks x.outgoing
more a_mark n x = counts x.records (x.marks + n) x.outgoing
more an_outgoing n x = counts x.records x.marks (x.outgoing + n)
