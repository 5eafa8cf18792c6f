-- The limit of a table.
use Rattle.std.specs.Prelude.{ℕ}

abbrev pub max_rows : ℕ
max_rows = 1024
