-- What a table holds, its free rows, and the memory past its limit.
use Rattle.std.specs.Prelude.{ℕ, ◌-◌, min, List, ◌++◌, length, take, drop, replicate}
use Rattle.tables.specs.Limits.{max_rows}
use Rattle.tables.specs.declared.table.Table.{Table}

-- the whole slice
abbrev pub memory : {R L : Type 0} {keys : _} → Table R L keys → List R
memory t = t.rows.now

-- how many rows of a slice are used at most
abbrev pub usable : {R : Type 0} → List R → ℕ
usable rs = min (length rs) max_rows

abbrev pub held : {R L : Type 0} {keys : _} → Table R L keys → List R
held t = take t.count (memory t)

abbrev pub room : {R L : Type 0} {keys : _} → Table R L keys → ℕ
room t = usable (memory t) - t.count

abbrev pub past : {R L : Type 0} {keys : _} → Table R L keys → List R
past t = drop max_rows (memory t)

-- blank rows up to the limit, and past it what was there
abbrev pub cleared : {R : Type 0} → R → List R → List R
cleared blank rs = replicate (usable rs) blank ++ drop max_rows rs
