-- The earlier of outgoing rows, one after another.
use Rattle.std.specs.Prelude.{Bool, false, cond, Some, None, Option}
use Rattle.format.specs.Values.{IdentifierValue}
use Rattle.books.specs.Values.{EntryValue}
use Rattle.books.specs.Order.{before}
use Rattle.books.specs.Sides.{on}
use Rattle.books.specs.declared.side.Side.{Side}

-- the first where neither is before the other
abbrev pub earlier_entry : Option EntryValue → EntryValue → Option EntryValue
earlier_entry None y = Some y
earlier_entry (Some x) y = cond (before y x) (Some y) (Some x)

-- with a row of another cell, where a test chooses its sender
abbrev pub earlier_cell : (IdentifierValue → Bool) → Option EntryValue → Option EntryValue → Option EntryValue
earlier_cell test best None = best
earlier_cell test best (Some y) = cond (test y.name.sender) (earlier_entry best y) best

-- whether a chain that is there is on a side
abbrev pub on_side : Side → Option IdentifierValue → Bool
on_side s None = false
on_side s (Some c) = on s c
