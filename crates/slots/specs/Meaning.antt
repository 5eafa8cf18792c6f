-- What the code's rows stand for.
use Rattle.books.specs.Meaning.{record_key, record_value, mark_value, entry_value}
use Rattle.books.specs.declared.rows.Record.{Record}
use Rattle.books.specs.declared.rows.Mark.{Mark}
use Rattle.books.specs.declared.rows.Outgoing.{Outgoing}
use Rattle.slots.specs.Rows.{RowValue, holds_record, holds_mark, holds_outgoing}

abbrev pub held_record : Record → RowValue
held_record r = holds_record (record_key r) (record_value r)

abbrev pub held_mark : Mark → RowValue
held_mark m = holds_mark (mark_value m)

abbrev pub held_outgoing : Outgoing → RowValue
held_outgoing o = holds_outgoing (entry_value o)
