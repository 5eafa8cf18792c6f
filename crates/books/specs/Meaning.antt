-- What the code's types stand for.
use Rattle.std.specs.Option.{option_map}
use Rattle.format.specs.Values.{IdentifierValue, NameValue}
use Rattle.format.specs.Meaning.{identifier_value, digest_value, name_value, message_value}
use Rattle.books.specs.Values.{RecordValue, SignValue, plus, minus, MarkValue, LoadValue, opening, sent, OutgoingValue, EntryValue}
use Rattle.books.specs.Counts.{Counts, counts}
use Rattle.books.specs.declared.rows.NewRows.{NewRows}
use Rattle.books.specs.declared.rows.Record.{Record}
use Rattle.books.specs.declared.rows.Sign.{Sign}
use Rattle.books.specs.declared.rows.Sign.TheVariants.{Plus, Minus}
use Rattle.books.specs.declared.rows.Mark.{Mark}
use Rattle.books.specs.declared.rows.Load.{Load}
use Rattle.books.specs.declared.rows.Load.TheVariants.{Opening, Sent}
use Rattle.books.specs.declared.rows.Outgoing.{Outgoing}

abbrev pub counts_value : NewRows → Counts
counts_value n = counts n.records n.marks n.outgoing

abbrev pub record_key : Record → IdentifierValue
record_key r = identifier_value r.identifier

abbrev pub record_value : Record → RecordValue
record_value r = record {
  chain = record { owner = r.owner.0; next = r.next.0; digest = digest_value r.last; a = r.a; b = r.b };
  vote = option_map digest_value r.vote;
}

abbrev pub record_row : Record → IdentifierValue × RecordValue
record_row r = (record_key r, record_value r)

abbrev pub sign_value : Sign → SignValue
sign_value Plus = plus
sign_value Minus = minus

abbrev pub mark_value : Mark → MarkValue
mark_value m = record { target = identifier_value m.target; message = message_value m.message; sign = sign_value m.sign }

abbrev pub load_value : Load → LoadValue
load_value (Opening key) = opening key.0
load_value (Sent code value) = sent code value

abbrev pub outgoing_key : Outgoing → NameValue
outgoing_key o = name_value o.name

abbrev pub outgoing_value : Outgoing → OutgoingValue
outgoing_value o = record { target = identifier_value o.target; load = load_value o.load }

abbrev pub entry_value : Outgoing → EntryValue
entry_value o = record { name = outgoing_key o; row = outgoing_value o }
