-- The rows that are put and looked up, by their places.
use Rattle.std.specs.Prelude.{ℕ, [], ◌∷◌, pos, Some, None, Option}
use Rattle.format.specs.Rules.{zero_digest}
use Rattle.format.specs.Values.{IdentifierValue, NameValue}
use Rattle.books.specs.Values.{RecordValue, LoadValue, opening, sent, OutgoingValue, EntryValue}
use Rattle.books.specs.Books.{Operation, put_record, put_outgoing, Rows}

abbrev pub root : ℕ → IdentifierValue
root place = place ∷ []

-- ---- a record of the chain, with the place as its next height
abbrev pub record_of : ℕ → RecordValue
record_of place = record { chain = record { owner = 0; next = place; digest = zero_digest; a = pos 0; b = pos 0 }; vote = None }

abbrev pub record_put : ℕ → Operation
record_put place = put_record (root place) (record_of place)

abbrev pub next_of : Option RecordValue → ℕ
next_of None = 0
next_of (Some r) = r.chain.next

abbrev pub record_found : Rows → ℕ → ℕ
record_found w place = next_of (w.record_at (root place))

-- ---- an opening that chain 0 sent at the height, with the place as its key
abbrev pub opening_name : ℕ → NameValue
opening_name place = record { sender = root 0; height = place; index = 0 }

abbrev pub opening_row : ℕ → EntryValue
opening_row place = record { name = opening_name place; row = record { target = root place; load = opening place } }

abbrev pub opening_put : ℕ → Operation
opening_put place = put_outgoing (opening_name place) (opening_row place).row

abbrev pub load_key : LoadValue → ℕ
load_key (opening key) = key
load_key (sent code value) = 0

abbrev pub opening_key : Option OutgoingValue → ℕ
opening_key None = 0
opening_key (Some o) = load_key o.load

abbrev pub opening_found : Rows → ℕ → ℕ
opening_found w place = opening_key (w.outgoing_at (opening_name place))
