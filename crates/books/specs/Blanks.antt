-- The rows that stand where no row is held.
use Rattle.std.specs.Prelude.{[], ◌∷◌, pos, None}
use Rattle.format.specs.Rules.{zero_digest}
use Rattle.format.specs.Values.{IdentifierValue, NameValue, MessageValue}
use Rattle.books.specs.Values.{ChainValue, RecordValue, plus, MarkValue, opening, EntryValue}

abbrev pub blank_identifier : IdentifierValue
blank_identifier = 0 ∷ []

abbrev pub blank_chain : ChainValue
blank_chain = record { owner = 0; next = 0; digest = zero_digest; a = pos 0; b = pos 0 }

abbrev pub blank_record : IdentifierValue × RecordValue
blank_record = (blank_identifier, record { chain = blank_chain; vote = None })

abbrev pub blank_name : NameValue
blank_name = record { sender = blank_identifier; height = 0; index = 0 }

abbrev pub blank_message : MessageValue
blank_message = record { name = blank_name; code = 0; value = pos 0 }

abbrev pub blank_mark : MarkValue
blank_mark = record { target = blank_identifier; message = blank_message; sign = plus }

abbrev pub blank_entry : EntryValue
blank_entry = record { name = blank_name; row = record { target = blank_identifier; load = opening 0 } }
