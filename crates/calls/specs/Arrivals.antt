-- The places that the arrival of an outgoing row needs.
use Rattle.std.specs.Prelude.{ℕ, cond, ◌||◌, Some, None, Option}
use Rattle.format.specs.Values.{IdentifierValue, NameValue, MessageValue}
use Rattle.books.specs.Values.{plus, minus, marking, LoadValue, opening, sent, OutgoingValue}
use Rattle.books.specs.Counts.{Counts, counts}
use Rattle.books.specs.Books.{Rows}
use Rattle.protocol.specs.Calls.{message_of}

abbrev pub missing : {X : Type 0} → Option X → ℕ
missing None = 1
missing (Some x) = 0

-- neither the minus mark, which is removed, nor the plus mark, which is there, needs a place
abbrev pub new_marks : Rows → IdentifierValue → MessageValue → ℕ
new_marks w c m = cond (w.marked (marking c m minus) || w.marked (marking c m plus)) 0 1

abbrev pub load_marks : Rows → NameValue → IdentifierValue → LoadValue → ℕ
load_marks w n c (opening key) = 0
load_marks w n c (sent code value) = new_marks w c (message_of n code value)

abbrev pub arrival_counts : Rows → NameValue → OutgoingValue → Counts
arrival_counts w n o = counts (missing (w.record_at o.target)) (load_marks w n o.target o.load) 0
