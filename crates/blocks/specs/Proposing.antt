-- What the steps of proposing come to.
use Rattle.std.specs.Prelude.{◌≡◌, [], ◌∷◌, Some, Ok, Err, Result}
use Rattle.format.specs.Values.{IdentifierValue, DigestValue}
use Rattle.format.specs.Outcomes.{Outcome, ◌>>=◌}
use Rattle.books.specs.Values.{ChainValue}
use Rattle.books.specs.Meaning.{record_key, record_value}
use Rattle.books.specs.Books.{Rows, BooksValue, put_record}
use Rattle.books.specs.declared.rows.Record.{Record}
use Rattle.committee.specs.Rules.{CommitteeValue}
use Rattle.reading.specs.Blocks.{block_in}
use Rattle.reading.specs.Frames.{RequestValue}
use Rattle.faults.specs.Refusals.{answered, call_refusal}
use Rattle.faults.specs.declared.CallFault.{CallFault}
use Rattle.applications.specs.Steps.{ApplicationValue}
use Rattle.protocol.specs.Reads.{SealsValue}
use Rattle.protocol.specs.Calls.{Done, with_vote, considered}

-- a check of a call
abbrev pub check_answer : Result (Unit {0}) CallFault → Outcome (Unit {0})
check_answer = answered (λ u. u) call_refusal

-- the chain of a record that was found
abbrev pub chain_answer : Result Record CallFault → Outcome ChainValue
chain_answer = answered (λ r. (record_value r).chain) call_refusal

-- the record is that of the chain in the books
pub record StandsAt (w : Rows) (c : IdentifierValue) (r : Record) : Type 0 where
  pub there : w.record_at c ≡ Some (record_value r)
  pub key : record_key r ≡ c

abbrev pub FoundAt : Rows → IdentifierValue → Result Record CallFault → Type 0
FoundAt w c (Ok r) = StandsAt w c r
FoundAt w c (Err f) = Unit {0}

-- the vote of a chain whose record was found, for this digest
abbrev pub ballot_answer : DigestValue → Result Record CallFault → Outcome Done
ballot_answer d =
    answered (λ r. record { digest = d; operations = put_record (record_key r) (with_vote (record_value r).chain (Some d)) ∷ [] }) call_refusal

-- a request whose frame was read
abbrev pub request_proposed : CommitteeValue → ApplicationValue → SealsValue → BooksValue → RequestValue → Outcome Done
request_proposed C A S B q = block_in q.block.1 >>= λ b. considered C A S B b q.seal.1
