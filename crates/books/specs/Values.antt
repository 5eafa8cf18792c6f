-- The rows of books, as plain values.
use Rattle.std.specs.Prelude.{ℕ, ℤ, Option}
use Rattle.format.specs.Values.{IdentifierValue, DigestValue, NameValue, MessageValue}

-- what a chain is, apart from a vote
pub record ChainValue : Type 0 where
  pub owner : ℕ
  pub next : ℕ
  pub digest : DigestValue
  pub a : ℤ
  pub b : ℤ

-- a record: the chain and the voted digest, if there is one. Its identifier is its key
pub record RecordValue : Type 0 where
  pub chain : ChainValue
  pub vote : Option DigestValue

pub data SignValue : Type 0 where
  plus : SignValue
  minus : SignValue

-- a mark: its key is all of it
pub record MarkValue : Type 0 where
  pub target : IdentifierValue
  pub message : MessageValue
  pub sign : SignValue

abbrev pub marking : IdentifierValue → MessageValue → SignValue → MarkValue
marking c m s = record { target = c; message = m; sign = s }

-- an opening with its key, or a message's code and value
pub data LoadValue : Type 0 where
  opening : ℕ → LoadValue
  sent : ℕ → ℤ → LoadValue

-- an outgoing row. Its name is its key
pub record OutgoingValue : Type 0 where
  pub target : IdentifierValue
  pub load : LoadValue

-- an outgoing row with its name
pub record EntryValue : Type 0 where
  pub name : NameValue
  pub row : OutgoingValue
