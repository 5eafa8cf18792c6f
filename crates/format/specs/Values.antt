-- The values that blocks are made of, as plain lists and numbers.
use Rattle.std.specs.Prelude.{ℕ, List, ℤ}

-- the numbers of a chain's identifier
abbrev pub IdentifierValue : Type 0
IdentifierValue = List ℕ

-- the bytes of a digest
abbrev pub DigestValue : Type 0
DigestValue = List ℕ

-- what names a message: the chain and height of the block that sent it, and the place of the command that did
pub record NameValue : Type 0 where
  pub sender : IdentifierValue
  pub height : ℕ
  pub index : ℕ

pub record MessageValue : Type 0 where
  pub name : NameValue
  pub code : ℕ
  pub value : ℤ

-- Open: child, key. Change: key. Close. Execute: code, argument, target. Receive: message.
pub data CommandValue : Type 0 where
  opens : IdentifierValue → ℕ → CommandValue
  changes : ℕ → CommandValue
  closes : CommandValue
  executes : ℕ → ℤ → IdentifierValue → CommandValue
  receives : MessageValue → CommandValue
  deriving Discrete as command_discrete

pub record BlockValue : Type 0 where
  pub chain : IdentifierValue
  pub height : ℕ
  pub previous : DigestValue
  pub commands : List CommandValue
