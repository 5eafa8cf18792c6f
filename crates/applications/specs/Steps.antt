-- What a step of an application comes to.
use Rattle.std.specs.Prelude.{ℕ, ◌≤◌, Bool, true, false, ℤ, Option}

-- a message that a step sends
pub record SentValue : Type 0 where
  pub code : ℕ
  pub value : ℤ

-- a refusal with the application's own number, or new numbers a and b and at most one message
pub data StepValue : Type 0 where
  Refuses : ℕ → StepValue
  Gives : ℤ → ℤ → Option SentValue → StepValue

-- a step depends on a, b, the code and the value, and on nothing else
abbrev pub StepRule : Type 0
StepRule = ℤ → ℤ → ℕ → ℤ → StepValue

-- an application: the numbers of a new chain, a step by an operation of the chain's own block, and one by a message that the
-- chain receives
pub record ApplicationValue : Type 0 where
  pub start_a : ℤ
  pub start_b : ℤ
  pub operation : StepRule
  pub message : StepRule

-- a check of an application
abbrev pub refuse_unless : Bool → ℕ → StepValue → StepValue
refuse_unless true n s = s
refuse_unless false n s = Refuses n

-- a refusal's number is from 1 to 255
abbrev pub Numbered : StepValue → Type 0
Numbered (Refuses n) = (1 ≤ n) × (n ≤ 255)
Numbered (Gives a b sent) = Unit {0}

abbrev pub RuleNumbered : StepRule → Type 0
RuleNumbered rule = (a b : ℤ) (code : ℕ) (value : ℤ) → Numbered (rule a b code value)
