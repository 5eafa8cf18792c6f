-- Worked values of the definitions.
use Rattle.std.specs.Prelude.{◌≡◌, ℕ, true, false, List, [], ◌∷◌, length, ℤ, pos, negsuc}
use Rattle.std.specs.List.{AllByRecursion}
use Rattle.format.specs.Layout.{digest_len, max_commands}
use Rattle.format.specs.Values.{IdentifierValue, DigestValue, MessageValue, CommandValue, opens, changes, closes, executes, receives, BlockValue}
use Rattle.format.specs.Bytes.{identifier_bytes, bytes_of}
use Rattle.format.specs.Outcomes.{refusal, Refused, Passed}
use Rattle.committee.specs.Rules.{CommitteeValue}
use Rattle.committee.specs.Weights.{faulty_weight, quorum_weight}
use Rattle.applications.specs.Steps.{StepValue, Refuses, Gives, StepRule}
use Rattle.applications.specs.Ring.{record_and_send, record_only, recorded, ring_operation, ring_message}
use Rattle.books.specs.Values.{SignValue, marking, sent, RecordValue}
use Rattle.books.specs.Books.{Rows, apply_all}
use Rattle.protocol.specs.Reads.{SealsValue}
use Rattle.protocol.specs.Execution.{child_of, child_allowed}
use Rattle.protocol.specs.Calls.{certified, receipts, arrives}

-- members with these weights, whatever their keys
abbrev pub weighing : List ℕ → List ℕ → CommitteeValue
weighing (k ∷ ks) (w ∷ ws) = record { key = k; weight = w } ∷ weighing ks ws
weighing [] ws = []
weighing (k ∷ ks) [] = []

-- Weights 1, 1, 1, 1: f is 1, the quorum 3. Weights 5, 3, 2: f is 3, the quorum 7; members 0 and 2 reach it, 1 and 2 do not.
pub record WorkedQuorums : Type 0 where
  pub four_faulty : (k₀ k₁ k₂ k₃ : ℕ) → faulty_weight (weighing (k₀ ∷ k₁ ∷ k₂ ∷ k₃ ∷ []) (1 ∷ 1 ∷ 1 ∷ 1 ∷ [])) ≡ 1
  pub four_quorum : (k₀ k₁ k₂ k₃ : ℕ) → quorum_weight (weighing (k₀ ∷ k₁ ∷ k₂ ∷ k₃ ∷ []) (1 ∷ 1 ∷ 1 ∷ 1 ∷ [])) ≡ 3
  pub three_faulty : (k₀ k₁ k₂ : ℕ) → faulty_weight (weighing (k₀ ∷ k₁ ∷ k₂ ∷ []) (5 ∷ 3 ∷ 2 ∷ [])) ≡ 3
  pub three_quorum : (k₀ k₁ k₂ : ℕ) → quorum_weight (weighing (k₀ ∷ k₁ ∷ k₂ ∷ []) (5 ∷ 3 ∷ 2 ∷ [])) ≡ 7
  pub first_and_last : (k₀ k₁ k₂ : ℕ) (S : SealsValue) (d : DigestValue) (x y : ℕ × List ℕ) → S.holds k₀ d x.1 ≡ true → S.holds k₂ d y.1 ≡ true
      → certified (weighing (k₀ ∷ k₁ ∷ k₂ ∷ []) (5 ∷ 3 ∷ 2 ∷ [])) S d (record { member = 0; seal = x } ∷ record { member = 2; seal = y } ∷ []) ≡ Passed tt
  pub last_two : (k₀ k₁ k₂ : ℕ) (S : SealsValue) (d : DigestValue) (x y : ℕ × List ℕ) → S.holds k₁ d x.1 ≡ true → S.holds k₂ d y.1 ≡ true
      → certified (weighing (k₀ ∷ k₁ ∷ k₂ ∷ []) (5 ∷ 3 ∷ 2 ∷ [])) S d (record { member = 1; seal = x } ∷ record { member = 2; seal = y } ∷ []) ≡ Refused (refusal 6)

-- [2, 7] is 02 0002 0007 0000 0000 in hexadecimal, and chain [2] opens it at height 7.
pub record WorkedIdentifier : Type 0 where
  pub bytes : identifier_bytes (2 ∷ 7 ∷ []) ≡ 0x02 ∷ 0x00 ∷ 0x02 ∷ 0x00 ∷ 0x07 ∷ 0x00 ∷ 0x00 ∷ 0x00 ∷ 0x00 ∷ []
  pub child : child_of (2 ∷ []) 7 ≡ 2 ∷ 7 ∷ []
  pub opens_it : child_allowed (2 ∷ []) 7 (2 ∷ 7 ∷ []) ≡ true

abbrev pub IsReceive : CommandValue → Type 0
IsReceive (opens child key) = ⊥
IsReceive (changes key) = ⊥
IsReceive closes = ⊥
IsReceive (executes code argument target) = ⊥
IsReceive (receives m) = Unit {0}

-- A block with no commands has 44 bytes, one with sixteen Receives 396.
pub record WorkedLengths : Type 0 where
  pub shortest : (b : BlockValue) → length b.previous ≡ digest_len → b.commands ≡ [] → length (bytes_of b) ≡ 44
  pub longest : (b : BlockValue) → length b.previous ≡ digest_len → AllByRecursion IsReceive b.commands → length b.commands ≡ max_commands → length (bytes_of b) ≡ 396

-- the numbers that a step gives, and what follows; a refusal ends it
abbrev pub and_on : StepValue → (ℤ → ℤ → List (ℤ × ℤ)) → List (ℤ × ℤ)
and_on (Refuses n) rest = []
and_on (Gives a b s) rest = (a, b) ∷ rest a b

-- a and b after each step with these values
abbrev pub numbers_from : StepRule → ℕ → ℤ → ℤ → List ℤ → List (ℤ × ℤ)
numbers_from rule code a b [] = []
numbers_from rule code a b (v ∷ vs) = and_on (rule a b code v) (λ a' b'. numbers_from rule code a' b' vs)

-- the rules by which the ring register counts a ring
abbrev pub CountsRings : (StepRule → ℕ → Type 0) → Type 0
CountsRings P = P ring_operation record_and_send × P ring_operation record_only × P ring_message recorded

-- Offsets -12, 0, 12 from 0, 0 give 1, 1; 2, 1; 3, 1. Offset -500 is counted; -501 is refused with 2.
pub record WorkedRings : Type 0 where
  pub three : CountsRings (λ rule code.
      numbers_from rule code (pos 0) (pos 0) (negsuc 11 ∷ pos 0 ∷ pos 12 ∷ []) ≡ (pos 1, pos 1) ∷ (pos 2, pos 1) ∷ (pos 3, pos 1) ∷ [])
  pub farthest : CountsRings (λ rule code. numbers_from rule code (pos 0) (pos 0) (negsuc 499 ∷ []) ≡ (pos 1, pos 1) ∷ [])
  pub too_far : CountsRings (λ rule code. (a b : ℤ) → rule a b code (negsuc 500) ≡ Refuses 2)

-- no mark of a message of chain c
abbrev pub NoMarkOf : IdentifierValue → MessageValue → Rows → Type 0
NoMarkOf c m w = (s : SignValue) → w.marked (marking c m s) ≡ false

-- the rows after chain c received a message, and after the message's outgoing row arrived at chain c
abbrev pub after_receive : IdentifierValue → MessageValue → Rows → Rows
after_receive c m w = apply_all (receipts c w.marked (m ∷ [])) w

abbrev pub after_deliver : IdentifierValue → RecordValue → MessageValue → Rows → Rows
after_deliver c r m w = apply_all (arrives w m.name c r (sent m.code m.value)) w

-- Receive and deliver of one message, in either order, leave no mark.
pub record WorkedMarks : Type 0 where
  pub received_first : (c : IdentifierValue) (r : RecordValue) (m : MessageValue) (w : Rows) → NoMarkOf c m w → NoMarkOf c m (after_deliver c r m (after_receive c m w))
  pub delivered_first : (c : IdentifierValue) (r : RecordValue) (m : MessageValue) (w : Rows) → NoMarkOf c m w → NoMarkOf c m (after_receive c m (after_deliver c r m w))

pub record WorkedValues : Type 0 where
  pub quorums : WorkedQuorums
  pub identifier : WorkedIdentifier
  pub lengths : WorkedLengths
  pub rings : WorkedRings
  pub marks : WorkedMarks
