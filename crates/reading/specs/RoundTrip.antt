-- The two ways between blocks and bytes.
use Rattle.std.specs.Prelude.{◌≡◌, ℕ, ◌^◌, ◌<◌, true, List, length, FitsSigned}
use Rattle.std.specs.Int.{w64}
use Rattle.std.specs.List.{AllByRecursion}
pub use Rattle.format.specs.Identifiers.{Identifies}
use Rattle.format.specs.Layout.{digest_len, key_len}
use Rattle.format.specs.Values.{CommandValue, opens, changes, closes, executes, receives, BlockValue}
use Rattle.format.specs.Bytes.{bytes_of}
use Rattle.format.specs.Rules.{block_allowed}
use Rattle.format.specs.Outcomes.{Passed}
use Rattle.reading.specs.Blocks.{block_in}

abbrev pub CommandFits : CommandValue → Type 0
CommandFits (opens child key) = Identifies child × (key < 256 ^ key_len)
CommandFits (changes key) = key < 256 ^ key_len
CommandFits closes = Unit {0}
CommandFits (executes code argument target) = (code < 256) × FitsSigned w64 argument × Identifies target
CommandFits (receives m) = Identifies m.name.sender × (m.code < 256) × FitsSigned w64 m.value

-- a block whose values have the widths of their fields and keep the rules
pub record Within (b : BlockValue) : Type 0 where
  pub chain : Identifies b.chain
  pub digest : length b.previous ≡ digest_len
  pub bytes : AllByRecursion (λ x. x < 256) b.previous
  pub commands : AllByRecursion CommandFits b.commands
  pub allowed : block_allowed b ≡ true

-- The bytes of a block within the rules read as that block, no other bytes do, and what is read is within the rules.
pub record RoundTrip : Type 0 where
  pub back : (b : BlockValue) → Within b → block_in (bytes_of b) ≡ Passed b
  pub only : (bs : List ℕ) → AllByRecursion (λ x. x < 256) bs → (b : BlockValue) → block_in bs ≡ Passed b → bs ≡ bytes_of b
  pub within : (bs : List ℕ) → AllByRecursion (λ x. x < 256) bs → (b : BlockValue) → block_in bs ≡ Passed b → Within b
