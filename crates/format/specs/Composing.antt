-- What composing a block answers, and what it leaves in the destination.
use Rattle.std.specs.Prelude.{◌≡◌, ℕ, ◌≤◌, true, List, length, Ok, Err, Result, nat_le}
use Rattle.format.specs.Layout.{digest_len, head_len, max_block_len}
use Rattle.format.specs.Values.{BlockValue}
use Rattle.format.specs.Bytes.{command_bytes, bytes_of}
use Rattle.format.specs.Meaning.{command_value}
use Rattle.format.specs.Rules.{block_allowed}
use Rattle.format.specs.Writing.{written}
use Rattle.format.specs.Outcomes.{RefusalValue, refusal, Outcome, Refused, Passed, ◌>>◌, check}
use Rattle.format.specs.declared.block.Command.{Command}
use Rattle.format.specs.declared.composing.ComposeFault.{ComposeFault}
use Rattle.format.specs.declared.composing.ComposeFault.TheVariants.{TooShort, OutsideRules}

-- the bytes of a command of the code
abbrev pub encoded : Command → List ℕ
encoded c = command_bytes (command_value c)

-- the numbers that a refusal of compose carries
abbrev pub compose_refusal : ComposeFault → RefusalValue
compose_refusal TooShort = refusal 24
compose_refusal OutsideRules = refusal 25

abbrev pub compose_answer : Result ℕ ComposeFault → Outcome ℕ
compose_answer (Ok n) = Passed n
compose_answer (Err f) = Refused (compose_refusal f)

-- The length of the block. The values are looked at first, then the room in the destination.
abbrev pub composed : BlockValue → ℕ → Outcome ℕ
composed b room =
    check (block_allowed b) (compose_refusal OutsideRules) >>
    (check (nat_le (length (bytes_of b)) room) (compose_refusal TooShort) >>
    Passed (length (bytes_of b)))

-- the destination then begins with the block; bytes after it stay, and where the call is refused all stay
abbrev pub left_by_compose : BlockValue → List ℕ → Outcome ℕ → List ℕ
left_by_compose b d (Passed n) = written d 0 (bytes_of b)
left_by_compose b d (Refused r) = d

-- Whatever its commands, a block that keeps the rules has at least its head and at most sixteen of the longest command.
abbrev pub BlockLengths : Type 0
BlockLengths =
    (b : BlockValue) → length b.previous ≡ digest_len → block_allowed b ≡ true
    → (head_len ≤ length (bytes_of b)) × (length (bytes_of b) ≤ max_block_len)
