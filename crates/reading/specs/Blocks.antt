-- The block that bytes read as, or the refusal.
use Rattle.std.specs.Prelude.{ℕ, zero, suc, ◌+◌, cond, ◌&&◌, List, [], ◌∷◌, length, take, drop, None, Option, ◌==◌, nat_le, slice_index}
use Rattle.std.specs.Option.{option_map}
use Rattle.format.specs.Layout.{height_len, digest_len, identifier_len, head_len}
use Rattle.format.specs.Numbers.{from_bytes}
use Rattle.format.specs.Rules.{head_allowed}
use Rattle.format.specs.Values.{IdentifierValue, DigestValue, CommandValue, BlockValue}
use Rattle.format.specs.Outcomes.{RefusalValue, refusal, refusal_at, Outcome, Passed, ◌>>=◌, ◌>>◌, check, given}
use Rattle.reading.specs.Fields.{identifier_in}
use Rattle.reading.specs.Commands.{command_in, command_len}

-- what stands before the commands
pub record HeadValue : Type 0 where
  pub chain : IdentifierValue
  pub height : ℕ
  pub previous : DigestValue
  pub count : ℕ

-- where the fields of the head stand
abbrev pub height_at : ℕ
height_at = identifier_len

abbrev pub previous_at : ℕ
previous_at = height_at + height_len

abbrev pub count_at : ℕ
count_at = previous_at + digest_len

abbrev pub head_height : List ℕ → ℕ
head_height bs = from_bytes (take height_len (drop height_at bs))

abbrev pub head_previous : List ℕ → DigestValue
head_previous bs = take digest_len (drop previous_at bs)

abbrev pub head_count : List ℕ → ℕ
head_count bs = slice_index bs count_at

abbrev pub head_of_chain : List ℕ → IdentifierValue → HeadValue
head_of_chain bs c = record { chain = c; height = head_height bs; previous = head_previous bs; count = head_count bs }

-- the head at the front of the bytes, where it is whole and within its rules
unfoldable pub head_in : List ℕ → Option HeadValue
head_in bs =
    cond (nat_le head_len (length bs) && head_allowed (head_height bs) (head_previous bs) (head_count bs))
    (option_map (head_of_chain bs) (identifier_in (take identifier_len bs)))
    None

-- the refusals of reading: frame, block, and the command at a place
abbrev pub frame_refusal : RefusalValue
frame_refusal = refusal 1

abbrev pub block_refusal : RefusalValue
block_refusal = refusal 2

abbrev pub command_refusal : ℕ → RefusalValue
command_refusal place = refusal_at 3 place

-- n commands, the first at that place, and nothing left over
abbrev pub commands_in : ℕ → ℕ → List ℕ → Outcome (List CommandValue)
commands_in zero place bs = check (length bs == 0) block_refusal >> Passed []
commands_in (suc n) place bs =
    given (command_in bs) (command_refusal place) >>= λ c.
    commands_in n (place + 1) (drop (command_len bs) bs) >>= λ cs.
    Passed (c ∷ cs)

abbrev pub block_of : HeadValue → List CommandValue → BlockValue
block_of h cs = record { chain = h.chain; height = h.height; previous = h.previous; commands = cs }

unfoldable pub block_in : List ℕ → Outcome BlockValue
block_in bs =
    given (head_in bs) block_refusal >>= λ h.
    commands_in h.count 0 (drop head_len bs) >>= λ cs.
    Passed (block_of h cs)

-- a block's head, with the count of its commands
abbrev pub head_of : BlockValue → HeadValue
head_of b = record { chain = b.chain; height = b.height; previous = b.previous; count = length b.commands }

-- the head of the block that bytes read as
abbrev pub block_head_in : List ℕ → Outcome HeadValue
block_head_in bs = block_in bs >>= λ b. Passed (head_of b)
