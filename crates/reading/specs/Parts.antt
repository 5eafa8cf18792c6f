-- Parts of a frame, by place and bytes, and what reading answers.
use Rattle.std.specs.Prelude.{ℕ, List, take, drop, Ok, Err, Result}
use Rattle.format.specs.Meaning.{identifier_value, digest_value}
use Rattle.format.specs.Outcomes.{RefusalValue, Outcome, Refused, Passed}
use Rattle.reading.specs.Blocks.{HeadValue, frame_refusal, block_refusal, command_refusal}
use Rattle.reading.specs.declared.part.Part.{Part}
use Rattle.reading.specs.declared.part.ReadFault.{ReadFault}
use Rattle.reading.specs.declared.part.ReadFault.TheVariants.{Frame, Block, Command}
use Rattle.reading.specs.declared.block.Head.{Head}

-- bytes with the place of the first
abbrev pub Placed : Type 0
Placed = ℕ × List ℕ

abbrev pub placed : Part → Placed
placed p = (p.at, p.bytes.now)

-- n bytes of f from place i on
abbrev pub part_of : List ℕ → ℕ → ℕ → Placed
part_of f i n = (i, take n (drop i f))

-- the numbers that a refusal of reading carries
abbrev pub read_refusal : ReadFault → RefusalValue
read_refusal Frame = frame_refusal
read_refusal Block = block_refusal
read_refusal (Command place) = command_refusal place

abbrev pub head_value : Head → HeadValue
head_value h = record { chain = identifier_value h.chain; height = h.height.0; previous = digest_value h.previous; count = h.count }

abbrev pub head_answer : Result Head ReadFault → Outcome HeadValue
head_answer (Ok h) = Passed (head_value h)
head_answer (Err e) = Refused (read_refusal e)
