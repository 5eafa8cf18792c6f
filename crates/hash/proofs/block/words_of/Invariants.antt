use Rattle.std.proofs.Common.{◌≡◌, ℕ, ◌<◌, [], length, get_or}
use Rattle.hash.specs.Sizes.{block_words}
use Rattle.hash.specs.Words.{from_bytes}
use Rattle.hash.proofs.block.words_of.Given as goal

-- the words so far
abbrev pub invariant-loop-t : goal.invariant-loop-t
invariant-loop-t l = (length l.w ≡ block_words) × ((k : ℕ) → k < l.t → get_or l.w k 0 ≡ from_bytes (get_or l.words k []))
