use Rattle.std.proofs.Common.{◌≡◌, map, take, vec_items}
use Rattle.hex_text.specs.Hex.{byte_of}
use Rattle.hex_text.proofs.bytes_of.Given as goal

-- the bytes of the pairs so far
abbrev pub invariant-loop-high : goal.invariant-loop-high
invariant-loop-high l = vec_items l.bytes ≡ map byte_of (take l.high-index l.pairs)
