use Rattle.std.proofs.Common.{arith, rules}
use lib.Bits.{bit_xor}
use Rattle.std.proofs.lemmas.List.{places}
use Rattle.hash.proofs.Lists.{map_by_places}
use Rattle.hash.proofs.keyed.xored.Goals as goal

pub loop-byte-preserved : goal.loop-byte-preserved
loop-byte-preserved c = search (rules, places)

pub returns : goal.returns
returns c =
    map_by_places (λ b. bit_xor b c.args.pad) 0 c.args.block.now c.loop-byte.byte-items (omega (arith, c.told-block, c.loop-byte.invariant.0))
    (λ k h. c.loop-byte.invariant.1 k (omega (arith, c.told-block)))
