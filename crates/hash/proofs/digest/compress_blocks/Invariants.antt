use Rattle.std.proofs.Common.{◌≡◌, take, fold}
use Rattle.hash.specs.Sha256.{compressed}
use Rattle.hash.proofs.digest.compress_blocks.Given as goal

abbrev pub invariant-loop-block : goal.invariant-loop-block
invariant-loop-block l = l.hash ≡ fold compressed l.initial.hash (take l.block-index l.blocks)
