use Rattle.std.proofs.Common.{ℕ, ◌<◌, length, get_or, ap, ◌∙◌, rules}
use Rattle.std.proofs.ByRecursion.{All-from_get_or}
use Rattle.hash.specs.Sha256.{sha256_of}
use Rattle.protocol.specs.Reads.{block_digest}
use Rattle.reading.proofs.RoundTrips.{round_trip}
use Rattle.blocks.proofs.opening.digest_of.Goals as goal

pub returns : goal.returns
unfolding block_digest
returns c =
    let bs = c.args.block.now in
    let bytes : (i : ℕ) → i < length bs → get_or bs i 0 < 256 = λ i h. search rules in
    λ b e. c.of.ensures.value ∙ ap sha256_of (round_trip.only bs (All-from_get_or (λ x. x < 256) bs 0 bytes) b e)
