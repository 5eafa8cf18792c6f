-- What a call is given besides books and an application: seals, and a frame with its block.
use Rattle.std.specs.Prelude.{ℕ, List}
use Rattle.hash.specs.Sha256.{sha256_of}
use Rattle.format.specs.Values.{DigestValue, BlockValue}
use Rattle.format.specs.Bytes.{bytes_of}
use Rattle.format.specs.Outcomes.{Outcome, Passed, ◌>>=◌}
use Rattle.seals.specs.Meaning.{Holds}
use Rattle.reading.specs.Blocks.{block_in}
use Rattle.reading.specs.Frames.{VoteValue, request_in, certificate_in}

-- a scheme of seals: the width of a seal, and the triples of a key, a digest and a seal that it holds
pub record SealsValue : Type 0 where
  pub width : ℕ
  pub holds : Holds

abbrev pub scheme : ℕ → Holds → SealsValue
scheme width holds = record { width = width; holds = holds }

-- SHA-256 over the block's bytes alone
unfoldable pub block_digest : BlockValue → DigestValue
block_digest b = sha256_of (bytes_of b)

-- a request: a block and its owner's seal
pub record RequestRead : Type 0 where
  pub block : BlockValue
  pub seal : List ℕ

-- a certificate: a block and the members' votes
pub record CertificateRead : Type 0 where
  pub block : BlockValue
  pub votes : List VoteValue

-- The frame is read first, then the head of its block, then the commands: refusals 1, 2, 3.
-- Bytes left over behind the commands are 2.
unfoldable pub read_request : ℕ → List ℕ → Outcome RequestRead
read_request width frame =
    request_in width frame >>= λ q.
    block_in q.block.1 >>= λ b.
    Passed (record { block = b; seal = q.seal.1 })

unfoldable pub read_certificate : ℕ → List ℕ → Outcome CertificateRead
read_certificate width frame =
    certificate_in width frame >>= λ q.
    block_in q.block.1 >>= λ b.
    Passed (record { block = b; votes = q.votes })
