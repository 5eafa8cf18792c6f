-- From the values of a block to its bytes and its digest.
use Rattle.std.specs.Prelude.{◌≡◌, ℕ, List, take, Ok, Err, Result}
use Rattle.hash.specs.Sha256.{sha256_of}
use Rattle.format.specs.Values.{BlockValue}
use Rattle.format.specs.Bytes.{bytes_of}
use Rattle.format.specs.Meaning.{digest_value}
use Rattle.format.specs.Outcomes.{Refused, Passed}
use Rattle.format.specs.Composing.{composed, compose_refusal}
use Rattle.format.specs.declared.composing.ComposeFault.{ComposeFault}
use Rattle.member.specs.declared.answer.Encoded.{Encoded}

-- the buffer then begins with the block's bytes, and the digest is SHA-256 of them; or the block is refused as composing says
abbrev pub Encodes : BlockValue → ℕ → Result Encoded ComposeFault → List ℕ → Type 0
Encodes b room (Ok e) buffer =
    (composed b room ≡ Passed e.len) × (take e.len buffer ≡ bytes_of b) × (digest_value e.digest ≡ sha256_of (bytes_of b))
Encodes b room (Err f) buffer = composed b room ≡ Refused (compose_refusal f)
