use Rattle.std.proofs.Common.{◌≡◌, take, sym, ap, ◌∙◌}
use native.Mathlib.Nat.{sub-zero}
use Rattle.std.proofs.lemmas.List.{take_at}
use Rattle.hash.specs.Sha256.{sha256_of}
use Rattle.format.specs.Bytes.{bytes_of}
use Rattle.format.specs.Meaning.{block_value}
use Rattle.format.proofs.Composed.{composed_length}
use Rattle.member.proofs.answer.encode.Goals as goal

pub returns-clause-bytes : goal.returns-clause-bytes
returns-clause-bytes c =
    let b = block_value c.args.block.now in
    let done = c.in_ok-len.ensures in
    let n = composed_length b _ c.in_ok-len.len (sym done.answer) in
    let front : take c.in_ok-len.len c.compose.new.destination ≡ bytes_of b = ap (take c.in_ok-len.len) done.left ∙ take_at (bytes_of b) _ c.in_ok-len.len n in
    let part = ap (λ k. take k c.compose.new.destination) (sub-zero c.in_ok-len.len) in
    (sym done.answer, front, c.of-digest.ensures.value ∙ ap sha256_of (part ∙ front))
