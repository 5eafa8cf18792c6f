use Rattle.std.proofs.Common.{◌≡◌, ◌+◌, ◌-◌, length, take, drop, ◌∙◌, arith}
use Rattle.format.specs.Outcomes.{Passed}
use Rattle.reading.specs.FrameLayout.{block_at}
use Rattle.reading.specs.Frames.{block_len}
use Rattle.reading.proofs.Frames.{said_some, said_none, request_unbegun, request_length, request_read}
use Rattle.reading.proofs.frame.read_request.Goals as goal

pub returns-in_default : goal.returns-in_default
returns-in_default g c = request_unbegun _ _ (said_none _ _ c.in_default.ensures)

pub returns-then-frame-end : goal.returns-then-frame-end
returns-then-frame-end g c =
    let s = said_some _ _ _ c.in-Some.ensures in
    request_length _ _ s.0 (λ e. omega (arith, e, s.1, c.if-frame-end.true))

pub returns-then-frame-end-2 : goal.returns-then-frame-end-2
returns-then-frame-end-2 g c =
    let s = said_some _ _ _ c.in-Some.ensures in
    request_length _ _ s.0 (λ e. c.if-frame-end-2.true (omega (arith, e, s.1, c.seal_len.ensures)))

pub returns : goal.returns
returns g c =
    let s = said_some _ _ _ c.in-Some.ensures in
    let f = c.args.frame.now in
    let n = c.in-Some.len in
    let block : block_at + n - block_at ≡ block_len f = omega (arith, s.1) in
    let seal : length f - (block_at + n) ≡ g.S.Seals.width = c.if-frame-end-2.false ∙ c.seal_len.ensures in
    (λ i. Passed (record { block = (block_at, take (block i) (drop block_at f)); seal = (block_at + s.1 i, take (seal i) (drop (block_at + s.1 i) f)) }))
    ∙ request_read _ f s.0 (omega (arith, s.1, seal, c.if-frame-end.false))
