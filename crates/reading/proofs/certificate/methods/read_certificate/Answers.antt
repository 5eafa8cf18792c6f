use Rattle.std.proofs.Common.{◌≡◌, ◌+◌, ◌-◌, ◌*◌, map, get_or, take, drop, ap, ◌∙◌, arith}
use Rattle.std.specs.List.{range_with_len}
use Rattle.format.specs.Outcomes.{Passed}
use Rattle.reading.specs.FrameLayout.{block_at, seal_count_len, member_len}
use Rattle.reading.specs.Frames.{block_len, vote_at}
use Rattle.reading.proofs.Frames.{said_some, said_none, certificate_unbegun, certificate_short, certificate_count, certificate_length, certificate_read}
use Rattle.reading.proofs.certificate.methods.read_certificate.Goals as goal

pub returns-in_default : goal.returns-in_default
returns-in_default g c = certificate_unbegun _ _ (said_none _ _ c.in_default.ensures)

pub returns-then-frame-end : goal.returns-then-frame-end
returns-then-frame-end g c =
    let s = said_some _ _ _ c.in-Some.ensures in
    certificate_short _ _ s.0 (omega (arith, s.1, c.if-frame-end.true))

pub returns-then-count-gt-MAX_SEALS : goal.returns-then-count-gt-MAX_SEALS
returns-then-count-gt-MAX_SEALS g c =
    let s = said_some _ _ _ c.in-Some.ensures in
    let f = c.args.frame.now in
    let count = ap (λ j. get_or f (block_at + j) 0) s.1 in
    certificate_count _ f s.0 (omega (arith, s.1, c.if-frame-end.false)) (omega (arith, count, c.if-count-gt-MAX_SEALS.true))

pub returns-then-frame-first : goal.returns-then-frame-first
returns-then-frame-first g c =
    let s = said_some _ _ _ c.in-Some.ensures in
    let f = c.args.frame.now in
    let count = ap (λ j. get_or f (block_at + j) 0) s.1 in
    let votes : c.from.result * (member_len + c.seal_len-width.result) ≡ get_or f (block_at + block_len f) 0 * (member_len + g.S.Seals.width)
    = (λ i. (c.from.ensures ∙ count) i * (member_len + c.seal_len-width.ensures i)) in
    certificate_length _ f s.0 (omega (arith, s.1, c.if-frame-end.false)) (omega (arith, count, c.if-count-gt-MAX_SEALS.false))
    (λ e. c.if-frame-first.true (omega (arith, e, votes, s.1, c.if-frame-end.false)))

pub returns : goal.returns
returns g c =
    let s = said_some _ _ _ c.in-Some.ensures in
    let f = c.args.frame.now in
    let n = c.in-Some.len in
    let w = c.seal_len-width.ensures in
    let count = ap (λ j. get_or f (block_at + j) 0) s.1 in
    let votes : get_or f (block_at + n) 0 * (member_len + c.seal_len-width.result) ≡ get_or f (block_at + block_len f) 0 * (member_len + g.S.Seals.width)
    = (λ i. count i * (member_len + w i)) in
    let block : block_at + n - block_at ≡ block_len f = omega (arith, s.1) in
    (λ i. Passed (record {
      block = (block_at, take (block i) (drop block_at f));
      votes = map (vote_at (w i) f (block_at + s.1 i + seal_count_len)) (range_with_len 0 (count i));
    }))
    ∙ certificate_read _ f s.0 (omega (arith, s.1, c.if-frame-end.false)) (omega (arith, count, c.if-count-gt-MAX_SEALS.false))
    (omega (arith, s.1, votes, c.if-frame-first.false, c.if-frame-end.false))
