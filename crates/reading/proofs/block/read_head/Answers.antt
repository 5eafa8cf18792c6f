use Rattle.std.proofs.Common.{◌≡◌, ◌+◌, take, sym, ap, ◌∙◌}
use Rattle.std.proofs.lemmas.List.{take_rest}
use Rattle.std.specs.Option.{option_map}
use Rattle.format.specs.Layout.{digest_len, height_len, identifier_len}
use Rattle.format.specs.Numbers.{from_bytes}
use Rattle.format.specs.Rules.{head_allowed}
use Rattle.reading.specs.Blocks.{head_height, head_previous, head_count, head_of_chain}
use Rattle.reading.specs.Parts.{head_value}
use Rattle.reading.proofs.Heads.{head_short, head_refused, head_read, head_same}
use Rattle.reading.proofs.block.read_head.Goals as goal
use Rattle.reading.proofs.block.read_head.Goals.{After-head_is_allowed}

-- the digest and the height read are the block's
digest_is : (c : After-head_is_allowed) → c.in_ok-first_chunk-2.field-0.now ≡ head_previous c.args.bytes.now
digest_is c = c.in_ok-first_chunk-2.ensures.cases.same ∙ ap (take digest_len) (take_rest c.args.bytes.now (identifier_len + height_len))

height_is : (c : After-head_is_allowed) → c.from_bytes-height.result.0 ≡ head_height c.args.bytes.now
height_is c = c.from_bytes-height.ensures ∙ ap from_bytes (c.in_ok-first_chunk.ensures.cases.same ∙ ap (take height_len) (take_rest c.args.bytes.now identifier_len))

told : (c : After-head_is_allowed) → head_allowed (head_height c.args.bytes.now) (head_previous c.args.bytes.now) (head_count c.args.bytes.now) ≡ c.head_is_allowed.result
told c = sym (c.head_is_allowed.ensures.value ∙ (λ i. head_allowed (height_is c i) (digest_is c i) (c.from.ensures i)))

pub returns-then-bytes-lt-HEAD_LEN : goal.returns-then-bytes-lt-HEAD_LEN
returns-then-bytes-lt-HEAD_LEN c = head_short _ c.if-bytes-lt-HEAD_LEN.true

pub returns-then-not-head_is_allowed : goal.returns-then-not-head_is_allowed
returns-then-not-head_is_allowed c =
    head_refused _ (told (goal.at.returns-then-not-head_is_allowed c).After-head_is_allowed ∙ c.if-not-head_is_allowed.true)

pub returns-in_err-chain : goal.returns-in_err-chain
returns-in_err-chain c =
    let r = head_read _ c.if-bytes-lt-HEAD_LEN.false (told (goal.at.returns-in_err-chain c).After-head_is_allowed ∙ c.if-not-head_is_allowed.false) in
    ap (option_map head_value) c.from_residual-in_err-chain.ensures ∙ ap (option_map (head_of_chain c.args.bytes.now)) c.in_err-chain.ensures ∙ r

pub returns : goal.returns
returns c =
    let bs = c.args.bytes.now in
    let r = head_read bs c.if-bytes-lt-HEAD_LEN.false (told (goal.at.returns c).After-head_is_allowed ∙ c.if-not-head_is_allowed.false) in
    let q = digest_is (goal.at.returns c).After-head_is_allowed in
    head_same bs _ _ _ (height_is (goal.at.returns c).After-head_is_allowed) q ∙ (ap (option_map (head_of_chain bs)) c.in_ok-chain.ensures ∙ r)
