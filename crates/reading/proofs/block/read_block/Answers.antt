use Rattle.std.proofs.Common.{◌^◌, ◌<◌, length, Ok, Err, sym, ap, ◌∙◌, subst, rules}
use Rattle.std.proofs.lemmas.Result.{err_from_is_err_and}
use Rattle.reading.specs.Cursors.{cursor_value, Moved}
use Rattle.reading.specs.Parts.{head_answer}
use Rattle.reading.proofs.Heads.{head_long}
use Rattle.reading.proofs.RoundTrips.{round_trip}
use Rattle.reading.proofs.Runs.{rest_of, sofar_none, sofar_more, sofar_all, sofar_refused, block_refused, block_headless, block_whole, begun_rest}
use Rattle.reading.proofs.block.read_block.Goals as goal

pub returns-in_default : goal.returns-in_default
returns-in_default c = record { answer = block_headless _ c.in_default.ensures; trip = round_trip }

pub loop-init : goal.loop-init
loop-init c =
    let n : length c.args.block.bytes.now < 2 ^ 64 = search rules in
    sofar_none _ (cursor_value c.new-cursor.result) (begun_rest _ _ (head_long _ _ (sym c.in-Some.ensures)) n ∙ ap rest_of (sym c.new-cursor.ensures))

pub returns-in_err-next : goal.returns-in_err-next
returns-in_err-next c =
    let p = err_from_is_err_and c.from_residual.result c.from_residual.ensures.1 in
    record {
      answer = ap head_answer (p.1 ∙ ap Err p.2) ∙ block_refused _ _ _ (sym c.in-Some.ensures) (sofar_refused _ (cursor_value c.loop.cursor) (cursor_value c.next.new.self) _ c.loop.invariant c.in_err-next.ensures);
      trip = round_trip;
    }

pub loop-preserved : goal.loop-preserved
loop-preserved c =
    let v = cursor_value c.loop.cursor in
    let w = cursor_value c.next.new.self in
    sofar_more _ v w c.in-Some-2.field-0 c.loop.invariant
    (subst (λ x. Moved v w (Ok x)) c.in-Some-2.is c.in_ok-next.ensures)

pub returns : goal.returns
returns c =
    let v = cursor_value c.loop.cursor in
    let ended = subst (λ x. Moved v (cursor_value c.next.new.self) (Ok x)) c.in_default-2.is c.in_ok-next.ensures in
    let all = sofar_all _ v c.loop.invariant ended.0 ended.1 in
    record { answer = block_whole _ _ all.0 (sym c.in-Some.ensures) all.1; trip = round_trip }
