use Rattle.std.proofs.Common.{◌^◌, ◌<◌, length, sym, refl, ap, ◌∙◌, subst, rules}
use Rattle.std.proofs.lemmas.Result.{err_from_is_err_and}
use Rattle.format.specs.Outcomes.{Refused}
use Rattle.committee.specs.Meaning.{members_value}
use Rattle.faults.specs.Refusals.{call_answer, call_refusal}
use Rattle.reading.specs.Frames.{request_value, request_answer}
use Rattle.reading.specs.Parts.{read_refusal}
use Rattle.protocol.specs.Reads.{scheme}
use Rattle.protocol.specs.Calls.{Ends, propose}
use Rattle.blocks.proofs.Requests.{request_place, frame_refused, frame_read}
use Rattle.blocks.proofs.proposing.propose.Goals as goal

pub returns-in_err-request : goal.returns-in_err-request
returns-in_err-request g c =
    let C = members_value c.args.members.now in
    let A = g.A.Application.meaning in
    let S = scheme g.S.Seals.width (g.S.Seals.holds c.args.seals.now) in
    let m = g.B.Books.meaning c.args.books.now in
    let f = c.args.frame.now in
    let unread = sym (ap request_answer c.in_err-request.was) ∙ c.read_request.ensures in
    let p = err_from_is_err_and c.from_residual.result c.from_residual.ensures.1 in
    let answer = ap call_answer p.1 ∙ ap (λ e. Refused (call_refusal e)) p.2 in
    record {
      change = subst (λ a. Ends (propose C A S m f) m a m) (sym answer) (frame_refused C A S m f (sym c.if-not-is_committee.ensures) (read_refusal c.in_err-request.field-0.0) unread);
      rest = refl;
    }

pub propose_request-requires : goal.propose_request-requires
propose_request-requires g c =
    let f = c.args.frame.now in
    let long : length f < 2 ^ 64 = search rules in
    let read = sym (ap request_answer c.in_ok-request.was) ∙ c.read_request.ensures in
    request_place g.S.Seals.width f (request_value c.in_ok-request.request) read long

pub returns : goal.returns
returns g c =
    let C = members_value c.args.members.now in
    let A = g.A.Application.meaning in
    let S = scheme g.S.Seals.width (g.S.Seals.holds c.args.seals.now) in
    let mean = g.B.Books.meaning in
    let f = c.args.frame.now in
    let read = sym (ap request_answer c.in_ok-request.was) ∙ c.read_request.ensures in
    record {
      change = frame_read C A S (mean c.args.books.now) f (sym c.if-not-is_committee.ensures) (request_value c.in_ok-request.request) (call_answer c.propose_request.result)
          (mean c.propose_request.new.books) read c.propose_request.ensures.change;
      rest = c.propose_request.ensures.rest;
    }
