use Rattle.std.proofs.Common.{◌<◌, sym, ap, ◌∙◌, arith}
use Rattle.slots.specs.Kinds.{kind_byte}
use Rattle.slots.specs.Layout.{message_byte}
use Rattle.slots.specs.Reading.{entry_in, kind_of, opening_in, outgoing_part, sent_in}
use Rattle.slots.proofs.Kinded.{known, unknown}
use Rattle.slots.proofs.Readings.{row_short, no_outgoing, an_opening, a_message, other_kind}
use Rattle.slots.proofs.decoding.decode_outgoing.Goals as goal

pub returns-in_err-slot : goal.returns-in_err-slot
returns-in_err-slot c = rw c.from_residual.ensures (sym (ap outgoing_part (row_short c.args.slot.now c.in_err-slot.ensures.cases)))

pub returns-in_err-ok : goal.returns-in_err-ok
returns-in_err-ok c =
    let s = c.args.slot.now in
    let w = c.in_ok-slot.ensures.cases in
    let high : message_byte < kind_of s = rw (sym w.same) (unknown _ _ c.try_from.ensures c.in_err-ok.ensures.value) in
    rw c.from_residual-in_err-ok.ensures (sym (no_outgoing s w.long (λ e. omega (arith, e, high)) (λ e. omega (arith, e, high))))

pub returns-in-Opening : goal.returns-in-Opening
returns-in-Opening c =
    let w = c.in_ok-slot.ensures.cases in
    let k = known _ _ _ c.try_from.ensures c.in_ok-ok.ensures.value in
    c.outgoing_of.ensures ∙ ap (λ l. entry_in l c.in_ok-slot.slot.now) c.opening_load.ensures ∙ ap (λ z. entry_in (opening_in z) z) w.same
    ∙ sym (an_opening c.args.slot.now w.long (ap kind_of (sym w.same) ∙ sym k ∙ ap kind_byte c.in-Opening.is))

pub returns-in-Message : goal.returns-in-Message
returns-in-Message c =
    let w = c.in_ok-slot.ensures.cases in
    let k = known _ _ _ c.try_from.ensures c.in_ok-ok.ensures.value in
    c.outgoing_of-in-Message.ensures ∙ ap (λ l. entry_in l c.in_ok-slot.slot.now) c.sent_load.ensures ∙ ap (λ z. entry_in (sent_in z) z) w.same
    ∙ sym (a_message c.args.slot.now w.long (ap kind_of (sym w.same) ∙ sym k ∙ ap kind_byte c.in-Message.is))

pub returns-in_default : goal.returns-in_default
returns-in_default c =
    let w = c.in_ok-slot.ensures.cases in
    let k = known _ _ _ c.try_from.ensures c.in_ok-ok.ensures.value in
    let d = c.in_default in
    sym (other_kind c.args.slot.now c.in_ok-ok.field-0 w.long (k ∙ ap kind_of w.same) d.not-Opening d.not-Message)
