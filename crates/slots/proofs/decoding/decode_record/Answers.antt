use Rattle.std.proofs.Common.{Some, sym, ap, ◌∙◌}
use Rattle.std.specs.Option.{option_map}
use Rattle.slots.specs.Reading.{chain_in, kind_of, record_fields, record_part}
use Rattle.slots.proofs.Readings.{row_short, no_record, a_record}
use Rattle.slots.proofs.decoding.decode_record.Goals as goal

pub returns-in_err-slot : goal.returns-in_err-slot
returns-in_err-slot c = rw c.from_residual.ensures (sym (ap record_part (row_short c.args.slot.now c.in_err-slot.ensures.cases)))

pub returns-then-slot : goal.returns-then-slot
returns-then-slot c =
    let w = c.in_ok-slot.ensures.cases in
    sym (no_record c.args.slot.now w.long (λ e. c.if-slot.true (ap kind_of w.same ∙ e)))

pub returns-in_err-identifier : goal.returns-in_err-identifier
returns-in_err-identifier c =
    let s = c.args.slot.now in
    let w = c.in_ok-slot.ensures.cases in
    rw c.from_residual-in_err-identifier.ensures
    (ap (option_map (λ c. (c, record_fields s))) (c.in_err-identifier.ensures ∙ ap chain_in w.same) ∙ sym (a_record s w.long (ap kind_of (sym w.same) ∙ c.if-slot.false)))

pub returns : goal.returns
returns c =
    let s = c.args.slot.now in
    let w = c.in_ok-slot.ensures.cases in
    ap Some c.record_of.ensures
    ∙ ap (option_map (λ d. (d, record_fields c.in_ok-slot.slot.now))) c.in_ok-identifier.ensures
    ∙ ap (λ z. option_map (λ d. (d, record_fields z)) (chain_in z)) w.same
    ∙ sym (a_record s w.long (ap kind_of (sym w.same) ∙ c.if-slot.false))
