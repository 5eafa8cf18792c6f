use Rattle.std.proofs.Common.{◌+◌, is_some, sym, refl, ap, ◌∙◌, subst, arith, length-drop, length-take}
use Rattle.format.specs.Layout.{command_byte_len}
use Rattle.reading.specs.Commands.{operands_in, front_byte, command_len}
use Rattle.reading.specs.Cursors.{Found}
use Rattle.reading.proofs.Fronts.{no_byte, with_byte, front_short, cut_operands}
use Rattle.reading.proofs.command.read_command.Goals as goal

pub returns-then-rest-lt-COMMAND_BYTE_LEN : goal.returns-then-rest-lt-COMMAND_BYTE_LEN
returns-then-rest-lt-COMMAND_BYTE_LEN c = no_byte _ c.if-rest-lt-COMMAND_BYTE_LEN.true

pub returns-then-rest-end : goal.returns-then-rest-end
returns-then-rest-end c =
    front_short c.args.rest.now c.if-rest-lt-COMMAND_BYTE_LEN.false (omega (arith, c.operands_len-end.ensures, c.if-rest-end.true))

pub returns-in_err-value : goal.returns-in_err-value
returns-in_err-value c =
    let bs = c.args.rest.now in
    let operands = ap (operands_in (front_byte bs)) (cut_operands bs _ c.operands_len-end.ensures) in
    let none = with_byte bs c.if-rest-lt-COMMAND_BYTE_LEN.false ∙ sym operands ∙ sym c.in_err-value.ensures in
    subst (Found c.args.at bs) (sym c.from_residual.ensures) none

pub returns : goal.returns
unfolding command_len
returns c =
    let bs = c.args.rest.now in
    let operands = cut_operands bs _ c.operands_len-end.ensures in
    record {
      known = ap is_some (with_byte bs c.if-rest-lt-COMMAND_BYTE_LEN.false ∙ sym (c.in_ok-value.ensures ∙ ap (operands_in (front_byte bs)) operands));
      lies = record { byte = refl; operands = ap (λ z. (c.args.at + command_byte_len, z)) operands };
      len = simp (length-take, length-drop) (omega (arith, c.operands_len-end.ensures, c.if-rest-end.false));
      fits = omega (arith, c.operands_len-end.ensures, c.if-rest-end.false);
    }
