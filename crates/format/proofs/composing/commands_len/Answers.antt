use Rattle.std.proofs.Common.{◌≡◌, ◌+◌, ◌&&◌, [], length, drop, Some, sym, ap, ◌∙◌, arith}
use Rattle.std.proofs.lemmas.List.{drop_all}
use Rattle.std.proofs.lemmas.Bool.{cond-true, cond-false, and_left}
use Rattle.std.specs.List.{flat_map}
use Rattle.format.specs.Composing.{encoded}
use Rattle.format.specs.Meaning.{command_value}
use Rattle.format.proofs.Commands.{allowed, allowed_drop}
use Rattle.format.proofs.Lengths.{length_command, longest_command}
use Rattle.format.proofs.Writes.{length_joined_drop}
use Rattle.format.proofs.composing.commands_len.Goals as goal

pub returns-then-not-is_allowed : goal.returns-then-not-is_allowed
returns-then-not-is_allowed c =
    let step = allowed_drop c.args.commands.now c.loop-command.command-index c.command-item.result c.loop-command-test.true c.command-item.is in
    sym (cond-false _ _ _ (sym c.loop-command.invariant.1 ∙ step ∙ and_left _ _ (sym c.is_allowed.ensures ∙ c.if-not-is_allowed.true)))

pub loop-command-preserved : goal.loop-command-preserved
loop-command-preserved c =
    let cs = c.args.commands.now in
    let i = c.loop-command.command-index in
    let x = c.command-item.result in
    let step = allowed_drop cs i x c.loop-command-test.true c.command-item.is in
    let n = length_joined_drop encoded cs i x c.loop-command-test.true c.command-item.is in
    let one = length_command (command_value x) in
    let good = sym c.is_allowed.ensures ∙ c.if-not-is_allowed.false in (
      omega (arith, longest_command (command_value x), c.operands_len.ensures),
      sym (step ∙ ap (λ z. z && allowed (drop (i + 1) cs)) good) ∙ c.loop-command.invariant.1,
      omega (arith, n, c.operands_len.ensures, c.loop-command.invariant.2),
    )

pub returns : goal.returns
returns c =
    let cs = c.args.commands.now in
    let e : drop c.loop-command.command-index cs ≡ [] = drop_all c.loop-command.command-index cs c.loop-command-test.false in
    let t = sym c.loop-command.invariant.1 ∙ ap allowed e in
    let n : c.loop-command.len ≡ length (flat_map encoded cs) = omega (arith, c.loop-command.invariant.2, ap (λ z. length (flat_map encoded z)) e) in
    ap Some n ∙ sym (cond-true _ _ _ t)
