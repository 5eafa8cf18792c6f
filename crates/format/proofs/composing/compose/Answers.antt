use Rattle.std.proofs.Common.{◌+◌, ◌≤◌, length, refl, ap, ◌∙◌, zero-add, arith, rules}
use Rattle.format.specs.Layout.{head_len, max_block_len}
use Rattle.format.specs.Meaning.{block_value}
use Rattle.format.specs.Outcomes.{Passed}
use Rattle.format.proofs.Composed.{some_len, no_len, few, short_block, outside_head, outside_commands, too_short, long_enough, wrote_block}
use Rattle.format.proofs.Lengths.{length_head, block_lengths}
use Rattle.format.proofs.composing.compose.Goals as goal

pub returns-then-not-head_is_allowed : goal.returns-then-not-head_is_allowed
returns-then-not-head_is_allowed c =
    record { answer = outside_head c.args.block.now (length c.args.destination.now) c.if-not-head_is_allowed.ensures.value; lengths = block_lengths; left = refl }

pub commands_len-requires : goal.commands_len-requires
commands_len-requires c = few c.args.block.now c.if-not-head_is_allowed.ensures.value

pub returns-in_default : goal.returns-in_default
returns-in_default c =
    record { answer = outside_commands c.args.block.now (length c.args.destination.now) (no_len _ _ c.in_default.ensures); lengths = block_lengths; left = refl }

pub overflow_add-commands : goal.overflow_add-commands
overflow_add-commands c =
    let s = some_len _ _ _ c.in-Some.ensures in
    let n : head_len + c.in-Some.commands ≤ max_block_len = omega (arith, s.1, short_block c.args.block.now c.if-not-head_is_allowed.ensures.value) in
    search rules

pub returns-then-destination-commands : goal.returns-then-destination-commands
returns-then-destination-commands c =
    let s = some_len _ _ _ c.in-Some.ensures in
    let long = c.head_is_allowed.ensures.len in
    record {
      answer = too_short c.args.block.now (length c.args.destination.now) long c.if-not-head_is_allowed.ensures.value s.0 (omega (arith, s.1, c.if-destination-commands.true));
      lengths = block_lengths;
      left = refl;
    }

pub write_head-at-requires : goal.write_head-at-requires
write_head-at-requires c = (omega (arith, c.if-destination-commands.false), few c.args.block.now c.if-not-head_is_allowed.ensures.value)

pub write_commands-requires : goal.write_commands-requires
write_commands-requires c =
    let s = some_len _ _ _ c.in-Some.ensures in
    let long = c.head_is_allowed.ensures.len in
    let h = length_head (block_value c.args.block.now) long in
    omega (arith, s.1, h, c.write_head-at.ensures.end, c.write_head-at.auto.buffer, c.if-destination-commands.false)

pub returns : goal.returns
returns c =
    let b = c.args.block.now in
    let s = some_len _ _ _ c.in-Some.ensures in
    let long = c.head_is_allowed.ensures.len in
    let w = wrote_block b c.write_head-at.ensures c.write_commands.ensures in
    record {
      answer = ap Passed (w.end ∙ zero-add _) ∙ long_enough b (length c.args.destination.now) long c.if-not-head_is_allowed.ensures.value s.0 (omega (arith, s.1, c.if-destination-commands.false));
      lengths = block_lengths;
      left = w.held;
    }
