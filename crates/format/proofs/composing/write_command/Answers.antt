use Rattle.std.proofs.Common.{◌≡◌, ℕ, ◌+◌, ◌≤◌, length, sym, ap, ◌∙◌, subst, arith, w64, SFits, rules}
use Rattle.std.proofs.lemmas.Int.{to_z-of_z}
use Rattle.format.specs.Composing.{encoded}
use Rattle.format.specs.Layout.{command_byte_len, identifier_len, key_len}
use Rattle.format.specs.Bytes.{operands_len}
use Rattle.format.specs.Meaning.{command_value}
use Rattle.format.specs.Numbers.{signed_bytes}
use Rattle.format.specs.declared.block.Command.{Command}
use Rattle.format.proofs.Lengths.{length_command}
use Rattle.format.proofs.Writes.{wrote_then, wrote_as}
use Rattle.format.proofs.composing.write_command.Goals as goal

-- the room that is asked for, once the command is known
room : (x y : Command) (at n : ℕ) → at + length (encoded x) ≤ n → x ≡ y → at + (command_byte_len + operands_len (command_value y)) ≤ n
room x y at n h e = subst (λ z. at + (command_byte_len + operands_len (command_value z)) ≤ n) e (omega (arith, length_command (command_value x)))

pub write_at-at-requires-in-Open : goal.write_at-at-requires-in-Open
write_at-at-requires-in-Open c =
    let r = room _ _ c.args.at (length c.args.buffer.now) c.requires c.in-Open.is in
    let child : length c.to_bytes.result ≡ identifier_len = search rules in
    omega (arith, r, c.write_at-at.ensures.end, c.write_at-at.auto.buffer)

pub write_at-requires : goal.write_at-requires
write_at-requires c =
    let r = room _ _ c.args.at (length c.args.buffer.now) c.requires c.in-Open.is in
    let child : length c.to_bytes.result ≡ identifier_len = search rules in
    let key : length c.to_bytes-in-Open.result ≡ key_len = search rules in
    omega (arith, r, c.write_at-at.ensures.end, c.write_at-at.auto.buffer, c.write_at-at-in-Open.ensures.end, c.write_at-at-in-Open.auto.buffer)

pub returns-in-Open : goal.returns-in-Open
returns-in-Open c =
    wrote_as
    (wrote_then c.write_at-at.ensures
    (wrote_then (wrote_as c.write_at-at-in-Open.ensures c.to_bytes.ensures.bytes) (wrote_as c.write_at.ensures c.to_bytes-in-Open.ensures.bytes)))
    (ap encoded (sym c.in-Open.is))

pub returns-in-Change : goal.returns-in-Change
returns-in-Change c =
    wrote_as (wrote_then c.write_at-at-in-Change.ensures (wrote_as c.write_at-in-Change.ensures c.to_bytes-in-Change.ensures.bytes))
    (ap encoded (sym c.in-Change.is))

pub returns-in-Execute : goal.returns-in-Execute
returns-in-Execute c =
    let fits : SFits w64 c.in-Execute.argument = search rules in
    wrote_as
    (wrote_then c.write_at-at-in-Execute.ensures
    (wrote_then (wrote_as c.write_at-at-in-Execute-2.ensures (c.value_to_bytes.ensures.bytes ∙ ap signed_bytes (to_z-of_z w64 c.in-Execute.argument fits)))
    (wrote_as c.write_at-in-Execute.ensures c.to_bytes-in-Execute.ensures.bytes)))
    (ap encoded (sym c.in-Execute.is))

pub returns-in-Receive : goal.returns-in-Receive
returns-in-Receive c =
    wrote_as (wrote_then c.write_at-at-in-Receive.ensures (wrote_as c.write_at-in-Receive.ensures c.to_bytes-in-Receive.ensures.bytes))
    (ap encoded (sym c.in-Receive.is))
