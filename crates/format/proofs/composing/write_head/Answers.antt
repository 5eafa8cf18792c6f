use Rattle.std.proofs.Common.{[], ◌∷◌, sym, ap}
use lib.ListN.{length-map}
use Rattle.format.specs.Bytes.{head_bytes}
use Rattle.format.specs.Meaning.{command_value}
use Rattle.format.proofs.Writes.{wrote_then, wrote_as}
use Rattle.format.proofs.composing.write_head.Goals as goal

pub returns : goal.returns
unfolding head_bytes
returns c =
    wrote_then (wrote_as c.write_at-at.ensures c.to_bytes.ensures.bytes)
    (wrote_then (wrote_as c.write_at-at-2.ensures c.to_bytes-2.ensures.bytes)
    (wrote_then c.write_at-at-3.ensures (wrote_as c.write_at.ensures (ap (λ n. n ∷ []) (sym (length-map c.args.block.now.commands.now command_value))))))
