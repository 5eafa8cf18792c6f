use Rattle.std.proofs.Common.{◌≡◌, length, ap, ◌∙◌, arith, w64, SFits, rules}
use Rattle.std.proofs.lemmas.Int.{to_z-of_z}
use Rattle.format.specs.Bytes.{message_bytes}
use Rattle.format.specs.Layout.{name_len, value_len}
use Rattle.format.specs.Numbers.{signed_bytes}
use Rattle.format.proofs.Same.{message_eq}
use Rattle.format.proofs.Writes.{wrote_then, wrote_as, wrote_whole}
use Rattle.format.proofs.message.Message.to_bytes.Goals as goal

pub returns : goal.returns
unfolding message_bytes
returns c =
    let v = c.args.self.now.value in
    let fits : SFits w64 v = search rules in
    let name : length c.to_bytes.result ≡ name_len = search rules in
    let value : length c.value_to_bytes.result ≡ value_len = search rules in
    record {
      bytes =
          wrote_whole
          (wrote_then (wrote_as c.write_at-at.ensures c.to_bytes.ensures.bytes)
          (wrote_then c.write_at-at-2.ensures (wrote_as c.write_at.ensures (c.value_to_bytes.ensures.bytes ∙ ap signed_bytes (to_z-of_z w64 v fits)))))
          (omega (arith, c.write_at-at.ensures.end, c.write_at-at-2.ensures.end, c.write_at.ensures.end));
      fits = record { name = c.to_bytes.ensures.fits; value = fits };
      equality = message_eq;
    }
