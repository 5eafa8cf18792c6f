use Rattle.std.proofs.Common.{◌≡◌, length, arith, rules}
use Rattle.format.specs.Bytes.{name_bytes}
use Rattle.format.specs.Layout.{identifier_len, height_len}
use Rattle.format.proofs.Order.{name_order}
use Rattle.format.proofs.Same.{name_eq}
use Rattle.format.proofs.Writes.{wrote_then, wrote_as, wrote_whole}
use Rattle.format.proofs.message.Name.to_bytes.Goals as goal

pub returns : goal.returns
unfolding name_bytes
returns c =
    let sender : length c.to_bytes.result ≡ identifier_len = search rules in
    let height : length c.to_bytes-2.result ≡ height_len = search rules in
    record {
      bytes =
          wrote_whole
          (wrote_then (wrote_as c.write_at-at.ensures c.to_bytes.ensures.bytes)
          (wrote_then (wrote_as c.write_at-at-2.ensures c.to_bytes-2.ensures.bytes) c.write_at.ensures))
          (omega (arith, c.write_at-at.ensures.end, c.write_at-at-2.ensures.end, c.write_at.ensures.end));
      fits = record { sender = c.to_bytes.ensures.fits; height = c.to_bytes-2.ensures.fits };
      equality = name_eq;
      order = name_order;
    }
