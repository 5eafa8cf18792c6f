use Rattle.std.proofs.Common.{ap, ◌∙◌, w64, SFits, rules}
use Rattle.std.proofs.lemmas.Int.{to_z-of_z}
use Rattle.format.specs.Numbers.{signed_bytes}
use Rattle.slots.specs.Bytes.{record_bytes}
use Rattle.slots.proofs.Filled.{adds_as, adds_then, adds_filled}
use Rattle.slots.proofs.encoding.encode_record.Goals as goal

pub returns-clause-bytes : goal.returns-clause-bytes
unfolding record_bytes
returns-clause-bytes c =
    let row = c.args.row.now in
    let fits_a : SFits w64 row.a = search rules in
    let fits_b : SFits w64 row.b = search rules in
    adds_filled c.new-slot.ensures
    (adds_then c.add.ensures
    (adds_then (adds_as c.add-2.ensures c.to_bytes.ensures.bytes)
    (adds_then (adds_as c.add-3.ensures c.to_bytes-2.ensures.bytes)
    (adds_then (adds_as c.add-4.ensures c.to_bytes-3.ensures.bytes)
    (adds_then c.add-5.ensures
    (adds_then (adds_as c.add-6.ensures (c.value_to_bytes.ensures.bytes ∙ ap signed_bytes (to_z-of_z w64 row.a fits_a)))
    (adds_then (adds_as c.add-7.ensures (c.value_to_bytes-2.ensures.bytes ∙ ap signed_bytes (to_z-of_z w64 row.b fits_b)))
    c.add_vote.ensures.wrote)))))))
    c.into_bytes.ensures
