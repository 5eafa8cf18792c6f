use Rattle.std.proofs.Common.{ap, ◌∙◌, w64, SFits, rules}
use Rattle.std.proofs.lemmas.Int.{to_z-of_z}
use Rattle.format.specs.Meaning.{identifier_value}
use Rattle.format.specs.Numbers.{from_bytes, signed_number}
use Rattle.slots.specs.Reading.{record_fields}
use Rattle.slots.proofs.decoding.record_of.Goals as goal

pub returns : goal.returns
unfolding record_fields
returns c =
    let fits_a : SFits w64 c.value_from_bytes.result = search rules in
    let fits_b : SFits w64 c.value_from_bytes-2.result = search rules in
    let a = to_z-of_z w64 c.value_from_bytes.result fits_a ∙ c.value_from_bytes.ensures ∙ ap signed_number c.field-4.ensures in
    let b = to_z-of_z w64 c.value_from_bytes-2.result fits_b ∙ c.value_from_bytes-2.ensures ∙ ap signed_number c.field-5.ensures in
    let owner = c.from_bytes.ensures ∙ ap from_bytes c.field.ensures in
    let next = c.from_bytes-2.ensures ∙ ap from_bytes c.field-2.ensures in
    λ i. (
      identifier_value c.args.identifier,
      record { chain = record { owner = owner i; next = next i; digest = c.field-3.ensures i; a = a i; b = b i }; vote = c.vote_in.ensures i },
    )
