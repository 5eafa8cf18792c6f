use Rattle.std.proofs.Common.{◌≡◌, ◌*◌, ◌^◌, ◌<◌, ◌∷◌, length, sym, ap, ◌∙◌, arith, rules}
use Rattle.std.specs.List.{flat_map}
use Rattle.std.proofs.ByRecursion.{All-take}
use Rattle.format.specs.Bytes.{identifier_bytes}
use Rattle.format.specs.Layout.{number_len, max_depth}
use Rattle.format.specs.Numbers.{to_bytes}
use Rattle.format.specs.declared.identifier.Identifier.{Identifier}
use Rattle.format.proofs.Identifiers.{depth_some, depth_low, depth_is, padded_is}
use Rattle.format.proofs.Numbers.{length_of_bytes, length_joined}
use Rattle.format.proofs.Writes.{wrote_then, wrote_whole}
use Rattle.format.proofs.identifier.Identifier.to_bytes.Goals as goal

-- the numbers fill what is left behind the depth
filled : (x : Identifier) → length x.numbers ≡ max_depth → length (flat_map (to_bytes number_len) x.numbers) ≡ max_depth * number_len
filled x long = length_joined (to_bytes number_len) number_len (length_of_bytes number_len) x.numbers ∙ ap (λ k. k * number_len) long

pub write_numbers-requires : goal.write_numbers-requires
write_numbers-requires c =
    let long : length c.args.self.now.numbers ≡ max_depth = search rules in
    omega (arith, filled c.args.self.now long, c.write_at-at.ensures.end, c.write_at-at.auto.buffer)

pub returns : goal.returns
unfolding identifier_bytes
returns c =
    let x = c.args.self.now in
    let long : length x.numbers ≡ max_depth = search rules in
    let some = depth_some x.depth x.numbers long x.ok in
    let few = depth_low x.depth x.numbers long x.ok in
    let used = depth_is x.depth x.numbers long x.ok in
    record {
      bytes =
          wrote_whole (wrote_then c.write_at-at.ensures c.write_numbers.ensures.wrote)
          (omega (arith, filled x long, c.write_at-at.ensures.end, c.write_numbers.ensures.wrote.end))
          ∙ (λ i. sym used i ∷ flat_map (to_bytes number_len) (sym (padded_is x.depth x.numbers long x.ok) i));
      fits = record { some = omega arith; few = omega arith; fit = All-take (λ n. n < 256 ^ number_len) x.depth x.numbers c.write_numbers.ensures.fits };
    }
