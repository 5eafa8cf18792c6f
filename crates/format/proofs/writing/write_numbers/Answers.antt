use Rattle.std.proofs.Common.{◌^◌, ◌<◌, length, get_or, ap, subst, arith, rules}
use Rattle.std.specs.List.{AllByRecursion}
use Rattle.std.proofs.ByRecursion.{All-more}
use Rattle.std.proofs.lemmas.List.{get_or_default, take_all}
use Rattle.format.specs.Layout.{number_len}
use Rattle.format.specs.Numbers.{to_bytes}
use Rattle.format.proofs.Writes.{wrote_none, wrote_as, item_fits, wrote_item, wrote_all}
use Rattle.format.proofs.writing.write_numbers.Goals as goal

pub loop-number-init : goal.loop-number-init
loop-number-init c = (wrote_none _ _ (omega (arith, c.requires)), tt)

pub write_at-at-requires : goal.write_at-at-requires
write_at-at-requires c =
    let ns = c.args.numbers.now in
    let i = c.loop-number.number-index in
    let fits = item_fits (to_bytes number_len) ns i (get_or ns i 0) c.loop-number-test.true (get_or_default ns i 0 _ c.loop-number-test.true) in
    omega (arith, fits, ap length c.to_be_bytes.ensures, c.loop-number.invariant.0.end, c.loop-number.auto.buffer, c.requires)

pub loop-number-preserved : goal.loop-number-preserved
loop-number-preserved c =
    let ns = c.args.numbers.now in
    let i = c.loop-number.number-index in
    let low : get_or ns i 0 < 256 ^ number_len = search rules in (
      wrote_item (to_bytes number_len) ns i (get_or ns i 0) c.loop-number-test.true (get_or_default ns i 0 _ c.loop-number-test.true)
          c.loop-number.invariant.0 (wrote_as c.write_at-at.ensures c.to_be_bytes.ensures),
      All-more (λ n. n < 256 ^ number_len) ns i 0 c.loop-number-test.true c.loop-number.invariant.1 low,
    )

pub returns : goal.returns
returns c =
    let ns = c.args.numbers.now in
    let i = c.loop-number.number-index in
    record {
      wrote = wrote_all (to_bytes number_len) ns i c.loop-number-test.false c.loop-number.invariant.0;
      fits = subst (AllByRecursion (λ n. n < 256 ^ number_len)) (take_all i ns c.loop-number-test.false) c.loop-number.invariant.1;
    }
