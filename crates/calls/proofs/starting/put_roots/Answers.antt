use Rattle.std.proofs.Common.{◌∙◌}
use Rattle.books.specs.Meaning.{record_key, record_value}
use Rattle.calls.proofs.Roots.{root_put, root_and_rest, all_put}
use Rattle.calls.proofs.starting.put_roots.Goals as goal

pub loop-place-preserved : goal.loop-place-preserved
loop-place-preserved g c =
    let A = g.A.Application.meaning in
    let mean = g.B.Books.meaning in
    let m = mean c.loop-place.books in
    let m' = mean c.put_record.new.self in
    let laws = g.B.Books.laws c.loop-place.books in
    let ks = c.args.roots.now in
    let i = c.loop-place.place in
    let row = c.new_record-row in
    let did = root_put A m m' laws ks i c.loop-place-test.true (record_key row.result) (record_value row.result) c.put_record.result
    (row.ensures.key ∙ c.root.ensures) row.ensures.value c.put_record.ensures.change c.loop-place.invariant.1 in (
      (λ q k. c.loop-place.invariant.0 q (root_and_rest A m m' laws ks i c.loop-place-test.true did.0 q k)),
      did.1,
      c.put_record.ensures.rest ∙ c.loop-place.invariant.2,
    )

pub returns : goal.returns
returns g c =
    let A = g.A.Application.meaning in
    let m = g.B.Books.meaning c.loop-place.books in
    record {
      change = c.loop-place.invariant.0 m (all_put A m c.args.roots.now c.loop-place.place c.loop-place-test.false);
      rest = c.loop-place.invariant.2;
    }
