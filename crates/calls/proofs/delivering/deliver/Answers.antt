use Rattle.std.proofs.Common.{◌≡◌, sym, ◌∙◌}
use Rattle.books.specs.Counts.{counts}
use Rattle.books.specs.Meaning.{record_value, outgoing_key, outgoing_value}
use Rattle.format.specs.Meaning.{name_value}
use Rattle.calls.specs.Arrivals.{arrival_counts}
use Rattle.calls.proofs.Arrivals.{missing_is, placed, delivered}
use Rattle.calls.proofs.delivering.deliver.Goals as goal

pub arrive-requires : goal.arrive-requires
arrive-requires g c =
    let A = g.A.Application.meaning in
    let m = g.B.Books.meaning c.args.books.now in
    let row = c.in-Some.row in
    let missing = c.from.ensures ∙ missing_is record_value c.record-found.result _ c.is_none.result c.is_none.ensures c.record-found.ensures.value in
    let n : counts c.from.result c.new_marks.result 0 ≡ arrival_counts m.rows (outgoing_key row) (outgoing_value row) = λ i. counts (missing i) (c.new_marks.ensures i) 0 in
    record {
      value = c.record-found.ensures.value;
      key = c.record-found.ensures.key;
      place = placed A m (outgoing_key row) (outgoing_value row) _ n (sym c.fits.ensures ∙ c.if-not-fits.false);
    }

pub returns : goal.returns
returns g c =
    let A = g.A.Application.meaning in
    let mean = g.B.Books.meaning in
    let m = mean c.args.books.now in
    let row = c.in-Some.row in
    let missing = c.from.ensures ∙ missing_is record_value c.record-found.result _ c.is_none.result c.is_none.ensures c.record-found.ensures.value in
    let n : counts c.from.result c.new_marks.result 0 ≡ arrival_counts m.rows (outgoing_key row) (outgoing_value row) = λ i. counts (missing i) (c.new_marks.ensures i) 0 in
    let place = placed A m (outgoing_key row) (outgoing_value row) _ n (sym c.fits.ensures ∙ c.if-not-fits.false) in
    record {
      change = delivered A m (mean c.arrive.new.books) (mean c.remove_outgoing.new.self) (name_value c.args.name.now) (outgoing_key row) (outgoing_value row)
          c.in-Some.ensures.key c.in-Some.ensures.value place c.arrive.ensures.change c.remove_outgoing.ensures.change;
      rest = c.remove_outgoing.ensures.rest ∙ c.arrive.ensures.rest;
    }
