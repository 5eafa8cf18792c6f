use Rattle.std.proofs.Common.{length, sym, refl, ◌∙◌}
use Rattle.committee.specs.Meaning.{members_value}
use Rattle.calls.proofs.Roots.{fit_places, few_roots, starts, no_place}
use Rattle.calls.proofs.starting.start.Goals as goal

pub roots_fit-requires : goal.roots_fit-requires
roots_fit-requires g c = few_roots (members_value c.args.members.now) c.args.roots.now c.if-not-are_roots.ensures

pub returns-then-not-roots_fit : goal.returns-then-not-roots_fit
returns-then-not-roots_fit g c =
    let A = g.A.Application.meaning in
    let m = g.B.Books.meaning c.args.books.now in
    let ks = c.args.roots.now in
    let fit = fit_places m (length ks) 0 ks ∙ sym c.if-not-roots_fit.ensures in
    record {
      change = no_place (members_value c.args.members.now) A ks m
          (sym c.if-not-is_committee.ensures) (sym c.if-not-are_roots.ensures) (sym c.if-not-is_blank.ensures) fit;
      rest = refl;
    }

pub put_roots-requires : goal.put_roots-requires
put_roots-requires g c =
    let ks = c.args.roots.now in
    record {
      few = few_roots (members_value c.args.members.now) c.args.roots.now c.if-not-are_roots.ensures;
      place = fit_places (g.B.Books.meaning c.args.books.now) (length ks) 0 ks ∙ sym c.if-not-roots_fit.ensures;
    }

pub returns : goal.returns
returns g c =
    let A = g.A.Application.meaning in
    let m = g.B.Books.meaning c.args.books.now in
    let ks = c.args.roots.now in
    let fit = fit_places m (length ks) 0 ks ∙ sym c.if-not-roots_fit.ensures in
    record {
      change = starts (members_value c.args.members.now) A ks m (g.B.Books.meaning c.put_roots.new.books)
          (sym c.if-not-is_committee.ensures) (sym c.if-not-are_roots.ensures) (sym c.if-not-is_blank.ensures) fit c.put_roots.ensures.change;
      rest = c.put_roots.ensures.rest;
    }
