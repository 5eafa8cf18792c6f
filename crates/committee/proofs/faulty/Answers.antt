use Rattle.std.proofs.Common.{◌-◌, ◌/◌, sym, ap, ◌∙◌}
use Rattle.std.proofs.lemmas.Bool.{cond-false}
use Rattle.committee.proofs.Weights.{few_members, faulty_is}
use Rattle.committee.proofs.faulty.Goals as goal

pub returns-then-not-is_committee : goal.returns-then-not-is_committee
returns-then-not-is_committee c = sym (cond-false _ _ _ (sym c.if-not-is_committee.ensures))

pub total-requires : goal.total-requires
total-requires c = few_members c.args.members.now c.if-not-is_committee.ensures

pub returns : goal.returns
returns c =
    let weight = ap (λ t. t / 3) c.saturating_sub-others.ensures ∙ ap (λ t. (t - 1) / 3) c.total.ensures in
    faulty_is c.args.members.now _ c.if-not-is_committee.ensures weight
