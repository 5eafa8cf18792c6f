use Rattle.std.proofs.Common.{◌-◌, ◌/◌, ap, ◌∙◌}
use Rattle.committee.proofs.Weights.{quorums_overlap, few_members, no_quorum, quorum_is}
use Rattle.committee.proofs.quorum.Goals as goal

pub returns-then-not-is_committee : goal.returns-then-not-is_committee
returns-then-not-is_committee c = record { value = no_quorum c.args.members.now c.if-not-is_committee.ensures; overlap = quorums_overlap }

pub total-total-requires : goal.total-total-requires
total-total-requires c = few_members c.args.members.now c.if-not-is_committee.ensures

pub returns : goal.returns
returns c =
    let weight = ap (λ t. c.total-total.result - t / 3) c.saturating_sub.ensures ∙ ap (λ t. t - (t - 1) / 3) c.total-total.ensures in
    record { value = quorum_is c.args.members.now _ c.if-not-is_committee.ensures weight; overlap = quorums_overlap }
