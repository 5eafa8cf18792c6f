use Rattle.std.proofs.Common.{◌≡◌, ◌∙◌, rules}
use Rattle.std.proofs.iter.runs.Made.{chains}
use Rattle.std.specs.List.{sum_by}
use Rattle.committee.proofs.Weights.{total_of}
use Rattle.committee.proofs.total.Goals as goal

pub returns : goal.returns
returns c =
    let ms = c.args.members.now in
    let sum : c.sum.result ≡ sum_by (λ m. m.weight) ms = search (rules, chains) in
    sum ∙ total_of ms
