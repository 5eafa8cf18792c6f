use Rattle.std.proofs.Common.{◌≡◌, map, drop}
use Rattle.applications.specs.Meaning.{asked_value}
use Rattle.applications.specs.Tallies.{tally_from}
use Rattle.applications.proofs.running.run_steps.Given as goal

-- the steps that are left make the tally whole
abbrev pub invariant-loop-place : goal.invariant-loop-place
invariant-loop-place g l =
    tally_from g.A.Application.meaning (map asked_value (drop l.place l.steps)) l.place l.a l.b
    ≡ tally_from g.A.Application.meaning (map asked_value l.steps) 0 g.A.Application.meaning.start_a g.A.Application.meaning.start_b
