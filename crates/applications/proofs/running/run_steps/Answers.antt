use Rattle.std.proofs.Common.{pos, to_z, w64, SFits, rules}
use Rattle.std.proofs.lemmas.Int.{to_z-of_z}
use Rattle.applications.specs.declared.running.Asked.TheVariants.{Operation}
use Rattle.applications.proofs.Tallies.{rings_are_counted, stock_balances, one_refused, one_made, all_made}
use Rattle.applications.proofs.running.run_steps.Goals as goal

pub returns-in-Err : goal.returns-in-Err
returns-in-Err g c =
    let l = c.loop-place in
    record {
      value = one_refused g.A.Application.meaning c.args.steps.now l.place (to_z w64 l.a-bits) (to_z w64 l.b-bits) _ l.invariant (Operation 0 (pos 0)) c.in-Err.fault.number c.loop-place-test.true c.in-Err.ensures;
      rings = rings_are_counted;
      stock = stock_balances;
    }

pub loop-place-preserved : goal.loop-place-preserved
loop-place-preserved g c =
    let l = c.loop-place in
    let p : SFits w64 c.in-Ok.step.a = search rules in
    let q : SFits w64 c.in-Ok.step.b = search rules in
    simp to_z-of_z (one_made g.A.Application.meaning c.args.steps.now l.place (to_z w64 l.a-bits) (to_z w64 l.b-bits) _ l.invariant (Operation 0 (pos 0)) c.in-Ok.step.a c.in-Ok.step.b _ c.loop-place-test.true c.in-Ok.ensures)

pub returns : goal.returns
returns g c =
    let l = c.loop-place in
    record {
      value = all_made g.A.Application.meaning c.args.steps.now l.place (to_z w64 l.a-bits) (to_z w64 l.b-bits) _ l.invariant c.loop-place-test.false;
      rings = rings_are_counted;
      stock = stock_balances;
    }
