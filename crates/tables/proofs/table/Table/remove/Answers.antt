use Rattle.std.proofs.Common.{arith}
use Rattle.tables.proofs.Dense.{fewer_apart, remove_old, remove_none}
use Rattle.tables.proofs.table.Table.remove.Goals as goal

pub invariant_of-self : goal.invariant_of-self
invariant_of-self g c =
    let t = c.args.self.now in
    let s = t.in_slice in
    let l = t.in_limit in
    record { in_slice = omega arith; in_limit = omega arith; apart = fewer_apart g.met.R.Keyed.decides t }

pub invariant_of-self-in-Some : goal.invariant_of-self-in-Some
invariant_of-self-in-Some g c =
    let p = c.in-Some.ensures in
    let a = remove_old g.met.R.Keyed.decides c.args.self.now (g.R.Keyed.label c.args.key.now) c.in-Some.i c.index-self-self.result p.0 p.1 in
    record { in_slice = a.in_slice; in_limit = a.in_limit; apart = a.apart }

pub returns-in-Some : goal.returns-in-Some
returns-in-Some g c =
    let p = c.in-Some.ensures in
    let a = remove_old g.met.R.Keyed.decides c.args.self.now (g.R.Keyed.label c.args.key.now) c.in-Some.i c.index-self-self.result p.0 p.1 in
    record { change = a.change; rest = a.rest }

pub returns-in_default-clause-change : goal.returns-in_default-clause-change
returns-in_default-clause-change g c = remove_none g.met.R.Keyed.decides c.args.self.now (g.R.Keyed.label c.args.key.now) c.in_default.ensures
