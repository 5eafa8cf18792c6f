use Rattle.std.proofs.Common.{arith}
use Rattle.tables.proofs.Dense.{put_old, put_new, put_full}
use Rattle.tables.proofs.table.Table.put.Goals as goal

pub invariant_of-self : goal.invariant_of-self
invariant_of-self g c =
    let p = c.in-Some.ensures in
    let a = put_old g.met.R.Keyed.decides c.args.self.now c.in-Some.i c.args.row p.0 (rw c.key.ensures at p.1) in
    record { in_slice = a.in_slice; in_limit = a.in_limit; apart = a.apart }

pub returns-in-Some : goal.returns-in-Some
returns-in-Some g c =
    let p = c.in-Some.ensures in
    let a = put_old g.met.R.Keyed.decides c.args.self.now c.in-Some.i c.args.row p.0 (rw c.key.ensures at p.1) in
    record { change = a.change; rest = a.rest }

pub returns-then-self-capacity-clause-change : goal.returns-then-self-capacity-clause-change
returns-then-self-capacity-clause-change g c =
    let s = c.args.self.now.in_slice in
    let l = c.args.self.now.in_limit in
    put_full g.met.R.Keyed.decides c.args.self.now c.args.row (omega (arith, c.if-self-capacity.true, c.capacity.ensures)) (rw c.key.ensures at c.in_default.ensures)

pub invariant_of-self-2 : goal.invariant_of-self-2
invariant_of-self-2 g c =
    let a = put_new g.met.R.Keyed.decides c.args.self.now c.args.row (let s = c.args.self.now.in_slice in let l = c.args.self.now.in_limit in omega arith) (rw c.key.ensures at c.in_default.ensures) in
    record { in_slice = a.in_slice; in_limit = a.in_limit; apart = a.apart }

pub returns : goal.returns
returns g c =
    let a = put_new g.met.R.Keyed.decides c.args.self.now c.args.row (let s = c.args.self.now.in_slice in let l = c.args.self.now.in_limit in omega arith) (rw c.key.ensures at c.in_default.ensures) in
    record { change = a.change; rest = a.rest }
