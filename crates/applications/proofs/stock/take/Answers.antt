use Rattle.std.proofs.Common.{◌≡◌, false, ◌-ℤ◌, w64, SFits, int_lt, arith, rules}
use Rattle.std.proofs.lemmas.Int.{to_z-of_z, ints}
use Rattle.applications.proofs.stock.take.Goals as goal

pub returns : goal.returns
returns c =
    let f : SFits w64 (c.args.a -ℤ c.args.n) = omega (arith, ints) in
    let enough : int_lt c.args.a c.args.n ≡ false = search rules in
    rw enough (grind (arith, to_z-of_z, c.keep.ensures))
