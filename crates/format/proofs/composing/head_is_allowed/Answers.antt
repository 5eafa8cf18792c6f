use Rattle.std.proofs.Common.{◌≡◌, arith, rules}
use Rattle.std.proofs.lemmas.Bool.Decides.{nat_tests}
use Rattle.std.specs.Str.{bytes_eq}
use Rattle.format.specs.Rules.{head_allowed, zero_digest}
use Rattle.format.proofs.composing.head_is_allowed.Goals as goal

pub returns-then-height-gt-MAX_HEIGHT : goal.returns-then-height-gt-MAX_HEIGHT
unfolding head_allowed
returns-then-height-gt-MAX_HEIGHT c = record { value = search rules; len = search rules }

pub returns-then-height-gt0 : goal.returns-then-height-gt0
unfolding head_allowed
returns-then-height-gt0 c = record { value = search rules; len = search rules }

pub returns-else-height-gt0 : goal.returns-else-height-gt0
unfolding head_allowed
returns-else-height-gt0 c =
    let e : c.eq.result ≡ bytes_eq c.args.previous.now.bytes zero_digest = c.eq.ensures in
    record { value = grind (arith, nat_tests); len = search rules }
