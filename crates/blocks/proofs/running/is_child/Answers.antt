use Rattle.std.proofs.Common.{◌≡◌, false, [], ◌∷◌, ◌∙◌, rules}
use Rattle.std.specs.Option.{MatchOption}
use Rattle.std.specs.Str.{bytes_eq}
use Rattle.protocol.specs.Execution.{child_allowed}
use Rattle.blocks.proofs.Children.{child_stripped}
use Rattle.blocks.proofs.running.is_child.Goals as goal

pub returns-then-parent-lt-MAX_DEPTH : goal.returns-then-parent-lt-MAX_DEPTH
returns-then-parent-lt-MAX_DEPTH c =
    let h = c.args.height.0 in
    let t = c.is_some_and.result in
    let m : MatchOption c.strip_prefix.result (t ≡ false) (λ x. t ≡ bytes_eq x.now (h ∷ [])) = search rules in
    child_stripped c.numbers-parent.result.now c.numbers.result.now h t c.strip_prefix.result c.if-parent-lt-MAX_DEPTH.true c.strip_prefix.ensures.cases m
    ∙ (λ i. child_allowed (c.numbers-parent.ensures.value i) h (c.numbers.ensures.value i))
