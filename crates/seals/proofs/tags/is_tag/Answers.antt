use Rattle.std.proofs.Common.{◌≡◌, false, length, min, sym, refl, ap, ◌∙◌, arith, length-append, rules}
use Rattle.std.proofs.lemmas.Slice.Eq.{bytes_eq-Decides}
use Rattle.std.proofs.lemmas.List.{take_all}
use Rattle.std.proofs.lemmas.Slice.Zip.{zip_end, zip_turn}
use Rattle.std.proofs.lemmas.Bool.{false≢true}
use Rattle.std.proofs.lemmas.Bool.Decides.{same_from_decides, Decides-like}
use Rattle.seals.proofs.Differences.{differs_more}
use Rattle.seals.proofs.tags.is_tag.Goals as goal

pub returns-then-seal-ne-TAG_LEN : goal.returns-then-seal-ne-TAG_LEN
returns-then-seal-ne-TAG_LEN c =
    same_from_decides false _ ((λ e. absurd (false≢true e)), (λ e. absurd (c.if-seal-ne-TAG_LEN.true (ap length e ∙ c.told-tag)))) (bytes_eq-Decides c.args.seal.now c.args.tag.now)

pub loop-x-init : goal.loop-x-init
loop-x-init c = (λ _. refl, λ _. refl)

pub loop-x-preserved : goal.loop-x-preserved
loop-x-preserved c =
    let xs = c.args.seal.now in
    let ys = c.args.tag.now in
    let i = length c.loop-x.yielded in
    let turn =
    zip_turn xs ys c.loop-x.yielded c.into_iter-x-iterator.result c.loop-x.x-iterator c.next.new.self c.next.result (search rules) (search rules) c.loop-x.yielded_by
    (c.in-Some.x, c.in-Some.y) c.in-Some.is c.next.ensures.steps in
    let more = differs_more c.loop-x.difference i xs ys turn.0 turn.1 c.loop-x.invariant in
    simp (length-append, turn.2 0, turn.3 0) more

pub returns : goal.returns
returns c =
    let xs = c.args.seal.now in
    let ys = c.args.tag.now in
    let i = length c.loop-x.yielded in
    let end : i ≡ min (length xs) (length ys) = zip_end xs ys c.loop-x.yielded c.into_iter-x-iterator.result c.loop-x.x-iterator c.next.new.self c.next.result (search rules) (search rules) c.loop-x.yielded_by c.in-None.is c.next.ensures.steps in
    let front = take_all i xs (omega (arith, end, c.told-tag)) in
    let back = take_all i ys (omega (arith, end, c.told-tag)) in
    same_from_decides _ _ (Decides-like _ (λ e. sym front ∙ e ∙ back) (λ e. front ∙ e ∙ sym back) c.loop-x.invariant) (bytes_eq-Decides xs ys)
