use Rattle.std.proofs.Common.{◌∙◌, rules, tests}
use Rattle.std.proofs.lemmas.Iterator.{YieldsList-from_slice}
use Rattle.std.proofs.lemmas.Iterator.Search.{any_from_yields_List}
use Rattle.books.specs.Sides.{on}
use Rattle.slots.specs.Cells.{held_and}
use Rattle.slots.specs.Reading.{home_in}
use Rattle.slots.specs.Rows.{home, row_key}
use Rattle.image.specs.Memory.{slots}
use Rattle.image.specs.Waiting.{on_side}
use Rattle.image.proofs.Scanned.{on_side_is}
use Rattle.image.proofs.Slotted.{any_held}
use Rattle.image.proofs.image.Image.any_on_side.Goals as goal

pub returns : goal.returns
returns c =
    let t = c.args.self.now in
    let bs = t.bytes.now in
    let side = c.args.side in
    any_from_yields_List (λ s. on_side side (home_in s)) _ _ c.any.result c.any.ensures.ran (YieldsList-from_slice (slots bs) cc) (λ x b q k. search (rules, tests))
    ∙ any_held (λ s. on_side side (home_in s)) (held_and (λ v. on side (home (row_key v)))) (on_side_is side) bs t.exact
