use Rattle.std.proofs.Common.{sym, ◌∙◌, ap, subst}
use Rattle.std.specs.Option.{option_flatten}
use Rattle.reading.specs.Cursors.{cursor_value}
use Rattle.blocks.specs.Running.{Yields}
use Rattle.blocks.proofs.BlockRuns.{yields}
use Rattle.blocks.proofs.running.next_part.Goals as goal

pub returns : goal.returns
returns c =
    let v = cursor_value c.args.cursor.now in
    let w = cursor_value c.next.new.self in
    subst (Yields v w) (sym (c.flatten.ensures ∙ ap option_flatten c.ok.ensures.value)) (yields v w c.next.result c.next.ensures)
