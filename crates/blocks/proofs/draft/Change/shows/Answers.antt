use Rattle.std.proofs.Common.{not, ap, ◌∙◌}
use Rattle.books.proofs.Signs.{mark_eq}
use Rattle.blocks.proofs.Drafts.{after_put, after_removed}
use Rattle.blocks.proofs.draft.Change.shows.Goals as goal

pub returns-else-before : goal.returns-else-before
returns-else-before c = rw c.in-Put.is (after_put _ _ _ (c.eq.ensures ∙ mark_eq c.in-Put.put c.args.mark.now) c.if-before.false)

pub returns-then-before-2 : goal.returns-then-before-2
returns-then-before-2 c =
    rw c.in-Removed.is (after_removed _ _ _ (c.ne.ensures ∙ ap not (mark_eq c.in-Removed.removed c.args.mark.now)) c.if-before-2.true)
