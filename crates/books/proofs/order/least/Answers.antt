use Rattle.std.proofs.Common.{cond, Some, sym, ap, ◌∙◌}
use Rattle.books.specs.Order.{earlier}
use Rattle.books.proofs.Earliest.{earliest_more, earliest_all}
use Rattle.books.proofs.order.least.Goals as goal
use Rattle.books.proofs.order.least.Goals.{then-has, else-has}

pub loop-row-preserved : goal.loop-row-preserved
loop-row-preserved c =
    let x = c.row-item.result in
    let r = c.loop-row.best in
    earliest_more _ c.args.rows.now c.loop-row.row-index r c.loop-row.invariant x c.if-has.best c.loop-row-test.true c.row-item.is
    (elim c.if-has.branch [
      | then-has w ↦ w.best-is ∙ w.earlier_of-best.ensures ∙ ap (λ t. cond t (earlier r (Some x)) r) (sym w.if-has.true ∙ c.has.ensures)
      | else-has w ↦ w.best-is ∙ ap (λ t. cond t (earlier r (Some x)) r) (sym w.if-has.false ∙ c.has.ensures)
    ])

pub returns : goal.returns
returns c = earliest_all _ c.args.rows.now c.loop-row.row-index c.loop-row.best c.loop-row.invariant c.loop-row-test.false
