use Rattle.split.proofs.Least.{least_all}
use Rattle.split.proofs.SplitBooks.least_outgoing.Goals as goal

pub returns-in-All : goal.returns-in-All
returns-in-All g c =
    let s = c.args.self.now in
    least_all (g.P.Books.meaning s.first).rows.outgoing_at (g.Q.Books.meaning s.second).rows.outgoing_at c.args.side
    c.least_outgoing.result c.least_outgoing-in-All.result c.earlier_of.result c.in-All.is c.earlier_of.ensures
    c.least_outgoing.ensures c.least_outgoing-in-All.ensures
