use Rattle.std.proofs.Common.{sym, ◌∙◌}
use Rattle.books.specs.Meaning.{outgoing_key, outgoing_value}
use Rattle.books.specs.Books.{put_outgoing}
use Rattle.split.proofs.Changes.{tried_first, tried_second}
use Rattle.split.proofs.SplitBooks.put_outgoing.Goals as goal

pub returns-then-first_is_even-clause-change : goal.returns-then-first_is_even-clause-change
returns-then-first_is_even-clause-change g c =
    let s = c.args.self.now in
    let call = c.put_outgoing in
    tried_first (put_outgoing (outgoing_key c.args.row) (outgoing_value c.args.row)) c.put_outgoing.result (g.P.Books.meaning s.first) (g.P.Books.meaning call.new.self) (g.Q.Books.meaning s.second) (sym c.first_is_even.ensures ∙ c.if-first_is_even.true) call.ensures.change

pub returns-else-first_is_even-clause-change : goal.returns-else-first_is_even-clause-change
returns-else-first_is_even-clause-change g c =
    let s = c.args.self.now in
    let call = c.put_outgoing-else-first_is_even in
    tried_second (put_outgoing (outgoing_key c.args.row) (outgoing_value c.args.row)) c.put_outgoing-else-first_is_even.result (g.P.Books.meaning s.first) (g.Q.Books.meaning s.second) (g.Q.Books.meaning call.new.self) (sym c.first_is_even.ensures ∙ c.if-first_is_even.false) call.ensures.change
