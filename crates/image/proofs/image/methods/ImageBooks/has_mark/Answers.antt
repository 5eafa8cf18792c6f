use Rattle.std.proofs.Common.{◌∙◌}
use Rattle.books.specs.Meaning.{mark_value}
use Rattle.slots.specs.Rows.{by_mark}
use Rattle.image.proofs.Answered.{some_located}
use Rattle.image.proofs.image.methods.ImageBooks.has_mark.Goals as goal

pub returns : goal.returns
returns c =
    let t = c.args.self.now in
    c.is_some.ensures ∙ some_located t.bytes.now (t.exact, t.unlike) (by_mark (mark_value c.args.mark.now)) c.locate.result c.locate.ensures
