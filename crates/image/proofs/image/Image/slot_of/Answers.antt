use Rattle.slots.proofs.Cells.{absent_look}
use Rattle.image.specs.Memory.{cells}
use Rattle.image.proofs.Answered.{located}
use Rattle.image.proofs.image.Image.slot_of.Goals as goal

pub returns-in_err-i : goal.returns-in_err-i
returns-in_err-i g c = rw c.from_residual.ensures (absent_look (cells c.args.self.now.bytes.now) (g.K.SlotKey.keyed c.args.key.now) c.in_err-i.ensures)

pub returns : goal.returns
returns g c =
    let t = c.args.self.now in
    let h = c.in_ok-i.ensures in
    let e = located t.bytes.now (t.exact, t.unlike) (g.K.SlotKey.keyed c.args.key.now) c.in_ok-i.i h.0 h.1 in
    rw c.slots.ensures e
