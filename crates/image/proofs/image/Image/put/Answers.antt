use Rattle.std.proofs.Common.{refl}
use Rattle.image.proofs.Changed.{put_in, put_nowhere}
use Rattle.image.proofs.image.Image.put.Goals as goal

pub returns-in_default : goal.returns-in_default
returns-in_default g c =
    let t = c.args.self.now in
    let h = c.in_default.ensures in
    record { change = record { change = put_nowhere t.bytes.now (t.exact, t.unlike) (g.K.SlotKey.keyed c.args.key.now) c.args.slot.now c.requires h.0 h.1; rest = refl }; same_reference = refl }

pub invariant_of-self : goal.invariant_of-self
invariant_of-self g c =
    let t = c.args.self.now in
    let h = c.in-Some.ensures in
    let w = c.write_slot in
    let r = put_in t.bytes.now (t.exact, t.unlike) c.in-Some.i w.new.bytes h.0 (g.K.SlotKey.keyed c.args.key.now) c.args.slot.now w.ensures.slots c.requires h.1 in
    record { exact = r.1.0; unlike = r.1.1 }

pub returns : goal.returns
returns g c =
    let t = c.args.self.now in
    let h = c.in-Some.ensures in
    let w = c.write_slot in
    let r = put_in t.bytes.now (t.exact, t.unlike) c.in-Some.i w.new.bytes h.0 (g.K.SlotKey.keyed c.args.key.now) c.args.slot.now w.ensures.slots c.requires h.1 in
    record { change = record { change = r.0; rest = w.ensures.rest }; same_reference = refl }
