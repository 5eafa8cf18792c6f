use Rattle.std.proofs.Common.{refl}
use Rattle.image.proofs.Changed.{remove_there, remove_nothing}
use Rattle.image.proofs.image.Image.remove.Goals as goal

pub invariant_of-self : goal.invariant_of-self
invariant_of-self g c =
    let t = c.args.self.now in
    let h = c.in-Some.ensures in
    let w = c.write_slot in
    let r = remove_there t.bytes.now (t.exact, t.unlike) c.in-Some.i w.new.bytes h.0 (g.K.SlotKey.keyed c.args.key.now) w.ensures.slots h.1 in
    record { exact = r.1.0; unlike = r.1.1 }

pub returns-in-Some : goal.returns-in-Some
returns-in-Some g c =
    let t = c.args.self.now in
    let h = c.in-Some.ensures in
    let w = c.write_slot in
    let r = remove_there t.bytes.now (t.exact, t.unlike) c.in-Some.i w.new.bytes h.0 (g.K.SlotKey.keyed c.args.key.now) w.ensures.slots h.1 in
    record { change = record { change = r.0; rest = w.ensures.rest }; same_reference = refl }

pub returns-in_default : goal.returns-in_default
returns-in_default g c =
    let t = c.args.self.now in
    record { change = record { change = remove_nothing t.bytes.now (t.exact, t.unlike) (g.K.SlotKey.keyed c.args.key.now) c.in_default.ensures; rest = refl }; same_reference = refl }
