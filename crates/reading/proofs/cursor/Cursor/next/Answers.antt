use Rattle.std.proofs.Common.{arith, length-drop, length-take, rules}
use Rattle.reading.specs.Cursors.{cursor_value}
use Rattle.reading.proofs.Moves.{behind_at}
use Rattle.reading.proofs.cursor.Cursor.next.Goals as goal

pub slice_bounds-self-count : goal.slice_bounds-self-count
slice_bounds-self-count c = let s = c.in-Some.ensures in omega (arith, s.len, s.fits)

pub slice_bounds-self-start : goal.slice_bounds-self-start
slice_bounds-self-start c = let s = c.in-Some.ensures in search rules

pub overflow_add-self : goal.overflow_add-self
overflow_add-self c = let s = c.in-Some.ensures in search rules

pub invariant_of-self : goal.invariant_of-self
invariant_of-self c =
    let s = c.in-Some.ensures in
    let ok = c.args.self.now.ok in
    record { ok = (simp (length-take, length-drop) (omega (arith, s.len, s.fits, ok.0)), omega (arith, ok.1, c.if-self-eq0.false)) }

pub returns : goal.returns
returns c =
    let s = c.in-Some.ensures in
    record {
      more = omega arith;
      known = s.known;
      lies = s.lies;
      on = behind_at (cursor_value c.args.self.now) _ s.len;
    }
