use Rattle.std.proofs.Common.{◌≡◌, ◌+◌, ◌-◌, ◌<◌, ◌≤◌, is_some, sym, ap, ◌∙◌, subst, arith}
use Rattle.format.specs.Layout.{max_commands}
use Rattle.format.specs.Outcomes.{Refused, Passed}
use Rattle.committee.specs.Meaning.{members_value}
use Rattle.books.specs.Meaning.{record_value}
use Rattle.reading.specs.Blocks.{commands_in}
use Rattle.reading.specs.Cursors.{CursorValue, cursor_value, Handed}
use Rattle.reading.specs.Parts.{head_value}
use Rattle.faults.specs.Refusals.{command_refusal}
use Rattle.blocks.specs.Drafts.{draft_value}
use Rattle.blocks.specs.Running.{step_answer}
use Rattle.blocks.proofs.BlockRuns.{read_block, begins, next_command, handed, none_left, run_begins, run_refused, run_goes_on, run_whole}
use Rattle.blocks.proofs.running.run_block.Goals as goal

pub loop-index-init : goal.loop-index-init
loop-index-init g c =
    let C = members_value c.args.members.now in
    let A = g.A.Application.meaning in
    let M = (g.B.Books.meaning c.args.books.now).rows.marked in
    let bs = c.args.opened.now.block.bytes.now in
    let h = head_value c.args.opened.now.head in
    let e = read_block bs h c.args.opened.now.read in
    let v = cursor_value c.new-cursor.result in
    let at : v ≡ record { rest = _; at = _; place = 0; left = h.count } = c.new-cursor.ensures ∙ begins c.args.opened.now.block.at bs h.count e.long c.args.opened.now.place in
    let left : v.left ≡ h.count = ap (λ (z : CursorValue). z.left) at in
    let few : h.count ≤ max_commands = e.few in (
      (
        e.commands,
        subst (λ (z : CursorValue). commands_in z.left z.place z.rest ≡ Passed e.commands) (sym at) e.read,
        run_begins C A M (record_value c.args.row.now).chain bs h e (draft_value c.new-draft.result) c.new-draft.ensures.value,
      ),
      c.new-draft.ensures.within,
      omega arith,
      few,
    )

pub run_part-requires : goal.run_part-requires
run_part-requires g c =
    let v = cursor_value c.loop-index.cursor in
    let w = cursor_value c.next_part.new.cursor in
    let part = c.in-Some.part in
    let moved : Handed v w part = c.in-Some.ensures in
    let inv = c.loop-index.invariant in
    let more : 0 < v.left = moved.more in
    let room : c.loop-index.index < max_commands = omega (arith, inv.2, inv.3) in
    let x = next_command v.left v.place v.rest inv.0.0 more inv.0.1 in
    record { within = inv.1; few = room; known = ap is_some (handed v w part x.0 moved x.2) }

pub returns-in-Err : goal.returns-in-Err
returns-in-Err g c =
    let C = members_value c.args.members.now in
    let A = g.A.Application.meaning in
    let M = (g.B.Books.meaning c.args.books.now).rows.marked in
    let k = c.loop-index.index in
    let d = draft_value c.run_part.new.draft in
    let inv = c.loop-index.invariant in
    ap (λ z. Refused (command_refusal z c.in-Err.fault)) c.from.ensures
    ∙ run_refused C A M (record_value c.args.row.now).chain c.args.opened.now.block.bytes.now (head_value c.args.opened.now.head) k (draft_value c.loop-index.draft)
    (cursor_value c.loop-index.cursor) (cursor_value c.next_part.new.cursor) c.in-Some.part inv.0.0 c.in-Some.ensures inv.0.1 inv.0.2
    (step_answer k c.run_part.result d) c.run_part.ensures.value (command_refusal k c.in-Err.fault) (ap (λ r. step_answer k r d) c.in-Err.is)

pub loop-index-preserved : goal.loop-index-preserved
loop-index-preserved g c =
    let C = members_value c.args.members.now in
    let A = g.A.Application.meaning in
    let M = (g.B.Books.meaning c.args.books.now).rows.marked in
    let k = c.loop-index.index in
    let d = draft_value c.run_part.new.draft in
    let v = cursor_value c.loop-index.cursor in
    let w = cursor_value c.next_part.new.cursor in
    let inv = c.loop-index.invariant in
    let moved : Handed v w c.in-Some.part = c.in-Some.ensures in
    let more : 0 < v.left = moved.more in
    let next_left : w.left ≡ v.left - 1 = ap (λ (z : CursorValue). z.left) moved.on in
    let left : k + v.left ≡ _ = inv.2 in (
      run_goes_on C A M (record_value c.args.row.now).chain c.args.opened.now.block.bytes.now (head_value c.args.opened.now.head) k (draft_value c.loop-index.draft)
          v w c.in-Some.part inv.0.0 moved inv.0.1 inv.0.2 (step_answer k c.run_part.result d) c.run_part.ensures.value d
          (ap (λ r. step_answer k r d) c.in_default-run_part.is),
      c.run_part.ensures.within,
      omega arith,
      inv.3,
    )

-- all commands are behind the cursor
pub returns-in_default : goal.returns-in_default
returns-in_default g c =
    let inv = c.loop-index.invariant in
    run_whole (members_value c.args.members.now) g.A.Application.meaning (g.B.Books.meaning c.args.books.now).rows.marked (record_value c.args.row.now).chain
    c.args.opened.now.block.bytes.now (head_value c.args.opened.now.head) c.loop-index.index (draft_value c.loop-index.draft) inv.0.0 (c.in_default.ensures inv.0.0 inv.0.1) inv.0.2

pub returns : goal.returns
returns g c =
    let v = cursor_value c.loop-index.cursor in
    let inv = c.loop-index.invariant in
    let none : v.left ≡ 0 = omega (arith, inv.2) in
    run_whole (members_value c.args.members.now) g.A.Application.meaning (g.B.Books.meaning c.args.books.now).rows.marked (record_value c.args.row.now).chain
    c.args.opened.now.block.bytes.now (head_value c.args.opened.now.head) c.loop-index.index (draft_value c.loop-index.draft) inv.0.0 (none_left v.left v.place v.rest inv.0.0 none inv.0.1) inv.0.2
