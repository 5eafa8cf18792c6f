use Rattle.std.proofs.Common.{◌≡◌, ◌+◌, ◌≤◌, List}
use Rattle.format.specs.Layout.{max_commands}
use Rattle.format.specs.Meaning.{identifier_value}
use Rattle.format.specs.Values.{CommandValue}
use Rattle.format.specs.Outcomes.{Passed}
use Rattle.committee.specs.Meaning.{members_value}
use Rattle.books.specs.Meaning.{record_value}
use Rattle.reading.specs.Blocks.{commands_in}
use Rattle.reading.specs.Cursors.{cursor_value}
use Rattle.blocks.specs.Drafts.{Within, draft_value}
use Rattle.blocks.specs.Running.{block_finished, run_on}
use Rattle.blocks.proofs.running.run_block.Given as goal

-- the commands that are left, after what the draft has, end the block
abbrev pub invariant-loop-index : goal.invariant-loop-index
invariant-loop-index g l =
    let C = members_value l.members in
    let A = g.A.Application.meaning in
    let M = (g.B.Books.meaning l.books).rows.marked in
    let v = cursor_value l.cursor in
    ((cs : List CommandValue) × (commands_in v.left v.place v.rest ≡ Passed cs)
    × (block_finished C A M (record_value l.row).chain l.opened.block.bytes.now ≡ run_on C A M (identifier_value l.opened.head.chain) l.opened.head.height.0 l.index (draft_value l.draft) cs))
    × Within l.draft l.index × (l.index + v.left ≡ l.index-end) × (l.index-end ≤ max_commands)
