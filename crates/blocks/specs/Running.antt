-- One command on a draft, and all commands of a block.
use Rattle.std.specs.Prelude.{◌≡◌, ℕ, Bool, false, not, List, [], ◌∷◌, ◌++◌, Some, None, Option, Result}
use Rattle.format.specs.Layout.{open_byte, change_byte, close_byte, execute_byte, receive_byte}
use Rattle.format.specs.Values.{IdentifierValue, CommandValue, opens, changes, closes, executes, receives, BlockValue}
use Rattle.format.specs.Outcomes.{refusal_at, Outcome, Passed, ◌>>=◌, ◌>>◌, check}
use Rattle.committee.specs.Rules.{CommitteeValue}
use Rattle.applications.specs.Steps.{ApplicationValue}
use Rattle.books.specs.Values.{ChainValue, MarkValue, EntryValue, opening}
use Rattle.books.specs.Books.{Operation}
use Rattle.reading.specs.Blocks.{commands_in, block_in}
use Rattle.reading.specs.Cursors.{CursorValue, Handed}
use Rattle.reading.specs.declared.command.CommandPart.{CommandPart}
use Rattle.faults.specs.Refusals.{answered, command_refusal}
use Rattle.faults.specs.declared.AtCommand.{AtCommand}
use Rattle.faults.specs.declared.CommandFault.{CommandFault}
use Rattle.protocol.specs.Execution.{child_allowed, RunState, Ran, entry, stepped, run_command, run_commands, executed, received}
use Rattle.protocol.specs.Calls.{receipts}
use Rattle.blocks.specs.Drafts.{DraftValue, draft_value, ran_value, with_command, shown}
use Rattle.blocks.specs.declared.draft.Ran.{Ran as RanCommand}
use Rattle.blocks.specs.declared.draft.Draft.{Draft}

abbrev pub Marks : Type 0
Marks = MarkValue → Bool

-- the marks after changes of marks
abbrev pub marks_after : Marks → List Operation → Marks
marks_after M os = λ k. shown (M k) os k

-- the draft after a command that ran
abbrev pub after_command : Marks → IdentifierValue → DraftValue → CommandValue → Ran → DraftValue
after_command M c d x r = with_command d x r (receipts c (marks_after M d.operations) (received (x ∷ [])))

-- the command at place k
abbrev pub command_ran : CommitteeValue → ApplicationValue → IdentifierValue → ℕ → ℕ → DraftValue → CommandValue → Outcome Ran
command_ran C A c h k d x = check (not d.closed) (refusal_at 13 k) >> run_command C A c h k d.opened d.state x

abbrev pub step_draft : CommitteeValue → ApplicationValue → Marks → IdentifierValue → ℕ → ℕ → DraftValue → CommandValue → Outcome DraftValue
step_draft C A M c h k d x = command_ran C A c h k d x >>= λ r. Passed (after_command M c d x r)

abbrev pub step_answer : ℕ → Result (Unit {0}) CommandFault → DraftValue → Outcome DraftValue
step_answer k r d = answered (λ u. d) (command_refusal k) r

-- a command that ran, or its refusal
abbrev pub ran_answer : ℕ → Result RanCommand CommandFault → Outcome Ran
ran_answer k = answered ran_value (command_refusal k)

abbrev pub byte_of : CommandValue → ℕ
byte_of (opens child key) = open_byte
byte_of (changes key) = change_byte
byte_of closes = close_byte
byte_of (executes code argument target) = execute_byte
byte_of (receives m) = receive_byte

-- operands that some commands have
abbrev pub key_of : CommandValue → ℕ
key_of (opens child key) = key
key_of (changes key) = key
key_of closes = 0
key_of (executes code argument target) = 0
key_of (receives m) = 0

abbrev pub opens_child : IdentifierValue → ℕ → CommandValue → Bool
opens_child c h (opens child key) = child_allowed c h child
opens_child c h (changes key) = false
opens_child c h closes = false
opens_child c h (executes code argument target) = false
opens_child c h (receives m) = false

abbrev pub index_of : CommandValue → ℕ
index_of (opens child key) = 0
index_of (changes key) = 0
index_of closes = 0
index_of (executes code argument target) = 0
index_of (receives m) = m.name.index

-- the row that an Open sends
abbrev pub opening_entries : IdentifierValue → ℕ → ℕ → CommandValue → List EntryValue
opening_entries c h k (opens child key) = entry c h k child (opening key) ∷ []
opening_entries c h k (changes key) = []
opening_entries c h k closes = []
opening_entries c h k (executes code argument target) = []
opening_entries c h k (receives m) = []

-- the application's step by a command, if it makes one
abbrev pub command_stepped : ApplicationValue → IdentifierValue → ℕ → ℕ → RunState → CommandValue → Outcome Ran
command_stepped A c h k s (opens child key) = Passed (record { state = s; sent = [] })
command_stepped A c h k s (changes key) = Passed (record { state = s; sent = [] })
command_stepped A c h k s closes = Passed (record { state = s; sent = [] })
command_stepped A c h k s (executes code argument target) = stepped c h k s.owner target (A.operation s.a s.b code argument)
command_stepped A c h k s (receives m) = stepped c h k s.owner m.name.sender (A.message s.a s.b m.code m.value)

-- a block that ran: the chain with the rows sent, and the changes of marks
pub record Finished : Type 0 where
  pub ran : Ran
  pub operations : List Operation

-- the commands from place k on, after what the draft has
abbrev pub run_on : CommitteeValue → ApplicationValue → Marks → IdentifierValue → ℕ → ℕ → DraftValue → List CommandValue → Outcome Finished
run_on C A M c h k d xs =
    run_commands C A c h k d.closed d.opened d.state xs >>= λ q.
    Passed (record {
      ran = record { state = q.state; sent = d.sent ++ q.sent };
      operations = d.operations ++ receipts c (marks_after M d.operations) (received xs);
    })

-- a block on its chain
abbrev pub finished : CommitteeValue → ApplicationValue → Marks → ChainValue → BlockValue → Outcome Finished
finished C A M r b =
    executed C A r b >>= λ e.
    Passed (record { ran = e; operations = receipts b.chain M (received b.commands) })

-- the block that bytes read as, on its chain
abbrev pub block_finished : CommitteeValue → ApplicationValue → Marks → ChainValue → List ℕ → Outcome Finished
block_finished C A M r bs = block_in bs >>= λ b. finished C A M r b

abbrev pub finished_value : DraftValue → Finished
finished_value d = record { ran = record { state = d.state; sent = d.sent }; operations = d.operations }

abbrev pub run_answer : Result Draft AtCommand → Outcome Finished
run_answer = answered (λ d. finished_value (draft_value d)) (λ f. command_refusal f.place f.fault)

-- the next command as it lies in the frame, or none where all commands that can be read are behind the cursor
abbrev pub Yields : CursorValue → CursorValue → Option CommandPart → Type 0
Yields v w (Some p) = Handed v w p
Yields v w None = (cs : List CommandValue) → commands_in v.left v.place v.rest ≡ Passed cs → cs ≡ []
