-- Running the commands of a block, in order.
use Rattle.std.specs.Prelude.{ℕ, ◌+◌, Bool, true, false, not, ◌&&◌, ◌||◌, List, [], ◌∷◌, ◌++◌, length, ℤ, Some, None, Option, ◌==◌, nat_lt}
use Rattle.format.specs.Layout.{max_depth}
use Rattle.format.specs.Values.{IdentifierValue, DigestValue, MessageValue, CommandValue, opens, changes, closes, executes, receives, BlockValue}
use Rattle.format.specs.Same.{same_identifier}
use Rattle.format.specs.Outcomes.{refusal_at, Outcome, Refused, Passed, ◌>>=◌, ◌>>◌, check}
use Rattle.committee.specs.Rules.{CommitteeValue, has_key}
use Rattle.applications.specs.Steps.{SentValue, StepValue, Refuses, Gives, ApplicationValue}
use Rattle.books.specs.Values.{ChainValue, LoadValue, opening, sent, EntryValue}

-- an owner's key is not 0, and no member's
abbrev pub key_allowed : CommitteeValue → ℕ → Bool
key_allowed C key = not (key == 0) && not (has_key C key)

-- the child that a chain's block at this height opens: the chain's identifier followed by the height
abbrev pub child_of : IdentifierValue → ℕ → IdentifierValue
child_of c h = c ++ h ∷ []

abbrev pub child_allowed : IdentifierValue → ℕ → IdentifierValue → Bool
child_allowed c h child = same_identifier child (child_of c h) && nat_lt (length c) max_depth

-- what the commands of a block change in its chain
pub record RunState : Type 0 where
  pub owner : ℕ
  pub a : ℤ
  pub b : ℤ

-- the chain after commands, and the outgoing rows that they send
pub record Ran : Type 0 where
  pub state : RunState
  pub sent : List EntryValue

-- a row sent by the command at place k of the block at height h of chain c
abbrev pub entry : IdentifierValue → ℕ → ℕ → IdentifierValue → LoadValue → EntryValue
entry c h k target load =
    record { name = record { sender = c; height = h; index = k }; row = record { target = target; load = load } }

abbrev pub message_entries : IdentifierValue → ℕ → ℕ → IdentifierValue → Option SentValue → List EntryValue
message_entries c h k target None = []
message_entries c h k target (Some s) = entry c h k target (sent s.code s.value) ∷ []

-- the application's step; its message goes to the target
abbrev pub stepped : IdentifierValue → ℕ → ℕ → ℕ → IdentifierValue → StepValue → Outcome Ran
stepped c h k owner target (Refuses n) = Refused (record { number = 17; place = k; inner = n })
stepped c h k owner target (Gives a b s) =
    Passed (record { state = record { owner = owner; a = a; b = b }; sent = message_entries c h k target s })

-- One command at place k of the block at height h of chain c. `opened` says whether an Open stands before it.
abbrev pub run_command : CommitteeValue → ApplicationValue → IdentifierValue → ℕ → ℕ → Bool → RunState → CommandValue → Outcome Ran
run_command C A c h k opened s (opens child key) =
    check (key_allowed C key) (refusal_at 14 k) >>
    (check (child_allowed c h child) (refusal_at 15 k) >>
    (check (not opened) (refusal_at 16 k) >>
    Passed (record { state = s; sent = entry c h k child (opening key) ∷ [] })))
run_command C A c h k opened s (changes key) =
    check (key_allowed C key) (refusal_at 14 k) >>
    Passed (record { state = record { owner = key; a = s.a; b = s.b }; sent = [] })
run_command C A c h k opened s closes = Passed (record { state = record { owner = 0; a = s.a; b = s.b }; sent = [] })
run_command C A c h k opened s (executes code argument target) =
    stepped c h k s.owner target (A.operation s.a s.b code argument)
run_command C A c h k opened s (receives m) =
    stepped c h k s.owner m.name.sender (A.message s.a s.b m.code m.value)

abbrev pub is_close : CommandValue → Bool
is_close (opens child key) = false
is_close (changes key) = false
is_close closes = true
is_close (executes code argument target) = false
is_close (receives m) = false

abbrev pub is_open : CommandValue → Bool
is_open (opens child key) = true
is_open (changes key) = false
is_open closes = false
is_open (executes code argument target) = false
is_open (receives m) = false

-- Commands from place k on. `closed` says whether the command before them is a Close.
abbrev pub run_commands : CommitteeValue → ApplicationValue → IdentifierValue → ℕ → ℕ → Bool → Bool → RunState → List CommandValue → Outcome Ran
run_commands C A c h k closed opened s [] = Passed (record { state = s; sent = [] })
run_commands C A c h k closed opened s (x ∷ xs) =
    check (not closed) (refusal_at 13 k) >>
    (run_command C A c h k opened s x >>= λ r.
    run_commands C A c h (k + 1) (is_close x) (is_open x || opened) r.state xs >>= λ q.
    Passed (record { state = q.state; sent = r.sent ++ q.sent }))

-- a block on its chain
abbrev pub executed : CommitteeValue → ApplicationValue → ChainValue → BlockValue → Outcome Ran
executed C A r b = run_commands C A b.chain b.height 0 false false (record { owner = r.owner; a = r.a; b = r.b }) b.commands

-- the chain after its block, which has this digest
abbrev pub advanced : DigestValue → ChainValue → Ran → ChainValue
advanced d r q = record { owner = q.state.owner; next = r.next + 1; digest = d; a = q.state.a; b = q.state.b }

-- the messages that commands receive, in order
abbrev pub received : List CommandValue → List MessageValue
received [] = []
received (opens child key ∷ cs) = received cs
received (changes key ∷ cs) = received cs
received (closes ∷ cs) = received cs
received (executes code argument target ∷ cs) = received cs
received (receives m ∷ cs) = m ∷ received cs
