-- What a draft stands for.
use Rattle.std.specs.Prelude.{ℕ, ◌≤◌, Bool, true, false, cond, ◌||◌, List, [], ◌++◌, map, option_to_list}
use Rattle.std.specs.List.{fold}
use Rattle.std.specs.Option.{option_map}
use Rattle.format.specs.Values.{CommandValue}
use Rattle.books.specs.Values.{ChainValue, MarkValue, EntryValue}
use Rattle.books.specs.Same.{same_mark}
use Rattle.books.specs.Meaning.{mark_value, entry_value}
use Rattle.books.specs.Books.{Operation, put_record, put_mark, put_outgoing, remove_record, remove_mark, remove_outgoing}
use Rattle.protocol.specs.Execution.{RunState, Ran, is_close, is_open}
use Rattle.arrayvec.specs.ArrayVec.{array_vec_len}
use Rattle.blocks.specs.declared.draft.Change.{Change}
use Rattle.blocks.specs.declared.draft.Change.TheVariants.{Put, Removed}
use Rattle.blocks.specs.declared.draft.State.{State}
use Rattle.blocks.specs.declared.draft.Ran.{Ran as RanCommand}
use Rattle.blocks.specs.declared.draft.Draft.{Draft}

abbrev pub change_value : Change → Operation
change_value (Put mark) = put_mark (mark_value mark)
change_value (Removed mark) = remove_mark (mark_value mark)

abbrev pub changes_value : List Change → List Operation
changes_value cs = map change_value cs

-- the chain after the commands so far, whether a Close or an Open was seen, the changes of marks, and the rows sent
pub record DraftValue : Type 0 where
  pub state : RunState
  pub closed : Bool
  pub opened : Bool
  pub operations : List Operation
  pub sent : List EntryValue

abbrev pub state_value : State → RunState
state_value s = record { owner = s.owner.0; a = s.a; b = s.b }

abbrev pub draft_value : Draft → DraftValue
draft_value d = record {
  state = state_value d.state;
  closed = d.closed;
  opened = d.opened;
  operations = changes_value d.changes.items;
  sent = map entry_value d.sent.items;
}

abbrev pub ran_value : RanCommand → Ran
ran_value r = record { state = state_value r.state; sent = option_to_list (option_map entry_value r.sent) }

abbrev pub beginning : ChainValue → DraftValue
beginning r = record { state = record { owner = r.owner; a = r.a; b = r.b }; closed = false; opened = false; operations = []; sent = [] }

-- the draft after a command that ran, with these changes of marks
abbrev pub with_command : DraftValue → CommandValue → Ran → List Operation → DraftValue
with_command d x r os = record {
  state = r.state;
  closed = is_close x;
  opened = is_open x || d.opened;
  operations = d.operations ++ os;
  sent = d.sent ++ r.sent;
}

-- at most one change and one row for each command
pub record Within (d : Draft) (n : ℕ) : Type 0 where
  pub changes : array_vec_len d.changes ≤ n
  pub sent : array_vec_len d.sent ≤ n

-- whether a mark is there after a change of the books, where it was before it or not
abbrev pub shown_after : MarkValue → Bool → Operation → Bool
shown_after k there (put_mark j) = cond (same_mark j k) true there
shown_after k there (remove_mark j) = cond (same_mark j k) false there
shown_after k there (put_record c r) = there
shown_after k there (put_outgoing n o) = there
shown_after k there (remove_record c) = there
shown_after k there (remove_outgoing n) = there

abbrev pub shown : Bool → List Operation → MarkValue → Bool
shown before os k = fold (shown_after k) before os
