-- A block that was read, and its run over the cursor.
use Rattle.std.proofs.Common.{◌≡◌, ℕ, zero, suc, ◌+◌, ◌-◌, ◌^◌, ◌<◌, ◌≤◌, Bool, true, false, ◌&&◌, eqb, leb, List, [], ◌∷◌, length, take, drop, Some, None, Ok, Err, Option, Result, sym, refl, ap, ◌∙◌, subst, arith}
use Rattle.std.specs.Option.{option_map, option_flatten}
use Rattle.std.specs.Result.{result_ok}
use Rattle.std.proofs.lemmas.Bool.{and_parts, and_from, cond-true, le-leb, lt-ltb}
use Rattle.format.specs.Layout.{identifier_len, head_len, max_commands, command_byte_len}
use Rattle.format.specs.Rules.{head_allowed}
use Rattle.format.specs.Values.{CommandValue}
use Rattle.format.specs.Outcomes.{RefusalValue, Outcome, Refused, Passed, ◌>>=◌, ◌>>◌, check, given}
use Rattle.format.proofs.Lengths.{few_commands}
use Rattle.reading.specs.Blocks.{HeadValue, head_height, head_previous, head_count, head_of_chain, head_in, block_refusal, commands_in, block_of, block_in, head_of, block_head_in}
use Rattle.reading.specs.Fields.{identifier_in}
use Rattle.reading.specs.Commands.{front_byte, front_operands, operands_in, command_in, command_len}
use Rattle.reading.specs.Cursors.{CursorValue, begun, Handed, Moved}
use Rattle.reading.specs.declared.part.ReadFault.{ReadFault}
use Rattle.reading.specs.declared.part.ReadFault.TheVariants.{Frame, Block, Command}
use Rattle.reading.specs.declared.command.CommandPart.{CommandPart}
use Rattle.reading.proofs.Heads.{head_long}
use Rattle.reading.proofs.OnlyBytes.{some_cond, mapped_some}
use Rattle.reading.proofs.Runs.{step_ok, commands_count}
use Rattle.committee.specs.Rules.{CommitteeValue}
use Rattle.books.specs.Values.{ChainValue}
use Rattle.applications.specs.Steps.{ApplicationValue}
use Rattle.protocol.proofs.Outcomes.{refused_passed, passed_is, bind_passed, given_passed, none_some}
use Rattle.blocks.specs.Drafts.{DraftValue, beginning}
use Rattle.blocks.specs.Running.{Marks, step_draft, Finished, run_on, finished, block_finished, finished_value, Yields}
use Rattle.blocks.proofs.Runs.{run_step, run_ends}

-- the commands of a block that was read
pub record ReadBlock (bs : List ℕ) (h : HeadValue) : Type 0 where
  pub commands : List CommandValue
  pub read : commands_in h.count 0 (drop head_len bs) ≡ Passed commands
  pub is : block_in bs ≡ Passed (block_of h commands)
  pub long : head_len ≤ length bs
  pub few : h.count ≤ max_commands

head_few : (bs : List ℕ) (h : HeadValue) → head_in bs ≡ Some h → h.count ≤ max_commands
unfolding head_in
head_few bs h e =
    let p = some_cond (leb head_len (length bs) && head_allowed (head_height bs) (head_previous bs) (head_count bs)) (option_map (head_of_chain bs) (identifier_in (take identifier_len bs))) h e in
    let q = mapped_some (head_of_chain bs) (identifier_in (take identifier_len bs)) h p.1 in
    let low = few_commands (head_height bs) (head_previous bs) (head_count bs) (and_parts (leb head_len (length bs)) _ p.0).1 in
    subst (λ (z : HeadValue). z.count ≤ max_commands) (sym q.2) low

pub read_block : (bs : List ℕ) (h : HeadValue) → Passed h ≡ block_head_in bs → ReadBlock bs h
unfolding block_in
read_block bs h e =
    let b = bind_passed (block_in bs) (λ b. Passed (head_of b)) h (sym e) in
    let g = bind_passed (given (head_in bs) block_refusal) (λ g. commands_in g.count 0 (drop head_len bs) >>= λ cs. Passed (block_of g cs)) b.0 b.1 in
    let cs = bind_passed (commands_in g.0.count 0 (drop head_len bs)) (λ cs. Passed (block_of g.0 cs)) b.0 g.2 in
    let head = given_passed (head_in bs) block_refusal g.0 g.1 in
    let count : length cs.0 ≡ g.0.count = commands_count g.0.count 0 (drop head_len bs) cs.0 cs.1 in
    let same : head_of (block_of g.0 cs.0) ≡ h = ap head_of (passed_is cs.2) ∙ passed_is b.2 in
    let is_head : g.0 ≡ h =
    (λ i. record { chain = g.0.chain; height = g.0.height; previous = g.0.previous; count = sym count i }) ∙ same in
    subst (ReadBlock bs) is_head (record { commands = cs.0; read = cs.1; is = b.1 ∙ ap Passed (sym (passed_is cs.2)); long = head_long bs g.0 head; few = head_few bs g.0 head })

-- the next of the commands that are left
pub next_command : (n k : ℕ) (bs : List ℕ) (cs : List CommandValue) → 0 < n → commands_in n k bs ≡ Passed cs
    → (x : CommandValue) × (xs : List CommandValue) × (command_in bs ≡ Some x) × (commands_in (n - 1) (k + 1) (drop (command_len bs) bs) ≡ Passed xs) × (cs ≡ x ∷ xs)
next_command zero k bs cs h e = absurd (omega arith)
next_command (suc n) k bs cs h e =
    let s = step_ok (command_in bs) k (commands_in n (k + 1) (drop (command_len bs) bs)) cs e in
    let less : n ≡ suc n - 1 = omega arith in
    (s.0, s.1, s.2, subst (λ m. commands_in m (k + 1) (drop (command_len bs) bs) ≡ Passed s.1) less s.3, s.4)

-- its byte and operands as they were handed out
pub handed : (v w : CursorValue) (p : CommandPart) (x : CommandValue) → Handed v w p → command_in v.rest ≡ Some x → operands_in p.byte p.operands.bytes.now ≡ Some x
unfolding command_in
handed v w p x h e =
    let q = some_cond (leb command_byte_len (length v.rest)) (operands_in (front_byte v.rest) (front_operands v.rest)) x e in
    (λ i. operands_in (h.lies.byte i) (h.lies.operands i).1) ∙ q.1

nothing_left : (n k : ℕ) (bs : List ℕ) (cs : List CommandValue) → n ≡ 0 → commands_in n k bs ≡ Passed cs → (check (eqb (length bs) 0) block_refusal >> Passed []) ≡ Passed cs
nothing_left n k bs cs z e = subst (λ m. commands_in m k bs ≡ Passed cs) z e

ends_so : (t : Bool) (cs : List CommandValue) → ◌≡◌ {A = Outcome (List CommandValue)} (check t block_refusal >> Passed []) (Passed cs) → (t ≡ true) × (cs ≡ [])
ends_so true cs e = (refl, sym (passed_is e))
ends_so false cs e = absurd (refused_passed e)

pub none_left : (n k : ℕ) (bs : List ℕ) (cs : List CommandValue) → n ≡ 0 → commands_in n k bs ≡ Passed cs → cs ≡ []
none_left n k bs cs z e = (ends_so (eqb (length bs) 0) cs (nothing_left n k bs cs z e)).1

-- a cursor over commands that can be read does not stop before the last
pub no_fault : (v w : CursorValue) (f : ReadFault) → Moved v w (Err f) → (cs : List CommandValue) → commands_in v.left v.place v.rest ≡ Passed cs → cs ≡ []
no_fault v w Frame m cs e = absurd m
no_fault v w Block m cs e = none_left v.left v.place v.rest cs m.0 e
no_fault v w (Command k) m cs e =
    let s = next_command v.left v.place v.rest cs m.0 e in
    absurd (none_some (sym m.2 ∙ s.2))

-- the next command, where a refusal is taken for the end
pub yields : (v w : CursorValue) (r : Result (Option CommandPart) ReadFault) → Moved v w r → Yields v w (option_flatten (result_ok r))
yields v w (Ok (Some p)) m = m
yields v w (Ok None) m = λ cs e. none_left v.left v.place v.rest cs m.0 e
yields v w (Err f) m = no_fault v w f m

-- the cursor at the first command
pub begins : (at : ℕ) (bs : List ℕ) (n : ℕ) → head_len ≤ length bs → at + length bs < 2 ^ 64 → begun at bs n ≡ record { rest = drop head_len bs; at = at + head_len; place = 0; left = n }
begins at bs n h k = cond-true _ _ _ (and_from _ _ (le-leb head_len (length bs) h) (lt-ltb (at + length bs) (2 ^ 64) k))

-- ---- the run

module _ (C : CommitteeValue) (A : ApplicationValue) (M : Marks) (r : ChainValue) (bs : List ℕ) (h : HeadValue) where
  abbrev on_from : ℕ → DraftValue → List CommandValue → Outcome Finished
  on_from k d cs = run_on C A M h.chain h.height k d cs

  -- before the first command
  pub run_begins : (e : ReadBlock bs h) (d : DraftValue) → d ≡ beginning r → block_finished C A M r bs ≡ on_from 0 d e.commands
  run_begins e d q = ap (λ o. o >>= λ b. finished C A M r b) e.is ∙ ap (λ z. on_from 0 z e.commands) (sym q)

  module _ (k : ℕ) (d : DraftValue) (v w : CursorValue) (p : CommandPart) (cs : List CommandValue) (moved : Handed v w p)
      (left : commands_in v.left v.place v.rest ≡ Passed cs) (inv : block_finished C A M r bs ≡ on_from k d cs)
      (s : Outcome DraftValue) (stepped : (x : CommandValue) → operands_in p.byte p.operands.bytes.now ≡ Some x → s ≡ step_draft C A M h.chain h.height k d x) where
    next : (x : CommandValue) × (xs : List CommandValue) × (command_in v.rest ≡ Some x) × (commands_in (v.left - 1) (v.place + 1) (drop (command_len v.rest) v.rest) ≡ Passed xs) × (cs ≡ x ∷ xs)
    next = next_command v.left v.place v.rest cs moved.more left

    after_step : block_finished C A M r bs ≡ (s >>= λ d'. on_from (k + 1) d' next.1)
    after_step = inv ∙ (ap (on_from k d) next.4 ∙ run_step C A M h.chain h.height k d next.0 next.1 s (stepped next.0 (handed v w p next.0 moved next.2)))

    pub run_refused : (f : RefusalValue) → s ≡ Refused f → Refused f ≡ block_finished C A M r bs
    run_refused f e = sym (after_step ∙ ap (λ o. o >>= λ d'. on_from (k + 1) d' next.1) e)

    pub run_goes_on : (d' : DraftValue) → s ≡ Passed d'
        → (xs : List CommandValue) × (commands_in w.left w.place w.rest ≡ Passed xs) × (block_finished C A M r bs ≡ on_from (k + 1) d' xs)
    run_goes_on d' e = (
      next.1,
      subst (λ (z : CursorValue). commands_in z.left z.place z.rest ≡ Passed next.1) (sym moved.on) next.3,
      after_step ∙ ap (λ o. o >>= λ d''. on_from (k + 1) d'' next.1) e,
    )

  pub run_whole : (k : ℕ) (d : DraftValue) (cs : List CommandValue) → cs ≡ [] → block_finished C A M r bs ≡ on_from k d cs → Passed (finished_value d) ≡ block_finished C A M r bs
  run_whole k d cs e inv = sym (inv ∙ (ap (on_from k d) e ∙ run_ends C A M h.chain h.height k d))
