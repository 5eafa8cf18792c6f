-- One command more of a block's run.
use Rattle.std.proofs.Common.{◌≡◌, ℕ, ◌+◌, Bool, true, false, cond, not, ◌||◌, List, [], ◌∷◌, ◌++◌, sym, refl, ap, ◌∙◌, append_assoc, append-nil}
use Rattle.std.proofs.lemmas.List.Sums.{fold-append}
use Rattle.format.specs.Values.{IdentifierValue, MessageValue, CommandValue, opens, changes, closes, executes, receives}
use Rattle.format.specs.Outcomes.{refusal_at, Outcome, Refused, Passed, ◌>>=◌, ◌>>◌, check}
use Rattle.committee.specs.Rules.{CommitteeValue}
use Rattle.books.specs.Values.{MarkValue, marking, plus, minus}
use Rattle.books.specs.Same.{same_mark}
use Rattle.books.specs.Books.{Operation, put_mark, remove_mark, updated}
use Rattle.applications.specs.Steps.{ApplicationValue}
use Rattle.protocol.specs.Execution.{Ran, run_command, is_close, is_open, run_commands, received}
use Rattle.protocol.specs.Calls.{receipts}
use Rattle.blocks.specs.Drafts.{DraftValue, shown, shown_after}
use Rattle.blocks.specs.Running.{Marks, marks_after, after_command, step_draft, Finished, run_on, finished_value}

-- ---- marks

-- a mark is put, or else removed
abbrev marks_operation : Bool → MarkValue → Operation
marks_operation true k = put_mark k
marks_operation false k = remove_mark k

shown_push : (b p : Bool) (os : List Operation) (j k : MarkValue) → shown b (os ++ (marks_operation p j ∷ [])) k ≡ cond (same_mark j k) p (shown b os k)
shown_push b true os j k = fold-append (shown_after k) b os (put_mark j ∷ [])
shown_push b false os j k = fold-append (shown_after k) b os (remove_mark j ∷ [])

module _ (M : Marks) (c : IdentifierValue) where
  after_push : (os : List Operation) (p : Bool) (j : MarkValue) → marks_after M (os ++ (marks_operation p j ∷ [])) ≡ updated same_mark j p (marks_after M os)
  after_push os p j = λ i k. shown_push (M k) p os j k i

  abbrev Split : List Operation → List Operation → List MessageValue → List Operation → Type 0
  Split os first ms whole = os ++ whole ≡ (os ++ first) ++ receipts c (marks_after M (os ++ first)) ms

  none_first : (os : List Operation) (ms : List MessageValue) → Split os [] ms (receipts c (marks_after M os) ms)
  none_first os ms = sym (λ i. append-nil os i ++ receipts c (marks_after M (append-nil os i)) ms)

  one_first : (os : List Operation) (p : Bool) (j : MarkValue) (ms : List MessageValue)
      → Split os (marks_operation p j ∷ []) ms (marks_operation p j ∷ receipts c (updated same_mark j p (marks_after M os)) ms)
  one_first os p j ms =
      ap (λ N. os ++ (marks_operation p j ∷ receipts c N ms)) (sym (after_push os p j))
      ∙ sym (append_assoc os (marks_operation p j ∷ []) (receipts c (marks_after M (os ++ (marks_operation p j ∷ []))) ms))

  message_first : (os : List Operation) (m : MessageValue) (ms : List MessageValue) (t : Bool)
      → Split os
      (cond t (remove_mark (marking c m plus) ∷ []) (put_mark (marking c m minus) ∷ []))
      ms
      (cond t (remove_mark (marking c m plus) ∷ receipts c (updated same_mark (marking c m plus) false (marks_after M os)) ms)
      (put_mark (marking c m minus) ∷ receipts c (updated same_mark (marking c m minus) true (marks_after M os)) ms))
  message_first os m ms true = one_first os false (marking c m plus) ms
  message_first os m ms false = one_first os true (marking c m minus) ms

  pub receipts_split : (os : List Operation) (x : CommandValue) (xs : List CommandValue)
      → Split os (receipts c (marks_after M os) (received (x ∷ []))) (received xs) (receipts c (marks_after M os) (received (x ∷ xs)))
  receipts_split os (opens child key) xs = none_first os (received xs)
  receipts_split os (changes key) xs = none_first os (received xs)
  receipts_split os closes xs = none_first os (received xs)
  receipts_split os (executes code argument target) xs = none_first os (received xs)
  receipts_split os (receives m) xs = message_first os m (received xs) (marks_after M os (marking c m plus))

-- ---- commands

abbrev behind : Ran → Ran → Ran
behind r q = record { state = q.state; sent = r.sent ++ q.sent }

abbrev whole : DraftValue → List Operation → Ran → Finished
whole d os q = record { ran = record { state = q.state; sent = d.sent ++ q.sent }; operations = os }

module _ (C : CommitteeValue) (A : ApplicationValue) (M : Marks) (c : IdentifierValue) (h : ℕ) where
  abbrev all_of : DraftValue → List CommandValue → List Operation
  all_of d xs = d.operations ++ receipts c (marks_after M d.operations) (received xs)

  -- what follows a command that ran, in either order of putting it together
  joined : (d : DraftValue) (x : CommandValue) (xs : List CommandValue) (r : Ran) (o : Outcome Ran)
      → ((o >>= λ q. Passed (behind r q)) >>= λ q. Passed (whole d (all_of d (x ∷ xs)) q))
      ≡ (o >>= λ q. Passed (whole (after_command M c d x r) (all_of (after_command M c d x r) xs) q))
  joined d x xs r (Refused f) = refl
  joined d x xs r (Passed q) =
      λ i. Passed (record { ran = record { state = q.state; sent = sym (append_assoc d.sent r.sent q.sent) i }; operations = receipts_split M c d.operations x xs i })

  by_step : (k : ℕ) (d : DraftValue) (x : CommandValue) (xs : List CommandValue) (t : Bool) (o : Outcome Ran)
      → (s : Outcome DraftValue) → ((check t (refusal_at 13 k) >> o) >>= λ r. Passed (after_command M c d x r)) ≡ s
      → ((check t (refusal_at 13 k)
      >> (o >>= λ r. run_commands C A c h (k + 1) (is_close x) (is_open x || d.opened) r.state xs >>= λ q. Passed (behind r q)))
      >>= λ q. Passed (whole d (all_of d (x ∷ xs)) q))
      ≡ (s >>= λ d'. run_on C A M c h (k + 1) d' xs)
  by_step k d x xs false o s e = ap (λ z. z >>= λ d'. run_on C A M c h (k + 1) d' xs) e
  by_step k d x xs true (Refused f) s e = ap (λ z. z >>= λ d'. run_on C A M c h (k + 1) d' xs) e
  by_step k d x xs true (Passed r) s e =
      joined d x xs r (run_commands C A c h (k + 1) (is_close x) (is_open x || d.opened) r.state xs) ∙ ap (λ z. z >>= λ d'. run_on C A M c h (k + 1) d' xs) e

  -- a step, and then the rest
  pub run_step : (k : ℕ) (d : DraftValue) (x : CommandValue) (xs : List CommandValue) (s : Outcome DraftValue) → s ≡ step_draft C A M c h k d x
      → run_on C A M c h k d (x ∷ xs) ≡ (s >>= λ d'. run_on C A M c h (k + 1) d' xs)
  run_step k d x xs s e = by_step k d x xs (not d.closed) (run_command C A c h k d.opened d.state x) s (sym e)

  pub run_ends : (k : ℕ) (d : DraftValue) → run_on C A M c h k d [] ≡ Passed (finished_value d)
  run_ends k d = λ i. Passed (record { ran = record { state = d.state; sent = append-nil d.sent i }; operations = append-nil d.operations i })
