-- What rows a block's run sends.
use Rattle.std.proofs.Common.{◌≡◌, ℕ, ◌+◌, Bool, true, false, not, ◌||◌, ◌⊎◌, List, [], ◌∷◌, ◌++◌, ℤ, Some, None, Option, sym, refl, ap, ◌∙◌, subst, inl, inr, ⊎_elim}
use Rattle.std.proofs.lemmas.Bool.{and_parts, not-true, or_right}
use Rattle.format.specs.Values.{IdentifierValue, CommandValue, opens, changes, closes, executes, receives}
use Rattle.format.specs.Same.{same_identifier}
use Rattle.format.proofs.Same.{identifier_decides}
use Rattle.format.specs.Outcomes.{refusal_at, Passed}
use Rattle.committee.specs.Rules.{CommitteeValue}
use Rattle.applications.specs.Steps.{SentValue, StepValue, Refuses, Gives, ApplicationValue}
use Rattle.books.specs.Values.{LoadValue, opening, sent, EntryValue}
use Rattle.protocol.specs.Execution.{key_allowed, child_of, child_allowed, RunState, Ran, entry, message_entries, stepped, run_command, is_close, is_open, run_commands}
use Rattle.agreement.specs.Lists.{In}
use Rattle.agreement.proofs.Basics.{refused_passed, passed_is, bind_passed, check_passed, true_false, in_either}

abbrev IsSent : LoadValue → Type 0
IsSent (opening k) = ⊥
IsSent (sent c v) = Unit

pub sent_opening : {c : ℕ} {v : ℤ} {k : ℕ} → ◌≡◌ {A = LoadValue} (sent c v) (opening k) → ⊥
sent_opening e = subst IsSent e tt

abbrev key_in : LoadValue → ℕ
key_in (opening k) = k
key_in (sent c v) = 0

pub opening_is : {k k' : ℕ} → ◌≡◌ {A = LoadValue} (opening k) (opening k') → k ≡ k'
opening_is e = ap key_in e

pub record GoodRow (c : IdentifierValue) (h : ℕ) (r : EntryValue) : Type 0 where
  pub sender : r.name.sender ≡ c
  pub height : r.name.height ≡ h
  pub child : (key : ℕ) → r.row.load ≡ opening key → r.row.target ≡ child_of c h

-- a row that one command sends
record OneRow (c : IdentifierValue) (h : ℕ) (x : CommandValue) (opened : Bool) (r : EntryValue) : Type 0 where
  good : GoodRow c h r
  first : (key : ℕ) → r.row.load ≡ opening key → (opened ≡ false) × ((is_open x || opened) ≡ true)

module _ (C : CommitteeValue) (A : ApplicationValue) (c : IdentifierValue) (h : ℕ) where
  said_rows : (k : ℕ) (t : IdentifierValue) (w : Option SentValue) (x : CommandValue) (opened : Bool) (r : EntryValue) → In r (message_entries c h k t w) → OneRow c h x opened r
  said_rows k t None x opened r i = absurd i
  said_rows k t (Some w) x opened r (inl e) =
      record {
        good = record { sender = ap (λ (z : EntryValue). z.name.sender) e; height = ap (λ (z : EntryValue). z.name.height) e; child = λ key q. absurd (no_opening key q) };
        first = λ key q. absurd (no_opening key q);
      }
    where
      no_opening : (key : ℕ) → r.row.load ≡ opening key → ⊥
      no_opening key q = sent_opening (sym (ap (λ (z : EntryValue). z.row.load) e) ∙ q)
  said_rows k t (Some w) x opened r (inr i) = absurd i

  said_single : (k : ℕ) (t : IdentifierValue) (w : Option SentValue) (r r' : EntryValue) → In r (message_entries c h k t w) → In r' (message_entries c h k t w) → r ≡ r'
  said_single k t None r r' i j = absurd i
  said_single k t (Some w) r r' (inl e) (inl f) = e ∙ sym f
  said_single k t (Some w) r r' (inl e) (inr j) = absurd j
  said_single k t (Some w) r r' (inr i) j = absurd i

  stepped_sent : (k o : ℕ) (t : IdentifierValue) (s : StepValue) (q : Ran) → stepped c h k o t s ≡ Passed q → (w : Option SentValue) × (q.sent ≡ message_entries c h k t w)
  stepped_sent k o t (Refuses n) q e = absurd (refused_passed e)
  stepped_sent k o t (Gives a b w) q e = (w, ap (λ (z : Ran). z.sent) (sym (passed_is e)))

  one_rows : (k : ℕ) (opened : Bool) (s : RunState) (x : CommandValue) (q : Ran) → run_command C A c h k opened s x ≡ Passed q
      → ((r : EntryValue) → In r q.sent → OneRow c h x opened r) × ((r r' : EntryValue) → In r q.sent → In r' q.sent → r ≡ r')
  one_rows k opened s (opens child key) q e =
      let e1 = check_passed (key_allowed C key) (refusal_at 14 k) _ q e in
      let e2 = check_passed (child_allowed c h child) (refusal_at 15 k) _ q e1.1 in
      let e3 = check_passed (not opened) (refusal_at 16 k) _ q e2.1 in
      let is_child = (identifier_decides child (child_of c h)).0 (and_parts (same_identifier child (child_of c h)) _ e2.0).0 in
      let f : entry c h k child (opening key) ∷ [] ≡ q.sent = ap (λ (z : Ran). z.sent) (passed_is e3.1) in
      ((λ r i. rows r is_child (not-true opened e3.0) (rw (← f) at i)), (λ r r' i j. single r r' (rw (← f) at i) (rw (← f) at j)))
    where
      Only : List EntryValue
      Only = entry c h k child (opening key) ∷ []

      rows : (r : EntryValue) → child ≡ child_of c h → opened ≡ false → In r Only → OneRow c h (opens child key) opened r
      rows r p o (inl g) =
          record {
            good = record { sender = ap (λ (z : EntryValue). z.name.sender) g; height = ap (λ (z : EntryValue). z.name.height) g; child = λ key' _. ap (λ (z : EntryValue). z.row.target) g ∙ p };
            first = λ key' _. (o, refl);
          }
      rows r p o (inr g) = absurd g

      single : (r r' : EntryValue) → In r Only → In r' Only → r ≡ r'
      single r r' (inl g) (inl g') = g ∙ sym g'
      single r r' (inl g) (inr g') = absurd g'
      single r r' (inr g) g' = absurd g
  one_rows k opened s (changes key) q e =
      let e1 = check_passed (key_allowed C key) (refusal_at 14 k) _ q e in
      let f : [] ≡ q.sent = ap (λ (z : Ran). z.sent) (passed_is e1.1) in
      ((λ r i. absurd (rw (← f) at i)), (λ r r' i j. absurd (rw (← f) at i)))
  one_rows k opened s closes q e =
      let f : [] ≡ q.sent = ap (λ (z : Ran). z.sent) (passed_is e) in
      ((λ r i. absurd (rw (← f) at i)), (λ r r' i j. absurd (rw (← f) at i)))
  one_rows k opened s (executes code v t) q e =
      let f = stepped_sent k s.owner t _ q e in
      ((λ r i. said_rows k t f.0 (executes code v t) opened r (rw f.1 at i)), (λ r r' i j. said_single k t f.0 r r' (rw f.1 at i) (rw f.1 at j)))
  one_rows k opened s (receives m) q e =
      let f = stepped_sent k s.owner m.name.sender _ q e in
      ((λ r i. said_rows k m.name.sender f.0 (receives m) opened r (rw f.1 at i)), (λ r r' i j. said_single k m.name.sender f.0 r r' (rw f.1 at i) (rw f.1 at j)))

  record RunRows (opened : Bool) (q : Ran) : Type 0 where
    good : (r : EntryValue) → In r q.sent → GoodRow c h r
    once : opened ≡ true → (r : EntryValue) (key : ℕ) → In r q.sent → r.row.load ≡ opening key → ⊥
    lone : (r r' : EntryValue) (key key' : ℕ) → In r q.sent → In r' q.sent → r.row.load ≡ opening key → r'.row.load ≡ opening key' → key ≡ key'

  run_rows : (k : ℕ) (closed opened : Bool) (s : RunState) (xs : List CommandValue) (q : Ran) → run_commands C A c h k closed opened s xs ≡ Passed q → RunRows opened q
  run_rows k closed opened s [] q e =
      let f : [] ≡ q.sent = ap (λ (z : Ran). z.sent) (passed_is e) in
      record { good = λ r i. absurd (rw (← f) at i); once = λ o r key i g. rw (← f) at i; lone = λ r r' key key' i j g g'. absurd (rw (← f) at i) }
  run_rows k closed opened s (x ∷ xs) q e =
      let e1 = check_passed (not closed) (refusal_at 13 k) _ q e in
      let e2 = bind_passed (run_command C A c h k opened s x) _ q e1.1 in
      let e3 = bind_passed (run_commands C A c h (k + 1) (is_close x) ((is_open x || opened)) e2.0.state xs) _ q e2.2 in
      joined e2.0 e3.0 (one_rows k opened s x e2.0 e2.1) (run_rows (k + 1) (is_close x) ((is_open x || opened)) e2.0.state xs e3.0 e3.1)
      (ap (λ (z : Ran). z.sent) (sym (passed_is e3.2)))
    where
      joined : (a b : Ran) → ((r : EntryValue) → In r a.sent → OneRow c h x opened r) × ((r r' : EntryValue) → In r a.sent → In r' a.sent → r ≡ r')
          → RunRows ((is_open x || opened)) b → q.sent ≡ a.sent ++ b.sent → RunRows opened q
      joined a b u v f =
          record {
            good = λ r i. ⊎_elim (λ l. (u.0 r l).good) (λ l. v.good r l) (split r i);
            once = λ o r key i g. ⊎_elim (λ l. true_false (sym o ∙ ((u.0 r l).first key g).0)) (λ l. v.once (or_right (is_open x) opened o) r key l g) (split r i);
            lone = λ r r' key key' i j g g'. ⊎_elim
                (λ l. ⊎_elim (λ l'. opening_is (sym g ∙ (ap (λ (z : EntryValue). z.row.load) (u.1 r r' l l') ∙ g'))) (λ l'. absurd (v.once ((u.0 r l).first key g).1 r' key' l' g')) (split r' j))
                (λ l. ⊎_elim (λ l'. absurd (v.once ((u.0 r' l').first key' g').1 r key l g)) (λ l'. v.lone r r' key key' l l' g g') (split r' j))
                (split r i);
          }
        where
          split : (r : EntryValue) → In r q.sent → In r a.sent ⊎ In r b.sent
          split r i = in_either r a.sent b.sent (rw f at i)

-- what a block's run sends
pub record SentRows (c : IdentifierValue) (h : ℕ) (q : Ran) : Type 0 where
  pub good : (r : EntryValue) → In r q.sent → GoodRow c h r
  pub lone : (r r' : EntryValue) (key key' : ℕ) → In r q.sent → In r' q.sent → r.row.load ≡ opening key → r'.row.load ≡ opening key' → key ≡ key'

pub sent_rows : (C : CommitteeValue) (A : ApplicationValue) (c : IdentifierValue) (h : ℕ) (s : RunState) (xs : List CommandValue) (q : Ran)
    → run_commands C A c h 0 false false s xs ≡ Passed q → SentRows c h q
sent_rows C A c h s xs q e = let r = run_rows C A c h 0 false false s xs q e in record { good = r.good; lone = r.lone }
