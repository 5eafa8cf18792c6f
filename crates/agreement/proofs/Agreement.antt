-- The members agree.
use Rattle.std.proofs.Common.{◌≡◌, ℕ, ◌+◌, ◌<◌, Bool, true, List, [], ◌∷◌, Some, None, Option, sym, refl, ap, ◌∙◌, subst, inr, ⊎_elim, not-suc-le-zero}
use mathlib.Core.List.{cons≢nil}
use Rattle.format.specs.Values.{IdentifierValue, DigestValue, NameValue, MessageValue, BlockValue}
use Rattle.format.specs.Same.{same_identifier}
use Rattle.format.proofs.Same.{identifier_decides}
use Rattle.format.specs.Rules.{zero_digest}
use Rattle.format.specs.Outcomes.{Outcome, Refused, Passed}
use Rattle.books.specs.Values.{ChainValue, RecordValue, plus, MarkValue, marking, OutgoingValue}
use Rattle.books.specs.Books.{Rows, BooksValue, put_record, updated, apply, apply_all}
use Rattle.books.specs.declared.side.Side.TheVariants.{All}
use Rattle.books.proofs.Changes.{changed_rows}
use Rattle.applications.specs.Steps.{ApplicationValue}
use Rattle.protocol.specs.Reads.{SealsValue}
use Rattle.protocol.specs.Calls.{Done, Ends, fresh, new_record, root_of, root_records, propose, upload, deliver, start}
use Rattle.agreement.specs.Ledger.{Chains, root_chains}
use Rattle.agreement.specs.Runs.{Setting, Grounds, Call, Propose, Upload, Deliver, Event, outcome, books, block_of_certificate, Earned, Run, DigestsDiffer, noted, accepted}
use Rattle.agreement.specs.Agreement.{SentTo, Was, RecordsFollow, MembersAgree}
use Rattle.agreement.proofs.Basics.{refused_passed, true_false, some_is, none_some, put_same, put_other, put_cases}
use Rattle.agreement.proofs.CallFacts.{proposal, uploaded, delivered, started_is}
use Rattle.agreement.proofs.Growth.{Part, part_split, split_part}
use Rattle.agreement.proofs.History.{At, SentIn, at_one}
use Rattle.agreement.proofs.Following.{Follows}
use Rattle.agreement.proofs.Votes.{ev, Voting, all_vote}
use Rattle.agreement.proofs.Invariant.{Holds, backed_one}
use Rattle.agreement.proofs.Steps.{refused, proposed_holds, delivered_holds, uploaded_holds}

-- ---- start

module _ (A : ApplicationValue) where
  record RootedRows (k : ℕ) (os : List ℕ) (R : Rows) (f : Chains) : Type 0 where
    records : (c : IdentifierValue) (r : RecordValue) → (apply_all (root_records A k os) R).record_at c ≡ Some r → root_chains A k os f c ≡ Some r.chain
    marks : (apply_all (root_records A k os) R).marked ≡ R.marked
    outgoing : (apply_all (root_records A k os) R).outgoing_at ≡ R.outgoing_at

  rooted_rows : (k : ℕ) (os : List ℕ) (R : Rows) (f : Chains) → ((c : IdentifierValue) (r : RecordValue) → R.record_at c ≡ Some r → f c ≡ Some r.chain)
      → RootedRows k os R f
  rooted_rows k [] R f h = record { records = h; marks = refl; outgoing = refl }
  rooted_rows k (o ∷ os) R f h =
      let t = rooted_rows (k + 1) os (apply (put_record (root_of k) first) R) (updated same_identifier (root_of k) (Some (fresh A o)) f) next in
      record { records = t.records; marks = t.marks; outgoing = t.outgoing }
    where
      first : RecordValue
      first = new_record A o

      next : (c : IdentifierValue) (r : RecordValue) → updated same_identifier (root_of k) (Some first) R.record_at c ≡ Some r → updated same_identifier (root_of k) (Some (fresh A o)) f c ≡ Some r.chain
      next c r e = ⊎_elim
          (λ p. put_same identifier_decides (root_of k) (Some (fresh A o)) f c p.0 ∙ ap (λ z. Some z.chain) (some_is p.1))
          (λ p. put_other identifier_decides (root_of k) (Some (fresh A o)) f c p.0 ∙ h c r p.1)
          (put_cases identifier_decides (root_of k) (Some first) R.record_at c (Some r) e)

module _ (w : Setting) (g : Grounds w) where
  first_follows : (i : ℕ) → w.honest i ≡ true → Follows w [] (w.started i).rows
  first_follows i h = go (start w.committee w.application w.roots B) refl (g.starts i h)
    where
      B : BooksValue
      B = w.blank i

      go : (o : Outcome Done) → start w.committee w.application w.roots B ≡ o → Ends o B (Passed zero_digest) (w.started i) → Follows w [] (w.started i).rows
      go (Refused r) e n = absurd (refused_passed (sym n.0))
      go (Passed d) e n =
          let s = started_is w.committee w.application w.roots B d e in
          let law = (g.lawful i h).blank_none All s.0 in
          let q : (w.started i).rows ≡ apply_all (root_records w.application 0 w.roots) B.rows =
          changed_rows d.operations B (w.started i) n.1 ∙ ap (λ x. apply_all x B.rows) s.1 in
          let t = rooted_rows w.application 0 w.roots B.rows (λ c. None) (λ c r x. absurd (none_some (sym (law.no_record c refl) ∙ x))) in
          subst (λ x. Follows w [] x) (sym q)
          (record {
            known = λ c r x. inr ([], refl, t.records c r x);
            plus_is = λ c m x. absurd (true_false (sym x ∙ (ap (λ (f : MarkValue → Bool). f (marking c m plus)) t.marks ∙ law.no_mark (marking c m plus) refl)));
            minus_is = λ c m b j p l k. absurd j;
            out_is = λ n' o x. absurd (none_some (sym (ap (λ (f : NameValue → Option OutgoingValue). f n') t.outgoing ∙ law.no_outgoing n' refl) ∙ x));
          })

  first_holds : Holds w [] []
  first_holds =
      record {
        takes = tt;
        follows = first_follows;
        justified = λ i b h p. absurd p.among;
        backed = λ b j. absurd j;
        sent_earlier = λ b l p m j. absurd (cons≢nil p);
        received_once = λ c. tt;
      }

  -- ---- one more call

  module _ (es : List Event) (i : ℕ) (a : Outcome DigestValue) (B' : BooksValue) (vt : Voting w es) (v : Holds w es (accepted es)) (h : w.honest i ≡ true) (run : Run w es) where
    abbrev B₀ : BooksValue
    B₀ = books w es i

    abbrev Next : Call → Outcome DigestValue → BooksValue → Type 0
    Next k x B = Holds w (ev i k x B ∷ es) (accepted (ev i k x B ∷ es))

    propose_next : (S : SealsValue) (frame : List ℕ) (o : Outcome Done) → propose w.committee w.application S B₀ frame ≡ o → Ends o B₀ a B'
        → DigestsDiffer (ev i (Propose S frame) a B' ∷ es) → Next (Propose S frame) a B'
    propose_next S frame (Refused r) e n df =
        subst (λ x. Next (Propose S frame) x B') (sym n.0) (subst (λ B. Next (Propose S frame) (Refused r) B) (sym n.1) (refused w es (accepted es) i (Propose S frame) r v h))
    propose_next S frame (Passed d) e n df =
        subst (λ x. Next (Propose S frame) x B') (sym n.0)
        (proposed_holds w es (accepted es) i S frame d B' v h (subst (λ x. DigestsDiffer (ev i (Propose S frame) x B' ∷ es)) n.0 df)
        (proposal w.committee w.application S B₀ frame d e) (changed_rows d.operations B₀ B' n.1))

    upload_next : (S : SealsValue) (frame : List ℕ) (o : Outcome Done) → upload w.committee w.application S B₀ frame ≡ o → Ends o B₀ a B'
        → Earned w es (Upload S frame) → DigestsDiffer (ev i (Upload S frame) a B' ∷ es) → Next (Upload S frame) a B'
    upload_next S frame (Refused r) e n earned df =
        subst (λ x. Next (Upload S frame) x B') (sym n.0) (subst (λ B. Next (Upload S frame) (Refused r) B) (sym n.1) (refused w es (accepted es) i (Upload S frame) r v h))
    upload_next S frame (Passed d) e n earned df =
        let u = uploaded w.committee w.application S B₀ frame d e in
        subst (λ x. Next (Upload S frame) x B') (sym n.0)
        (subst (λ o. Holds w (ev i (Upload S frame) (Passed d.digest) B' ∷ es) (noted o (accepted es))) (sym (ap block_of_certificate u.reads))
        (uploaded_holds w es (accepted es) i S frame d B' g vt v h run earned (subst (λ x. DigestsDiffer (ev i (Upload S frame) x B' ∷ es)) n.0 df)
        u (changed_rows d.operations B₀ B' n.1)))

    deliver_next : (n : NameValue) (o : Outcome Done) → deliver w.application B₀ n ≡ o → Ends o B₀ a B' → Next (Deliver n) a B'
    deliver_next n (Refused r) e x =
        subst (λ y. Next (Deliver n) y B') (sym x.0) (subst (λ B. Next (Deliver n) (Refused r) B) (sym x.1) (refused w es (accepted es) i (Deliver n) r v h))
    deliver_next n (Passed d) e x =
        delivered_holds w es (accepted es) i n d B' v h (delivered w.application B₀ n d e) (changed_rows d.operations B₀ B' x.1) a

    next : (k : Call) → Ends (outcome w k B₀) B₀ a B' → Earned w es k → DigestsDiffer (ev i k a B' ∷ es) → Next k a B'
    next (Propose S frame) n earned df = propose_next S frame (propose w.committee w.application S B₀ frame) refl n df
    next (Upload S frame) n earned df = upload_next S frame (upload w.committee w.application S B₀ frame) refl n earned df
    next (Deliver x) n earned df = deliver_next x (deliver w.application B₀ x) refl n

  all_hold : (es : List Event) → Run w es → DigestsDiffer es → Holds w es (accepted es)
  all_hold [] r df = first_holds
  all_hold (e ∷ es) r df =
      let earlier : DigestsDiffer es = λ x y p q. df x y (inr p) (inr q) in
      next es e.at e.answer e.after (all_vote w es r.3 earlier) (all_hold es r.3 earlier) r.0 r.3 e.call r.1 r.2 df

pub members_agree : MembersAgree
members_agree w g es r differ =
    record {
      one_at_each_height = λ b b' j j' p q. backed_one w g es (all_vote w es r differ) b b' (v.backed b j) (v.backed b' j') p q;
      received_after_sent = λ later b earlier p m j.
          sent_to earlier b.chain m (v.sent_earlier b earlier (subst (λ l. Part (b ∷ earlier) l) (sym p) (split_part later (b ∷ earlier))) m j);
      received_once = v.received_once;
      ledger_takes_all = v.takes;
      records_follow = was;
    }
  where
    bs : List BlockValue
    bs = accepted es

    v : Holds w es bs
    v = all_hold w g es r differ

    sent_to : (l : List BlockValue) (c : IdentifierValue) (m : MessageValue) → SentIn w l c m → SentTo w c m l
    sent_to l c m s = let p = part_split (s.0 ∷ s.1.0) l s.1.1.0 in (p.0, (s.0, (s.1.0, (p.1, s.1.1.1))))

    was_at : (c : IdentifierValue) (x : ChainValue) → At w bs c x → Was w bs c x
    was_at c x a = let p = part_split a.0 bs a.1 in (p.0, (a.0, (p.1, a.2)))

    at_was : (c : IdentifierValue) (x : ChainValue) → Was w bs c x → At w bs c x
    at_was c x a = (a.1.0, subst (λ l. Part a.1.0 l) (sym a.1.1.0) (split_part a.0 a.1.0), a.1.1.1)

    was : RecordsFollow w es bs
    was i h c x e l = ⊎_elim
        (λ p. absurd (not-suc-le-zero (subst (λ (z : ChainValue). 0 < z.next) p l)))
        (λ a. (was_at c x.chain a, λ y q n. at_one w bs v.takes c y x.chain (at_was c y q) a n))
        ((v.follows i h).known c x e)
