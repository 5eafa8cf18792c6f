-- The votes of each member: those for one height of a chain are for one block. This needs nothing of the weights.
use Rattle.std.proofs.Common.{◌≡◌, ℕ, ◌<◌, Bool, true, false, cond, ◌⊎◌, List, [], ◌∷◌, ◌++◌, map, Some, None, Option, sym, refl, ap, ◌∙◌, subst, inl, inr, ⊎_elim, arith}
use native.Mathlib.Decide.{ℕ_discrete}
use Rattle.std.proofs.lemmas.Bool.Decides.{Decides-eqb}
use Rattle.format.specs.Values.{IdentifierValue, DigestValue, NameValue, BlockValue}
use Rattle.format.specs.Same.{same_identifier}
use Rattle.format.proofs.Same.{identifier_decides, digest_decides}
use Rattle.format.specs.Outcomes.{Outcome, Refused, Passed}
use Rattle.books.specs.Values.{ChainValue, RecordValue, plus, minus, marking, LoadValue, opening, sent}
use Rattle.books.specs.Books.{Rows, BooksValue, Operation, put_record, put_mark, remove_mark, remove_outgoing, updated, apply, apply_all}
use Rattle.books.proofs.Changes.{changed_rows}
use Rattle.protocol.specs.Reads.{SealsValue, block_digest}
use Rattle.protocol.specs.Execution.{advanced, received}
use Rattle.protocol.specs.Calls.{Done, Ends, made, record_or_new, new_record, arrives, unopened, with_owner, with_vote, vote_in, votes_at_most, message_of, receipts, put_entry, propose, upload, deliver}
use Rattle.agreement.specs.Lists.{In}
use Rattle.agreement.specs.Blocks.{numbers_discrete}
use Rattle.agreement.specs.Runs.{Setting, Call, Propose, Upload, Deliver, Event, outcome, books, block_of_request, block_in_call, Proposes, Voted, Run, DigestsDiffer}
use Rattle.agreement.specs.Agreement.{VotesAreOne}
use Rattle.agreement.proofs.Basics.{refused_passed, passed_is, some_is, none_some, put_same, put_other, same_cond, other_cond}
use Rattle.agreement.proofs.CallFacts.{Proposal, proposal, UploadRan, uploaded, Delivery, delivered, apply_both}
use Rattle.agreement.proofs.Marks.{receipt, posted}
use Rattle.agreement.proofs.Following.{Below}

abbrev pub ev : ℕ → Call → Outcome DigestValue → BooksValue → Event
ev i k a B = record { at = i; call = k; answer = a; after = B }

module _ (w : Setting) where
  -- an accepted propose of block b at member i
  pub record Proposed (es : List Event) (i : ℕ) (b : BlockValue) : Type 0 where
    pub event : Event
    pub among : In event es
    pub where_at : event.at ≡ i
    pub proposes : Proposes event.call
    pub answered : event.answer ≡ Passed (block_digest b)
    pub block_is : block_in_call event.call ≡ Some b

  pub proposed_more : (e : Event) (es : List Event) (i : ℕ) (b : BlockValue) → Proposed es i b → Proposed (e ∷ es) i b
  proposed_more e es i b p =
      record { event = p.event; among = inr p.among; where_at = p.where_at; proposes = p.proposes; answered = p.answered; block_is = p.block_is }

  -- the member votes for b at its height
  abbrev pub Holding : Rows → BlockValue → Type 0
  Holding R b = (r : RecordValue) × (R.record_at b.chain ≡ Some r) × (r.chain.next ≡ b.height) × (r.vote ≡ Some (block_digest b))

  -- the block is behind the member, or the member votes for it
  abbrev pub VotesFor : Rows → BlockValue → Type 0
  VotesFor R b = Below R b.chain b.height ⊎ Holding R b

  pub record Voting (es : List Event) : Type 0 where
    pub votes : (i : ℕ) (b : BlockValue) → w.honest i ≡ true → Proposed es i b → VotesFor (books w es i).rows b
    pub one_vote : (i : ℕ) (b b' : BlockValue) → w.honest i ≡ true → Proposed es i b → Proposed es i b' → b.chain ≡ b'.chain → b.height ≡ b'.height → b ≡ b'

  -- a call of the list, where it stands
  pub run_at : (es : List Event) → Run w es → (e : Event) → In e es
      → (earlier : List Event) × Ends (outcome w e.call (books w earlier e.at)) (books w earlier e.at) e.answer e.after
  run_at [] r e i = absurd i
  run_at (x ∷ es) r e (inl p) =
      let P : Event → Type 0 = λ z. Ends (outcome w z.call (books w es z.at)) (books w es z.at) z.answer z.after in
      (es, subst P (sym p) r.1)
  run_at (x ∷ es) r e (inr i) = run_at es r.3 e i

  run_honest : (es : List Event) → Run w es → (e : Event) → In e es → w.honest e.at ≡ true
  run_honest [] r e i = absurd i
  run_honest (x ∷ es) r e (inl p) = ap (λ (z : Event). w.honest z.at) p ∙ r.0
  run_honest (x ∷ es) r e (inr i) = run_honest es r.3 e i

  -- a vote was for a block with its digest
  pub voted_block : (es : List Event) → Run w es → (i : ℕ) (d : DigestValue) → (v : Voted es i d) → (b : BlockValue) × (block_digest b ≡ d) × ((p : Proposed es i b) × (p.event ≡ v.0))
  voted_block es r i d v = by_call e.call refl v.3 s.1
    where
      e : Event
      e = v.0

      s : (earlier : List Event) × Ends (outcome w e.call (books w earlier e.at)) (books w earlier e.at) e.answer e.after
      s = run_at es r e v.1

      B : BooksValue
      B = books w s.0 e.at

      Found : Type 0
      Found = (b : BlockValue) × (block_digest b ≡ d) × ((p : Proposed es i b) × (p.event ≡ e))

      ended : (S : SealsValue) (frame : List ℕ) → e.call ≡ Propose S frame → (o : Outcome Done) → propose w.committee w.application S B frame ≡ o
          → Ends o B e.answer e.after → Found
      ended S frame k (Refused x) q n = absurd (refused_passed (sym n.0 ∙ v.4))
      ended S frame k (Passed x) q n =
          let u = proposal w.committee w.application S B frame x q in
          let b = u.request.block in
          let f : block_digest b ≡ d = sym u.digest ∙ passed_is (sym n.0 ∙ v.4) in (
            b,
            f,
            (
              record {
                event = e;
                among = v.1;
                where_at = v.2;
                proposes = v.3;
                answered = v.4 ∙ ap Passed (sym f);
                block_is = ap block_in_call k ∙ ap block_of_request u.reads;
              },
              refl,
            ),
          )

      by_call : (k : Call) → e.call ≡ k → Proposes k → Ends (outcome w k B) B e.answer e.after → Found
      by_call (Propose S frame) k p n = ended S frame k (propose w.committee w.application S B frame) refl n
      by_call (Upload S frame) k p n = absurd p
      by_call (Deliver x) k p n = absurd p

  pub books_cases : (i : ℕ) (k : Call) (a : Outcome DigestValue) (B : BooksValue) (es : List Event) (j : ℕ)
      → ((j ≡ i) × (books w (ev i k a B ∷ es) j ≡ B)) ⊎ ((¬ (j ≡ i)) × (books w (ev i k a B ∷ es) j ≡ books w es j))
  books_cases i k a B es j = go (ℕ_discrete j i)
    where
      go : Dec (j ≡ i) → ((j ≡ i) × (books w (ev i k a B ∷ es) j ≡ B)) ⊎ ((¬ (j ≡ i)) × (books w (ev i k a B ∷ es) j ≡ books w es j))
      go (yes p) = inl (p, same_cond (Decides-eqb j i) p B (books w es j))
      go (no n) = inr (n, other_cond (Decides-eqb j i) n B (books w es j))

  -- what a member votes for lasts
  abbrev Onward : Rows → Rows → Type 0
  Onward R R' = (b : BlockValue) → VotesFor R b → VotesFor R' b

  -- one record changes, and for its chain the votes last
  put_onward : (R R' : Rows) (c : IdentifierValue) (r : RecordValue) → R'.record_at ≡ updated same_identifier c (Some r) R.record_at
      → ((b : BlockValue) → b.chain ≡ c → VotesFor R b → VotesFor R' b) → Onward R R'
  put_onward R R' c r records own b v = go (numbers_discrete b.chain c) v
    where
      other : ¬ (b.chain ≡ c) → R'.record_at b.chain ≡ R.record_at b.chain
      other n = ap (λ (f : IdentifierValue → Option RecordValue). f b.chain) records ∙ put_other identifier_decides c (Some r) R.record_at b.chain n

      go : Dec (b.chain ≡ c) → VotesFor R b → VotesFor R' b
      go (yes p) x = own b p x
      go (no n) (inl l) = inl (l.0, other n ∙ l.1, l.2)
      go (no n) (inr t) = inr (t.0, other n ∙ t.1, t.2, t.3)

  -- the record of a chain after it was put
  now_there : (R R' : Rows) (c : IdentifierValue) (r : RecordValue) → R'.record_at ≡ updated same_identifier c (Some r) R.record_at → (d : IdentifierValue) → d ≡ c → R'.record_at d ≡ Some r
  now_there R R' c r records d p = ap (λ (f : IdentifierValue → Option RecordValue). f d) records ∙ put_same identifier_decides c (Some r) R.record_at d p

  -- a record with the same height and vote
  same_vote : (R R' : Rows) (c : IdentifierValue) (r r' : RecordValue) → R'.record_at ≡ updated same_identifier c (Some r') R.record_at → R.record_at c ≡ Some r
      → r'.chain.next ≡ r.chain.next → r'.vote ≡ r.vote → Onward R R'
  same_vote R R' c r r' records e p q = put_onward R R' c r' records own
    where
      is_row : (b : BlockValue) (x : RecordValue) → b.chain ≡ c → R.record_at b.chain ≡ Some x → x ≡ r
      is_row b x s f = some_is (sym f ∙ (ap R.record_at s ∙ e))

      own : (b : BlockValue) → b.chain ≡ c → VotesFor R b → VotesFor R' b
      own b s (inl l) =
          let n : l.0.chain.next ≡ r.chain.next = ap (λ (z : RecordValue). z.chain.next) (is_row b l.0 s l.1) in
          let k : b.height < l.0.chain.next = l.2 in
          let m : r'.chain.next ≡ r.chain.next = p in
          inl (r', now_there R R' c r' records b.chain s, omega arith)
      own b s (inr t) =
          let y = is_row b t.0 s t.1 in
          inr (r', now_there R R' c r' records b.chain s, p ∙ (ap (λ (z : RecordValue). z.chain.next) (sym y) ∙ t.2), q ∙ (ap (λ (z : RecordValue). z.vote) (sym y) ∙ t.3))

  -- ---- a call that is no accepted propose

  module _ (es : List Event) (i : ℕ) (k : Call) (a : Outcome DigestValue) (B : BooksValue) (other : (d : DigestValue) → Proposes k → a ≡ Passed d → ⊥) where
    pub no_new_vote : (j : ℕ) (b : BlockValue) → Proposed (ev i k a B ∷ es) j b → Proposed es j b
    no_new_vote j b p = ⊎_elim
        (λ q. absurd (other (block_digest b) (subst (λ (x : Event). Proposes x.call) q p.proposes) (sym (ap (λ (x : Event). x.answer) q) ∙ p.answered)))
        (λ q. record { event = p.event; among = q; where_at = p.where_at; proposes = p.proposes; answered = p.answered; block_is = p.block_is })
        p.among

    went_on : Voting es → Onward (books w es i).rows B.rows → Voting (ev i k a B ∷ es)
    went_on v onward =
        record {
          votes = λ j b h p. ⊎_elim
              (λ q. subst (λ (x : BooksValue). VotesFor x.rows b) (sym q.1) (onward b (subst (λ n. VotesFor (books w es n).rows b) q.0 (v.votes j b h (no_new_vote j b p)))))
              (λ q. subst (λ (x : BooksValue). VotesFor x.rows b) (sym q.1) (v.votes j b h (no_new_vote j b p)))
              (books_cases i k a B es j);
          one_vote = λ j b b' h p q. v.one_vote j b b' h (no_new_vote j b p) (no_new_vote j b' q);
        }

  -- ---- propose

  module _ (es : List Event) (i : ℕ) (seals : SealsValue) (frame : List ℕ) (d : Done) (B' : BooksValue)
      (u : Proposal w.committee w.application seals (books w es i) frame d) where
    abbrev e₀ : Event
    e₀ = ev i (Propose seals frame) (Passed d.digest) B'

    abbrev b₀ : BlockValue
    b₀ = u.request.block

    -- a proposal is this one, or an earlier one
    pub which : (j : ℕ) (b : BlockValue) → Proposed (e₀ ∷ es) j b → ((j ≡ i) × (b ≡ b₀)) ⊎ Proposed es j b
    which j b p = ⊎_elim (λ q. inl (sym p.where_at ∙ ap (λ (x : Event). x.at) q, some_is (sym p.block_is ∙ (ap (λ (x : Event). block_in_call x.call) q ∙ ap block_of_request u.reads))))
        (λ q. inr (record { event = p.event; among = q; where_at = p.where_at; proposes = p.proposes; answered = p.answered; block_is = p.block_is })) p.among

    module _ (v : Voting es) (h : w.honest i ≡ true) (differ : DigestsDiffer (e₀ ∷ es)) (rows_are : B'.rows ≡ apply_all d.operations (books w es i).rows) where
      abbrev R : Rows
      R = (books w es i).rows

      abbrev d₀ : DigestValue
      d₀ = block_digest b₀

      abbrev voted : RecordValue
      voted = with_vote u.chain (Some d₀)

      -- a vote in the record is for this digest
      same_digests : (e : DigestValue) → vote_in (R.record_at b₀.chain) ≡ Some e → e ≡ d₀
      same_digests e p = (digest_decides e d₀).0 (subst (λ o. votes_at_most d₀ o ≡ true) p u.votes)

      next_is : (x : RecordValue) (c : IdentifierValue) → c ≡ b₀.chain → R.record_at c ≡ Some x → x.chain.next ≡ u.chain.next
      next_is x c p e = ap (λ (z : RecordValue). z.chain.next) (some_is (sym e ∙ (ap R.record_at p ∙ u.found.there))) ∙ ap (λ (z : ChainValue). z.next) u.found.is

      -- an earlier vote of this member for this height was for this block
      earlier_vote : (b : BlockValue) → Proposed es i b → b.chain ≡ b₀.chain → b.height ≡ b₀.height → b ≡ b₀
      earlier_vote b p q s = ⊎_elim (λ l. absurd (too_low l)) same (v.votes i b h p)
        where
          too_low : Below R b.chain b.height → ⊥
          too_low l =
              let n : l.0.chain.next ≡ u.chain.next = next_is l.0 b.chain q l.1 in
              let z : b₀.height ≡ u.chain.next = u.height in
              let k : b.height < l.0.chain.next = l.2 in
              omega arith

          same : Holding R b → b ≡ b₀
          same t =
              let x : R.record_at b₀.chain ≡ Some t.0 = ap R.record_at (sym q) ∙ t.1 in
              differ p.event e₀ (inr p.among) (inl refl) b b₀ p.block_is (ap block_of_request u.reads) (same_digests (block_digest b) (ap vote_in x ∙ t.3))

      records_now : B'.rows.record_at ≡ updated same_identifier b₀.chain (Some voted) R.record_at
      records_now = ap (λ (z : Rows). z.record_at) (rows_are ∙ ap (λ x. apply_all x R) u.operations)

      onward : Onward R B'.rows
      onward = put_onward R B'.rows b₀.chain voted records_now own
        where
          own : (b : BlockValue) → b.chain ≡ b₀.chain → VotesFor R b → VotesFor B'.rows b
          own b q (inl l) =
              let n : l.0.chain.next ≡ u.chain.next = next_is l.0 b.chain q l.1 in
              let k : b.height < l.0.chain.next = l.2 in
              inl (voted, now_there R B'.rows b₀.chain voted records_now b.chain q, omega arith)
          own b q (inr t) =
              inr (
                voted,
                now_there R B'.rows b₀.chain voted records_now b.chain q,
                sym (next_is t.0 b.chain q t.1) ∙ t.2,
                ap Some (sym (same_digests (block_digest b) (ap vote_in (ap R.record_at (sym q) ∙ t.1) ∙ t.3))),
              )

      held_now : Holding B'.rows b₀
      held_now = (voted, now_there R B'.rows b₀.chain voted records_now b₀.chain refl, sym u.height, refl)

      mine : (j : ℕ) (b : BlockValue) → w.honest j ≡ true → j ≡ i → ((j ≡ i) × (b ≡ b₀)) ⊎ Proposed es j b → VotesFor B'.rows b
      mine j b g q (inl s) = subst (λ x. VotesFor B'.rows x) (sym s.1) (inr held_now)
      mine j b g q (inr s) = onward b (subst (λ n. VotesFor (books w es n).rows b) q (v.votes j b g s))

      one : (j : ℕ) (b b' : BlockValue) → w.honest j ≡ true → ((j ≡ i) × (b ≡ b₀)) ⊎ Proposed es j b → ((j ≡ i) × (b' ≡ b₀)) ⊎ Proposed es j b'
          → b.chain ≡ b'.chain → b.height ≡ b'.height → b ≡ b'
      one j b b' g (inl p) (inl p') q s = p.1 ∙ sym p'.1
      one j b b' g (inl p) (inr p') q s =
          p.1 ∙ sym (earlier_vote b' (subst (λ n. Proposed es n b') p.0 p') (sym q ∙ ap (λ (z : BlockValue). z.chain) p.1) (sym s ∙ ap (λ (z : BlockValue). z.height) p.1))
      one j b b' g (inr p) (inl p') q s =
          earlier_vote b (subst (λ n. Proposed es n b) p'.0 p) (q ∙ ap (λ (z : BlockValue). z.chain) p'.1) (s ∙ ap (λ (z : BlockValue). z.height) p'.1) ∙ sym p'.1
      one j b b' g (inr p) (inr p') q s = v.one_vote j b b' g p p' q s

      voted_now : Voting (e₀ ∷ es)
      voted_now =
          record {
            votes = λ j b g p. ⊎_elim
                (λ q. subst (λ (x : BooksValue). VotesFor x.rows b) (sym q.1) (mine j b g q.0 (which j b p)))
                (λ q. subst (λ (x : BooksValue). VotesFor x.rows b) (sym q.1) (⊎_elim (λ s. absurd (q.0 s.0)) (λ s. v.votes j b g s) (which j b p)))
                (books_cases i (Propose seals frame) (Passed d.digest) B' es j);
            one_vote = λ j b b' g p p' q s. one j b b' g (which j b p) (which j b' p') q s;
          }

  -- ---- deliver

  module _ (R : Rows) (c : IdentifierValue) where
    abbrev prepared : Option RecordValue → Rows
    prepared at = apply_all (made w.application c at) R

    made_onward : (at : Option RecordValue) → R.record_at c ≡ at → Onward R (prepared at) × ((prepared at).record_at c ≡ Some (record_or_new w.application at))
    made_onward (Some r) e = ((λ b v. v), e)
    made_onward None e = (
      put_onward R (prepared None) c (new_record w.application 0) refl (λ b p v. absurd (nothing b p v)),
      put_same identifier_decides c (Some (new_record w.application 0)) R.record_at c refl,
    )
      where
        nothing : (b : BlockValue) → b.chain ≡ c → VotesFor R b → ⊥
        nothing b p (inl l) = none_some (sym e ∙ (ap R.record_at (sym p) ∙ l.1))
        nothing b p (inr t) = none_some (sym e ∙ (ap R.record_at (sym p) ∙ t.1))

    -- what the row does at its target
    arrives_onward : (S : Rows) (n : NameValue) (r : RecordValue) (l : LoadValue) → S.record_at c ≡ Some r → Onward S (apply (remove_outgoing n) (apply_all (arrives R n c r l) S))
    arrives_onward S n r (opening key) e = by_state (unopened r)
      where
        by_state : (t : Bool) → Onward S (apply (remove_outgoing n) (apply_all (cond t (put_record c (with_owner key r) ∷ []) []) S))
        by_state true = same_vote S (apply (remove_outgoing n) (apply (put_record c (with_owner key r)) S)) c r (with_owner key r) refl e refl refl
        by_state false = λ b v. v
    arrives_onward S n r (sent code value) e = by_mark (R.marked (marking c (message_of n code value) minus))
      where
        by_mark : (t : Bool) → Onward S (apply (remove_outgoing n) (apply_all (cond t (remove_mark (marking c (message_of n code value) minus) ∷ []) (put_mark (marking c (message_of n code value) plus) ∷ [])) S))
        by_mark true = λ b v. v
        by_mark false = λ b v. v

  delivered_onward : (B B' : BooksValue) (n : NameValue) (d : Done) → Delivery w.application B n d → B'.rows ≡ apply_all d.operations B.rows → Onward B.rows B'.rows
  delivered_onward B B' n d u rows_are b v =
      let R = B.rows in
      let c = u.out.target in
      let r = record_or_new w.application (R.record_at c) in
      let ms = made w.application c (R.record_at c) in
      let ars = arrives R n c r u.out.load in
      let q : B'.rows ≡ apply (remove_outgoing n) (apply_all ars (apply_all ms R)) =
      rows_are ∙ (ap (λ x. apply_all x R) u.operations ∙ (apply_both (ms ++ ars) (remove_outgoing n ∷ []) R ∙ ap (apply (remove_outgoing n)) (apply_both ms ars R))) in
      let m = made_onward R c (R.record_at c) refl in
      subst (λ x. VotesFor x b) (sym q) (arrives_onward R c (apply_all ms R) n r u.out.load m.1 b (m.0 b v))

  -- ---- upload

  module _ (B B' : BooksValue) (seals : SealsValue) (frame : List ℕ) (d : Done) (u : UploadRan w.committee w.application seals B frame d)
      (rows_are : B'.rows ≡ apply_all d.operations B.rows) where
    abbrev R₁ : Rows
    R₁ = B.rows

    abbrev b₁ : BlockValue
    b₁ = u.certificate.block

    abbrev after : RecordValue
    after = with_vote (advanced (block_digest b₁) u.chain u.ran) None

    abbrev rs : List Operation
    rs = receipts b₁.chain R₁.marked (received b₁.commands)

    abbrev ps : List Operation
    ps = map put_entry u.ran.sent

    records_after : B'.rows.record_at ≡ updated same_identifier b₁.chain (Some after) R₁.record_at
    records_after =
        ap (λ (z : Rows). z.record_at)
        (rows_are ∙ (ap (λ x. apply_all x R₁) u.operations ∙ (apply_both (rs ++ ps) (put_record b₁.chain after ∷ []) R₁ ∙ ap (apply_all (put_record b₁.chain after ∷ [])) (apply_both rs ps R₁))))
        ∙ ap (updated same_identifier b₁.chain (Some after)) ((posted u.ran.sent (apply_all rs R₁)).records ∙ (receipt b₁.chain (received b₁.commands) R₁).records)

    next_was : (x : RecordValue) (c : IdentifierValue) → c ≡ b₁.chain → R₁.record_at c ≡ Some x → x.chain.next ≡ u.chain.next
    next_was x c p e = ap (λ (z : RecordValue). z.chain.next) (some_is (sym e ∙ (ap R₁.record_at p ∙ u.found.there))) ∙ ap (λ (z : ChainValue). z.next) u.found.is

    uploaded_onward : Onward R₁ B'.rows
    uploaded_onward = put_onward R₁ B'.rows b₁.chain after records_after own
      where
        own : (b : BlockValue) → b.chain ≡ b₁.chain → VotesFor R₁ b → VotesFor B'.rows b
        own b q (inl l) =
            let n : l.0.chain.next ≡ u.chain.next = next_was l.0 b.chain q l.1 in
            let k : b.height < l.0.chain.next = l.2 in
            inl (after, now_there R₁ B'.rows b₁.chain after records_after b.chain q, omega arith)
        own b q (inr t) =
            let n : t.0.chain.next ≡ u.chain.next = next_was t.0 b.chain q t.1 in
            let k : t.0.chain.next ≡ b.height = t.2 in
            inl (after, now_there R₁ B'.rows b₁.chain after records_after b.chain q, omega arith)

  -- ---- every list of calls

  module _ (es : List Event) (i : ℕ) (a : Outcome DigestValue) (B' : BooksValue) (v : Voting es) (h : w.honest i ≡ true) where
    abbrev B₀ : BooksValue
    B₀ = books w es i

    stayed : (k : Call) → ((d : DigestValue) → Proposes k → a ≡ Passed d → ⊥) → B' ≡ B₀ → Voting (ev i k a B' ∷ es)
    stayed k other e = went_on es i k a B' other v (λ b x. subst (λ (z : BooksValue). VotesFor z.rows b) (sym e) x)

    propose_next : (S : SealsValue) (frame : List ℕ) (o : Outcome Done) → propose w.committee w.application S B₀ frame ≡ o → Ends o B₀ a B'
        → DigestsDiffer (ev i (Propose S frame) a B' ∷ es) → Voting (ev i (Propose S frame) a B' ∷ es)
    propose_next S frame (Refused r) e n differ = stayed (Propose S frame) (λ d p q. refused_passed (sym n.0 ∙ q)) n.1
    propose_next S frame (Passed d) e n differ =
        subst (λ x. Voting (ev i (Propose S frame) x B' ∷ es)) (sym n.0)
        (voted_now es i S frame d B' (proposal w.committee w.application S B₀ frame d e) v h (subst (λ x. DigestsDiffer (ev i (Propose S frame) x B' ∷ es)) n.0 differ)
        (changed_rows d.operations B₀ B' n.1))

    upload_next : (S : SealsValue) (frame : List ℕ) (o : Outcome Done) → upload w.committee w.application S B₀ frame ≡ o → Ends o B₀ a B' → Voting (ev i (Upload S frame) a B' ∷ es)
    upload_next S frame (Refused r) e n = stayed (Upload S frame) (λ d p q. p) n.1
    upload_next S frame (Passed d) e n =
        went_on es i (Upload S frame) a B' (λ x p q. p) v
        (uploaded_onward B₀ B' S frame d (uploaded w.committee w.application S B₀ frame d e) (changed_rows d.operations B₀ B' n.1))

    deliver_next : (n : NameValue) (o : Outcome Done) → deliver w.application B₀ n ≡ o → Ends o B₀ a B' → Voting (ev i (Deliver n) a B' ∷ es)
    deliver_next n (Refused r) e x = stayed (Deliver n) (λ d p q. p) x.1
    deliver_next n (Passed d) e x =
        went_on es i (Deliver n) a B' (λ y p q. p) v (delivered_onward B₀ B' n d (delivered w.application B₀ n d e) (changed_rows d.operations B₀ B' x.1))

    next : (k : Call) → Ends (outcome w k B₀) B₀ a B' → DigestsDiffer (ev i k a B' ∷ es) → Voting (ev i k a B' ∷ es)
    next (Propose S frame) n differ = propose_next S frame (propose w.committee w.application S B₀ frame) refl n differ
    next (Upload S frame) n differ = upload_next S frame (upload w.committee w.application S B₀ frame) refl n
    next (Deliver x) n differ = deliver_next x (deliver w.application B₀ x) refl n

  pub all_vote : (es : List Event) → Run w es → DigestsDiffer es → Voting es
  all_vote [] r differ = record { votes = λ i b h p. absurd p.among; one_vote = λ i b b' h p q x y. absurd p.among }
  all_vote (e ∷ es) r differ = next es e.at e.answer e.after (all_vote es r.3 (λ x y p q. differ x y (inr p) (inr q))) r.0 e.call r.1 differ

pub votes_are_one : VotesAreOne
votes_are_one w es r differ e e' j j' same p p' d d' a a' b b' q q' chain height =
    let x = voted_block w es r e.at d (e, j, refl, p, a) in
    let x' = voted_block w es r e.at d' (e', j', sym same, p', a') in
    let is : x.0 ≡ b = some_is (sym x.2.0.block_is ∙ (ap (λ (z : Event). block_in_call z.call) x.2.1 ∙ q)) in
    let is' : x'.0 ≡ b' = some_is (sym x'.2.0.block_is ∙ (ap (λ (z : Event). block_in_call z.call) x'.2.1 ∙ q')) in
    let one = (all_vote w es r differ).one_vote e.at x.0 x'.0 (run_honest w es r e j) x.2.0 x'.2.0
    (ap (λ (z : BlockValue). z.chain) is ∙ (chain ∙ ap (λ (z : BlockValue). z.chain) (sym is')))
    (ap (λ (z : BlockValue). z.height) is ∙ (height ∙ ap (λ (z : BlockValue). z.height) (sym is'))) in
    sym is ∙ (one ∙ is')
