-- Each call keeps what holds.
use Rattle.std.proofs.Common.{◌≡◌, ℕ, ◌<◌, ◌≤◌, Bool, true, false, cond, eqb, ◌⊎◌, List, [], ◌∷◌, ◌++◌, map, Some, None, Option, sym, refl, ap, ◌∙◌, subst, inl, inr, ⊎_elim, arith}
use mathlib.Core.List.{head-eq_of_cons-eq, tail-eq_of_cons-eq}
use Rattle.std.proofs.lemmas.Bool.{cond-true, cond-false, and_parts, eqb-true}
use Rattle.format.specs.Values.{IdentifierValue, DigestValue, NameValue, MessageValue, BlockValue}
use Rattle.format.specs.Same.{same_identifier}
use Rattle.format.proofs.Same.{identifier_decides}
use Rattle.format.specs.Outcomes.{RefusalValue, Outcome, Refused, Passed, ◌>>=◌, ◌>>◌}
use Rattle.committee.specs.Weights.{quorum_weight}
use Rattle.committee.proofs.Weights.{has_weight}
use Rattle.books.specs.Values.{ChainValue, RecordValue, plus, minus, marking, LoadValue, opening, sent, OutgoingValue}
use Rattle.books.specs.Books.{Rows, BooksValue, Operation, put_record, put_mark, remove_mark, remove_outgoing, updated, apply, apply_all}
use Rattle.protocol.specs.Reads.{SealsValue, block_digest}
use Rattle.protocol.specs.Execution.{Ran, executed, advanced, received}
use Rattle.protocol.specs.Calls.{Done, owned, in_turn, fresh, receipts, put_entry, made, record_or_new, arrives, unopened, with_owner, with_vote, message_of}
use Rattle.agreement.specs.Lists.{In, Once}
use Rattle.agreement.specs.Blocks.{numbers_discrete}
use Rattle.agreement.specs.Ledger.{Ledger, Parcel, admitted, settled, taken, withdrawn, with_children, parcels}
use Rattle.agreement.specs.Runs.{Setting, Grounds, Call, Propose, Upload, Deliver, Event, books, block_of_certificate, Proposes, Earned, Run, DigestsDiffer, stands_in, noted}
use Rattle.agreement.specs.Agreement.{ledger_of, received_by}
use Rattle.agreement.proofs.Basics.{refused_passed, passed_is, some_is, put_same, put_other, same_cond, other_cond, once_both}
use Rattle.agreement.proofs.Quorum.{share, signers, signed, weighs}
use Rattle.agreement.proofs.CallFacts.{Proposal, UploadRan, Delivery, apply_both}
use Rattle.agreement.proofs.Growth.{Part, part_tail, part_of_in, Grown}
use Rattle.agreement.proofs.History.{Takes, At, SentIn, step, takes_part, in_past, past_in, in_pool, at_now, at_one, withdrawn_found}
use Rattle.agreement.proofs.Marks.{no_puts, receipt, posted}
use Rattle.agreement.proofs.Following.{Below, Follows, Known, Carried, SameHeight, history_more, rerecorded, opening_gone, plus_arrives, minus_arrives, accepted_follows}
use Rattle.agreement.proofs.Votes.{ev, books_cases, Proposed, Voting, voted_block, no_new_vote, which}
use Rattle.agreement.proofs.Invariant.{received_there, member_in, member_not, Justified, justified_more, Backed, backed_more, Holds, backed_one}

module _ (w : Setting) where
  -- a call that is no accepted propose, after which the history is bs'
  module _ (es : List Event) (bs bs' : List BlockValue) (i : ℕ) (k : Call) (a : Outcome DigestValue) (B : BooksValue) (v : Holds w es bs) where
    pub moved :
        ((d : DigestValue) → Proposes k → a ≡ Passed d → ⊥)
        → Takes w bs' → ((R : Rows) → Follows w bs R → Follows w bs' R) → Follows w bs' B.rows
        → ((b : BlockValue) → Justified w bs b → Justified w bs' b) → ((b : BlockValue) → In b bs' → Backed w es b)
        → ((b : BlockValue) (earlier : List BlockValue) → Part (b ∷ earlier) bs' → (m : MessageValue) → In m (received b.commands) → SentIn w earlier b.chain m)
        → ((c : IdentifierValue) → Once (received_by c bs')) → Holds w (ev i k a B ∷ es) bs'
    moved other takes else-where mine just backed earlier once =
        record {
          takes = takes;
          follows = λ j h. ⊎_elim (λ p. subst (λ (x : BooksValue). Follows w bs' x.rows) (sym p.1) mine)
              (λ p. subst (λ (x : BooksValue). Follows w bs' x.rows) (sym p.1) (else-where (books w es j).rows (v.follows j h))) (books_cases w i k a B es j);
          justified = λ j b h p. just b (v.justified j b h (no_new_vote w es i k a B other j b p));
          backed = λ b n. backed_more w (ev i k a B) es b (backed b n);
          sent_earlier = earlier;
          received_once = once;
        }

  -- a refused call
  pub refused : (es : List Event) (bs : List BlockValue) (i : ℕ) (k : Call) (r : RefusalValue) → Holds w es bs → w.honest i ≡ true
      → Holds w (ev i k (Refused r) (books w es i) ∷ es) bs
  refused es bs i k r v h =
      moved es bs bs i k (Refused r) (books w es i) v (λ d p q. refused_passed q) v.takes (λ R f. f) (v.follows i h) (λ b j. j) v.backed
      v.sent_earlier v.received_once

  -- ---- propose

  module _ (es : List Event) (bs : List BlockValue) (i : ℕ) (seals : SealsValue) (frame : List ℕ) (d : Done) (B' : BooksValue) (v : Holds w es bs) (h : w.honest i ≡ true)
      (differ : DigestsDiffer (ev i (Propose seals frame) (Passed d.digest) B' ∷ es))
      (u : Proposal w.committee w.application seals (books w es i) frame d)
      (rows_are : B'.rows ≡ apply_all d.operations (books w es i).rows) where
    abbrev e₀ : Event
    e₀ = ev i (Propose seals frame) (Passed d.digest) B'

    abbrev R : Rows
    R = (books w es i).rows

    abbrev b₀ : BlockValue
    b₀ = u.request.block

    abbrev d₀ : DigestValue
    d₀ = block_digest b₀

    abbrev row : RecordValue
    row = u.found.row

    abbrev voted : RecordValue
    voted = with_vote u.chain (Some d₀)

    rows_now : B'.rows ≡ apply (put_record b₀.chain voted) R
    rows_now = rows_are ∙ ap (λ x. apply_all x R) u.operations

    same_height : SameHeight w (R.record_at b₀.chain) voted
    same_height = subst (λ o. SameHeight w o voted) (sym u.found.there) (ap (λ (z : ChainValue). z.next) (sym u.found.is))

    -- the record was the ledger's
    was_at : At w bs b₀.chain u.chain
    was_at = ⊎_elim
        (λ p. absurd (u.found.owner (ap (λ (z : ChainValue). z.owner) (sym u.found.is ∙ p))))
        (λ a. subst (λ x. At w bs b₀.chain x) u.found.is a)
        ((v.follows i h).known b₀.chain row u.found.there)

    follows_now : Follows w bs B'.rows
    follows_now = subst (λ x. Follows w bs x) (sym rows_now) (rerecorded w R b₀.chain voted same_height bs (inr was_at) (v.follows i h))

    below_row : (n : ℕ) → n < b₀.height → Below R b₀.chain n
    below_row n l =
        let p : b₀.height ≡ u.chain.next = u.height in
        let q : row.chain.next ≡ u.chain.next = ap (λ (z : ChainValue). z.next) u.found.is in
        (row, u.found.there, omega arith)

    justified_now : Justified w bs b₀
    justified_now =
        let q = no_puts b₀.chain (received b₀.commands) R.marked u.no_puts in
        let f = v.follows i h in
        record {
          once = q.0;
          sent = λ m j. (f.plus_is b₀.chain m (q.1 m j)).0;
          new = λ m j x k p l. (f.plus_is b₀.chain m (q.1 m j)).1 x k p (below_row x.height l);
          reached = let g = at_now w bs v.takes b₀.chain u.chain was_at in (g.0, g.1, further g.0 g.2);
        }
      where
        further : (y : ChainValue) → Grown u.chain y → b₀.height ≤ y.next
        further y (inl p) = let q : b₀.height ≡ u.chain.next = u.height in let s : u.chain.next ≡ y.next = ap (λ (z : ChainValue). z.next) p in omega arith
        further y (inr l) = let q : b₀.height ≡ u.chain.next = u.height in omega arith

    pub proposed_holds : Holds w (e₀ ∷ es) bs
    proposed_holds =
        record {
          takes = v.takes;
          follows = λ j g. ⊎_elim (λ p. subst (λ (x : BooksValue). Follows w bs x.rows) (sym p.1) follows_now)
              (λ p. subst (λ (x : BooksValue). Follows w bs x.rows) (sym p.1) (v.follows j g)) (books_cases w i (Propose seals frame) (Passed d.digest) B' es j);
          justified = λ j b g p. ⊎_elim (λ q. subst (λ x. Justified w bs x) (sym q.1) justified_now) (λ q. v.justified j b g q) (which w es i seals frame d B' u j b p);
          backed = λ b n. backed_more w e₀ es b (v.backed b n);
          sent_earlier = v.sent_earlier;
          received_once = v.received_once;
        }

  -- ---- deliver

  module _ (es : List Event) (bs : List BlockValue) (i : ℕ) (n : NameValue) (d : Done) (B' : BooksValue) (v : Holds w es bs) (h : w.honest i ≡ true)
      (u : Delivery w.application (books w es i) n d)
      (rows_are : B'.rows ≡ apply_all d.operations (books w es i).rows) where
    abbrev S₀ : Rows
    S₀ = (books w es i).rows

    abbrev t₀ : IdentifierValue
    t₀ = u.out.target

    -- the rows with the target's record
    record Prepared (S : Rows) : Type 0 where
      follows : Follows w bs S
      marks : S.marked ≡ S₀.marked
      outgoing : S.outgoing_at ≡ S₀.outgoing_at
      there : S.record_at t₀ ≡ Some (record_or_new w.application (S₀.record_at t₀))

    prepared : (o : Option RecordValue) → S₀.record_at t₀ ≡ o → Prepared (apply_all (made w.application t₀ (S₀.record_at t₀)) S₀)
    prepared (Some r) e =
        subst (λ o. Prepared (apply_all (made w.application t₀ o) S₀)) (sym e)
        (record { follows = v.follows i h; marks = refl; outgoing = refl; there = e ∙ ap (λ o. Some (record_or_new w.application o)) (sym e) })
    prepared None e =
        subst (λ o. Prepared (apply_all (made w.application t₀ o) S₀)) (sym e)
        (record {
          follows = rerecorded w S₀ t₀ new_one (subst (λ o. SameHeight w o new_one) (sym e) refl) bs (inl refl) (v.follows i h);
          marks = refl;
          outgoing = refl;
          there = put_same identifier_decides t₀ (Some new_one) S₀.record_at t₀ refl ∙ ap (λ o. Some (record_or_new w.application o)) (sym e);
        })
      where
        new_one : RecordValue
        new_one = with_vote (fresh w.application 0) None

    arrived : (S : Rows) → Prepared S → (l : LoadValue) → u.out.load ≡ l
        → Follows w bs (apply (remove_outgoing n) (apply_all (arrives S₀ n t₀ (record_or_new w.application (S₀.record_at t₀)) l) S))
    arrived S p (opening key) e = go (unopened r) refl
      where
        r : RecordValue
        r = record_or_new w.application (S₀.record_at t₀)

        f : Follows w bs S
        f = p.follows

        out_there : S.outgoing_at n ≡ Some u.out
        out_there = ap (λ (g : NameValue → Option OutgoingValue). g n) p.outgoing ∙ u.there

        opened_at : At w bs t₀ (fresh w.application key)
        opened_at = subst (λ l. Carried w bs n t₀ l) e (f.out_is n u.out out_there).1

        S1 : Rows
        S1 = apply (put_record t₀ (with_owner key r)) S

        go : (t : Bool) → unopened r ≡ t → Follows w bs (apply (remove_outgoing n) (apply_all (cond (unopened r) (put_record t₀ (with_owner key r) ∷ []) []) S))
        go false x =
            subst (λ l. Follows w bs (apply (remove_outgoing n) (apply_all l S))) (sym (cond-false _ (put_record t₀ (with_owner key r) ∷ []) [] x))
            (opening_gone w bs S n u.out f out_there)
        go true x =
            subst (λ l. Follows w bs (apply (remove_outgoing n) (apply_all l S))) (sym (cond-true _ (put_record t₀ (with_owner key r) ∷ []) [] x))
            (opening_gone w bs S1 n u.out (rerecorded w S t₀ (with_owner key r) (subst (λ o. SameHeight w o (with_owner key r)) (sym p.there) refl) bs known f) out_there)
          where
            set_owner : ChainValue → ChainValue
            set_owner c = record { owner = key; next = c.next; digest = c.digest; a = c.a; b = c.b }

            at_fresh : r.chain ≡ fresh w.application 0 ⊎ At w bs t₀ r.chain → set_owner r.chain ≡ fresh w.application key
            at_fresh (inl y) = ap set_owner y
            at_fresh (inr y) = ap set_owner (at_one w bs v.takes t₀ r.chain (fresh w.application key) y opened_at (eqb-true r.chain.next 0 (and_parts (eqb r.chain.owner 0) _ x).1))

            known : Known w bs t₀ ((with_owner key r).chain)
            known = inr (subst (λ c. At w bs t₀ c) (sym (at_fresh (f.known t₀ r p.there))) opened_at)
    arrived S p (sent code value) e = go (S₀.marked (marking t₀ m minus)) refl
      where
        m : MessageValue
        m = message_of n code value

        f : Follows w bs S
        f = p.follows

        out_there : S.outgoing_at n ≡ Some u.out
        out_there = ap (λ (g : NameValue → Option OutgoingValue). g n) p.outgoing ∙ u.there

        ops : Bool → List Operation
        ops x = cond x (remove_mark (marking t₀ m minus) ∷ []) (put_mark (marking t₀ m plus) ∷ [])

        go : (x : Bool) → S₀.marked (marking t₀ m minus) ≡ x → Follows w bs (apply (remove_outgoing n) (apply_all (ops (S₀.marked (marking t₀ m minus))) S))
        go true q = subst (λ x. Follows w bs (apply (remove_outgoing n) (apply_all (ops x) S))) (sym q) (minus_arrives w bs S n u.out f out_there code value e)
        go false q =
            subst (λ x. Follows w bs (apply (remove_outgoing n) (apply_all (ops x) S))) (sym q)
            (plus_arrives w bs S n u.out f out_there code value e (ap (λ (g : _). g (marking t₀ m minus)) p.marks ∙ q))

    left_now : Follows w bs B'.rows
    left_now =
        let ms = made w.application t₀ (S₀.record_at t₀) in
        let ars = arrives S₀ n t₀ (record_or_new w.application (S₀.record_at t₀)) u.out.load in
        let q : B'.rows ≡ apply (remove_outgoing n) (apply_all ars (apply_all ms S₀)) =
        rows_are ∙ (ap (λ x. apply_all x S₀) u.operations ∙ (apply_both (ms ++ ars) (remove_outgoing n ∷ []) S₀ ∙ ap (apply (remove_outgoing n)) (apply_both ms ars S₀))) in
        subst (Follows w bs) (sym q) (arrived (apply_all ms S₀) (prepared (S₀.record_at t₀) refl) u.out.load refl)

    pub delivered_holds : (a : Outcome DigestValue) → Holds w (ev i (Deliver n) a B' ∷ es) bs
    delivered_holds a =
        moved es bs bs i (Deliver n) a B' v (λ x p q. p) v.takes (λ R f. f) left_now (λ b j. j) v.backed
        v.sent_earlier v.received_once

  -- ---- upload

  module _ (es : List Event) (bs : List BlockValue) (i : ℕ) (seals : SealsValue) (frame : List ℕ) (d : Done) (B' : BooksValue) (g : Grounds w) (vt : Voting w es) (v : Holds w es bs) (h : w.honest i ≡ true)
      (run : Run w es) (earned : Earned w es (Upload seals frame)) (differ : DigestsDiffer (ev i (Upload seals frame) (Passed d.digest) B' ∷ es))
      (u : UploadRan w.committee w.application seals (books w es i) frame d)
      (rows_are : B'.rows ≡ apply_all d.operations (books w es i).rows) where
    abbrev e₁ : Event
    e₁ = ev i (Upload seals frame) (Passed d.digest) B'

    abbrev R₁ : Rows
    R₁ = (books w es i).rows

    abbrev b₁ : BlockValue
    b₁ = u.certificate.block

    abbrev row₁ : RecordValue
    row₁ = u.found.row

    backed_now : Backed w es b₁
    backed_now =
        record {
          voters = signers u.certificate.votes;
          enough = subst (λ n. quorum_weight w.committee ≤ n) (sym (weighs w.committee seals (block_digest b₁) 0 0 u.weight u.certificate.votes u.weighs)) u.enough;
          voted = λ j p q.
              let s = signed w.committee seals (block_digest b₁) 0 0 u.weight u.certificate.votes u.weighs j p in
              let x = earned u.certificate u.reads s.0 s.1 s.3.who s.3.there (ap w.honest s.2 ∙ q) s.3.held in
              let y = voted_block w es run s.0.member (block_digest b₁) x in
              let z : y.0 ≡ b₁ = differ y.2.0.event e₁ (inr y.2.0.among) (inl refl) y.0 b₁ y.2.0.block_is (ap block_of_certificate u.reads) y.1 in
              subst (λ k. Proposed w es k b₁) s.2 (subst (λ k. Proposed w es s.0.member k) z y.2.0);
          some_one = has_weight w.committee u.allowed;
        }

    lone : (x : BlockValue) → In x bs → x.chain ≡ b₁.chain → x.height ≡ b₁.height → x ≡ b₁
    lone x j p q = backed_one w g es vt x b₁ (v.backed x j) backed_now p q

    justified_now₁ : Justified w bs b₁
    justified_now₁ =
        let s = share w.committee backed_now.voters backed_now.voters w.honest backed_now.some_one g.few backed_now.enough backed_now.enough in
        v.justified s.0 b₁ s.3 (backed_now.voted s.0 s.1 s.3)

    was_at₁ : At w bs b₁.chain row₁.chain
    was_at₁ = ⊎_elim
        (λ p. absurd (u.found.owner (ap (λ (z : ChainValue). z.owner) (sym u.found.is ∙ p))))
        (λ a. a)
        ((v.follows i h).known b₁.chain row₁ u.found.there)

    turn_is : b₁.height ≡ row₁.chain.next
    turn_is = u.height ∙ ap (λ (z : ChainValue). z.next) (sym u.found.is)

    runs_row : executed w.committee w.application row₁.chain b₁ ≡ Passed u.ran
    runs_row = subst (λ c. executed w.committee w.application c b₁ ≡ Passed u.ran) (sym u.found.is) u.runs

    ran_same : (c : ChainValue) (q : Ran) → c ≡ row₁.chain → executed w.committee w.application c b₁ ≡ Passed q → q ≡ u.ran
    ran_same c q p e = passed_is (sym e ∙ (ap (λ x. executed w.committee w.application x b₁) p ∙ runs_row))

    after_row : Rows
    after_row =
        apply (put_record b₁.chain (with_vote (advanced (block_digest b₁) row₁.chain u.ran) None))
        (apply_all (map put_entry u.ran.sent) (apply_all (receipts b₁.chain R₁.marked (received b₁.commands)) R₁))

    rows_now₁ : B'.rows ≡ after_row
    unfolding after_row
    rows_now₁ =
        let rs = receipts b₁.chain R₁.marked (received b₁.commands) in
        let ps = map put_entry u.ran.sent in
        let fin : ChainValue → List Operation = λ c. put_record b₁.chain (with_vote (advanced (block_digest b₁) c u.ran) None) ∷ [] in
        rows_are ∙ (ap (λ x. apply_all x R₁) u.operations ∙ (apply_both (rs ++ ps) (fin u.chain) R₁
        ∙ (ap (apply_all (fin u.chain)) (apply_both rs ps R₁) ∙ ap (λ c. apply_all (fin c) (apply_all ps (apply_all rs R₁))) (sym u.found.is))))

    after_rec : RecordValue
    after_rec = with_vote (advanced (block_digest b₁) row₁.chain u.ran) None

    after_own : (c : IdentifierValue) → c ≡ b₁.chain → after_row.record_at c ≡ Some after_rec
    unfolding after_row after_rec
    after_own c p =
        put_same identifier_decides b₁.chain (Some after_rec)
        (apply_all (map put_entry u.ran.sent) (apply_all (receipts b₁.chain R₁.marked (received b₁.commands)) R₁)).record_at c p

    after_other : (c : IdentifierValue) → ¬ (c ≡ b₁.chain) → after_row.record_at c ≡ R₁.record_at c
    unfolding after_row after_rec
    after_other c n =
        let Ra = apply_all (receipts b₁.chain R₁.marked (received b₁.commands)) R₁ in
        put_other identifier_decides b₁.chain (Some after_rec) (apply_all (map put_entry u.ran.sent) Ra).record_at c n
        ∙ ap (λ (f : IdentifierValue → Option RecordValue). f c) ((posted u.ran.sent Ra).records ∙ (receipt b₁.chain (received b₁.commands) R₁).records)

    -- at its first acceptance the ledger is at the block's height, with the member's record
    ledger_there : ¬ In b₁ bs → (ledger_of w bs).chains b₁.chain ≡ Some u.chain
    ledger_there absent = go now.2
      where
        now : (y : ChainValue) × ((ledger_of w bs).chains b₁.chain ≡ Some y) × Grown row₁.chain y
        now = at_now w bs v.takes b₁.chain row₁.chain was_at₁

        go : Grown row₁.chain now.0 → (ledger_of w bs).chains b₁.chain ≡ Some u.chain
        go (inl p) = now.1 ∙ ap Some (sym p ∙ u.found.is)
        go (inr l) =
            let q : b₁.height ≡ row₁.chain.next = turn_is in
            let x = past_in w bs v.takes b₁.chain b₁.height (now.0, now.1, omega arith) in
            absurd (absent (subst (λ z. In z bs) (lone x.0 x.1 x.2 x.3) x.1))

    -- every block of the chain so far stands below it
    stands_below : ¬ In b₁ bs → (x : BlockValue) → In x bs → x.chain ≡ b₁.chain → x.height < b₁.height
    stands_below absent x j p =
        let q = in_past w bs v.takes x j in
        let same : q.0 ≡ u.chain = some_is (sym q.1 ∙ (ap (ledger_of w bs).chains p ∙ ledger_there absent)) in
        let n : q.0.next ≡ u.chain.next = ap (λ (z : ChainValue). z.next) same in
        let k : b₁.height ≡ u.chain.next = u.height in
        let l : x.height < q.0.next = q.2 in
        omega arith

    first_taken : ¬ In b₁ bs → Takes w (b₁ ∷ bs)
    first_taken absent = ((after_of, taken_is), v.takes)
      where
        L : Ledger
        L = ledger_of w bs

        there : L.chains b₁.chain ≡ Some u.chain
        there = ledger_there absent

        admits : admitted w.committee w.application L b₁ ≡ Passed u.ran
        admits =
            ap (λ o. owned o >>= (λ r. in_turn r b₁ >> executed w.committee w.application r b₁)) there
            ∙ (ap (λ o. o >>= (λ r. in_turn r b₁ >> executed w.committee w.application r b₁)) u.found.passes
            ∙ (ap (λ o. o >> executed w.committee w.application u.chain b₁) u.turn.1 ∙ u.runs))

        drawn : (rest : List Parcel) × (withdrawn b₁.chain (received b₁.commands) L.pool ≡ Some rest)
        drawn = withdrawn_found b₁.chain (received b₁.commands) L.pool justified_now₁.once
            (λ m j. in_pool w bs v.takes b₁.chain m (justified_now₁.sent m j) (λ x k p. justified_now₁.new m j x k p (stands_below absent x k p)))

        after_of : Ledger
        after_of =
            record {
              chains = with_children w.application u.ran.sent (updated same_identifier b₁.chain (Some (advanced (block_digest b₁) u.chain u.ran)) L.chains);
              pool = drawn.0 ++ parcels u.ran.sent;
            }

        taken_is : taken w.committee w.application L b₁ ≡ Some after_of
        taken_is =
            ap (λ o. settled w.application L b₁ o (admitted w.committee w.application L b₁) (withdrawn b₁.chain (received b₁.commands) L.pool)) there
            ∙ (ap (λ o. settled w.application L b₁ (Some u.chain) o (withdrawn b₁.chain (received b₁.commands) L.pool)) admits
            ∙ ap (λ o. settled w.application L b₁ (Some u.chain) (Passed u.ran) o) drawn.1)

    -- the member's rows follow a history that has the block
    mine : (bs' : List BlockValue) (takes' : Takes w bs') → Follows w bs' R₁ → At w bs' b₁.chain row₁.chain → (e : List BlockValue) → Part (b₁ ∷ e) bs'
        → ((x : BlockValue) → In x bs' → x.chain ≡ b₁.chain → x.height ≡ b₁.height → x ≡ b₁) → Follows w bs' B'.rows
    unfolding after_row
    mine bs' takes' f a e part lone' =
        let T = step w b₁ e (takes_part w (b₁ ∷ e) bs' part takes') in
        let same : T.chain ≡ row₁.chain = at_one w bs' takes' b₁.chain T.chain row₁.chain (e, part_tail b₁ e bs' part, T.there) a (sym T.height ∙ turn_is) in
        subst (λ x. Follows w bs' x) (sym rows_now₁)
        (accepted_follows w bs' R₁ f takes' b₁ e part row₁ u.found.there u.ran turn_is same (ran_same T.chain T.ran same T.runs) lone')

    no_propose : (x : DigestValue) → Proposes (Upload seals frame) → Passed d.digest ≡ Passed x → ⊥
    no_propose x p q = p

    -- the block was accepted before
    again : In b₁ bs → Holds w (e₁ ∷ es) bs
    again j =
        let p = part_of_in b₁ bs j in
        moved es bs bs i (Upload seals frame) (Passed d.digest) B' v no_propose v.takes (λ R f. f)
        (mine bs v.takes (v.follows i h) was_at₁ p.0 p.1 lone) (λ b k. k) v.backed v.sent_earlier v.received_once

    -- this is its first acceptance
    first : ¬ In b₁ bs → Holds w (e₁ ∷ es) (b₁ ∷ bs)
    first absent =
        moved es bs (b₁ ∷ bs) i (Upload seals frame) (Passed d.digest) B' v no_propose takes' (λ R f. history_more w b₁ bs R takes' f)
        (mine (b₁ ∷ bs) takes' (history_more w b₁ bs R₁ takes' (v.follows i h)) (was_at₁.0, inr was_at₁.1, was_at₁.2) bs (inl refl)
        (λ x j p q. ⊎_elim (λ k. k) (λ k. lone x k p q) j))
        (λ b k. justified_more w b₁ bs b takes' k)
        (λ b j. ⊎_elim (λ p. subst (λ x. Backed w es x) (sym p) backed_now) (λ k. v.backed b k) j)
        earlier once
      where
        takes' : Takes w (b₁ ∷ bs)
        takes' = first_taken absent

        earlier : (b : BlockValue) (l : List BlockValue) → Part (b ∷ l) (b₁ ∷ bs) → (m : MessageValue) → In m (received b.commands) → SentIn w l b.chain m
        earlier b l (inl p) m j =
            let P : BlockValue → List BlockValue → Type 0 = λ x y. SentIn w y x.chain m in
            let q : b ≡ b₁ = head-eq_of_cons-eq p in
            subst (λ y. P b y) (sym (tail-eq_of_cons-eq p))
            (subst (λ x. P x bs) (sym q) (justified_now₁.sent m (subst (λ (x : BlockValue). In m (received x.commands)) q j)))
        earlier b l (inr p) m j = v.sent_earlier b l p m j

        once : (c : IdentifierValue) → Once (received_by c (b₁ ∷ bs))
        once c = go (numbers_discrete b₁.chain c)
          where
            go : Dec (b₁.chain ≡ c) → Once (received_by c (b₁ ∷ bs))
            go (no n) = subst (λ l. Once l) (sym (other_cond (identifier_decides b₁.chain c) n (received b₁.commands ++ received_by c bs) (received_by c bs))) (v.received_once c)
            go (yes p) =
                subst (λ l. Once l) (sym (same_cond (identifier_decides b₁.chain c) p (received b₁.commands ++ received_by c bs) (received_by c bs)))
                (once_both (received b₁.commands) (received_by c bs) justified_now₁.once (v.received_once c)
                (λ m j k. let x = received_there c bs m k in
                justified_now₁.new m j x.0 x.1 (x.2 ∙ sym p) (stands_below absent x.0 x.1 (x.2 ∙ sym p)) x.3))

    pub uploaded_holds : Holds w (e₁ ∷ es) (noted (Some b₁) bs)
    uploaded_holds = go (stands_in b₁ bs) refl
      where
        go : (x : Bool) → stands_in b₁ bs ≡ x → Holds w (e₁ ∷ es) (cond (stands_in b₁ bs) bs (b₁ ∷ bs))
        go true q = subst (λ x. Holds w (e₁ ∷ es) (cond x bs (b₁ ∷ bs))) (sym q) (again (member_in b₁ bs q))
        go false q = subst (λ x. Holds w (e₁ ∷ es) (cond x bs (b₁ ∷ bs))) (sym q) (first (member_not b₁ bs q))
