-- The calls taken apart: what holds where one is accepted.
use Rattle.std.proofs.Common.{◌≡◌, ℕ, ◌≤◌, true, false, not, eqb, leb, List, [], ◌∷◌, ◌++◌, length, Some, None, Option, sym, refl, ap, ◌∙◌, subst, le_antisymm}
use Rattle.std.proofs.lemmas.Bool.{leb-true, or_parts, not-true, eq-eqb}
use Rattle.format.specs.Values.{NameValue, BlockValue}
use Rattle.format.specs.Same.{same_digest}
use Rattle.format.proofs.Same.{digest_decides}
use Rattle.format.specs.Outcomes.{refusal, Passed, given}
use Rattle.committee.specs.Rules.{CommitteeValue, committee_allowed}
use Rattle.committee.specs.Weights.{quorum_weight}
use Rattle.books.specs.Values.{ChainValue, RecordValue, OutgoingValue}
use Rattle.books.specs.Lists.{any}
use Rattle.books.specs.Books.{Rows, BooksValue, Operation, put_record, remove_outgoing, puts, apply, apply_all, needed}
use Rattle.books.specs.declared.side.Side.TheVariants.{All}
use Rattle.applications.specs.Steps.{ApplicationValue}
use Rattle.protocol.specs.Reads.{SealsValue, RequestRead, CertificateRead, block_digest, read_request, read_certificate}
use Rattle.protocol.specs.Execution.{Ran, executed, advanced}
use Rattle.protocol.specs.Calls.{Done, owned, in_turn, chain_in, with_vote, block_receipts, vote_in, votes_at_most, minus_remains, votes_weight, certified, block_operations, arrival, roots_allowed, roots_fit, root_records, propose, upload, deliver, start}
use Rattle.agreement.proofs.Basics.{refused_passed, passed_is, bind_passed, then_passed, check_holds, check_passed, given_passed, true_false}

-- a record with an owner
pub record Owned (at : Option RecordValue) (r : ChainValue) : Type 0 where
  pub row : RecordValue
  pub there : at ≡ Some row
  pub is : row.chain ≡ r
  pub passes : owned (Some r) ≡ Passed r
  pub owner : ¬ (r.owner ≡ 0)

pub owned_is : (at : Option RecordValue) (r : ChainValue) → owned (chain_in at) ≡ Passed r → Owned at r
owned_is None r e = absurd (refused_passed e)
owned_is (Some x) r e =
    let h = check_passed (not (eqb x.chain.owner 0)) (refusal 7) (Passed x.chain) r e in
    let q = passed_is h.1 in
    record {
      row = x;
      there = refl;
      is = q;
      passes = subst (λ y. owned (Some y) ≡ Passed y) q (e ∙ ap Passed (sym q));
      owner = subst (λ y. ¬ (y.owner ≡ 0)) q (λ z. true_false (sym (eq-eqb x.chain.owner 0 z) ∙ not-true (eqb x.chain.owner 0) h.0));
    }

pub in_turn_is : (r : ChainValue) (b : BlockValue) (x : Unit {0}) → in_turn r b ≡ Passed x → (b.height ≡ r.next) × (b.previous ≡ r.digest)
in_turn_is r b x e =
    let p = check_passed (leb b.height r.next) (refusal 9) _ x e in
    let q = check_passed (leb r.next b.height) (refusal 10) _ x p.1 in (
      le_antisymm (leb-true _ _ p.0) (leb-true _ _ q.0),
      (digest_decides b.previous r.digest).0 (check_holds (same_digest b.previous r.digest) (refusal 11) x q.1),
    )

module _ (C : CommitteeValue) (A : ApplicationValue) (S : SealsValue) (B : BooksValue) (frame : List ℕ) (d : Done) where
  pub record Proposal : Type 0 where
    pub request : RequestRead
    pub reads : read_request S.width frame ≡ Passed request
    pub chain : ChainValue
    pub found : Owned (B.rows.record_at request.block.chain) chain
    pub height : request.block.height ≡ chain.next
    pub votes : votes_at_most (block_digest request.block) (vote_in (B.rows.record_at request.block.chain)) ≡ true
    pub no_puts : any puts (block_receipts B request.block) ≡ false
    pub digest : d.digest ≡ block_digest request.block
    pub operations : d.operations ≡ put_record request.block.chain (with_vote chain (Some (block_digest request.block))) ∷ []

  pub proposal : propose C A S B frame ≡ Passed d → Proposal
  proposal e =
      let e1 = check_passed (committee_allowed C) (refusal 21) _ d e in
      let q = bind_passed (read_request S.width frame) _ d e1.1 in
      let b = q.0.block in
      let at = B.rows.record_at b.chain in
      let o = bind_passed (owned (chain_in at)) _ d q.2 in
      let e2 = check_passed (S.holds o.0.owner (block_digest b) q.0.seal) (refusal 8) _ d o.2 in
      let e3 = then_passed (in_turn o.0 b) _ d e2.1 in
      let e4 = check_passed (votes_at_most (block_digest b) (vote_in at)) (refusal 12) _ d e3.1 in
      let e5 = bind_passed (executed C A o.0 b) _ d e4.1 in
      let e6 = check_passed (not (minus_remains B b)) (refusal 18) _ d e5.2 in
      let f = passed_is e6.1 in
      record {
        request = q.0;
        reads = q.1;
        chain = o.0;
        found = owned_is at o.0 o.1;
        height = (in_turn_is o.0 b e3.0.0 e3.0.1).0;
        votes = e4.0;
        no_puts = (or_parts (B.owing b.chain) (any puts (block_receipts B b)) (not-true (minus_remains B b) e6.0)).1;
        digest = ap (λ (x : Done). x.digest) (sym f);
        operations = ap (λ (x : Done). x.operations) (sym f);
      }

  pub record UploadRan : Type 0 where
    pub certificate : CertificateRead
    pub reads : read_certificate S.width frame ≡ Passed certificate
    pub allowed : committee_allowed C ≡ true
    pub weight : ℕ
    pub weighs : votes_weight C S (block_digest certificate.block) 0 0 certificate.votes ≡ Passed weight
    pub enough : quorum_weight C ≤ weight
    pub chain : ChainValue
    pub found : Owned (B.rows.record_at certificate.block.chain) chain
    pub turn : (x : Unit {0}) × (in_turn chain certificate.block ≡ Passed x)
    pub height : certificate.block.height ≡ chain.next
    pub ran : Ran
    pub runs : executed C A chain certificate.block ≡ Passed ran
    pub digest : d.digest ≡ block_digest certificate.block
    pub operations : d.operations
        ≡ block_operations B certificate.block ran
        ++ (put_record certificate.block.chain (with_vote (advanced (block_digest certificate.block) chain ran) None) ∷ [])

  pub uploaded : upload C A S B frame ≡ Passed d → UploadRan
  uploaded e =
      let e1 = check_passed (committee_allowed C) (refusal 21) _ d e in
      let q = bind_passed (read_certificate S.width frame) _ d e1.1 in
      let b = q.0.block in
      let at = B.rows.record_at b.chain in
      let c = then_passed (certified C S (block_digest b) q.0.votes) _ d q.2 in
      let w = bind_passed (votes_weight C S (block_digest b) 0 0 q.0.votes) _ c.0.0 c.0.1 in
      let o = bind_passed (owned (chain_in at)) _ d c.1 in
      let e3 = then_passed (in_turn o.0 b) _ d o.2 in
      let e5 = bind_passed (executed C A o.0 b) _ d e3.1 in
      let e6 = check_passed (B.fits b.chain (needed B.rows (block_operations B b e5.0))) (refusal 19) _ d e5.2 in
      let f = passed_is e6.1 in
      record {
        certificate = q.0;
        reads = q.1;
        allowed = e1.0;
        weight = w.0;
        weighs = w.1;
        enough = leb-true _ _ (check_holds (leb (quorum_weight C) w.0) (refusal 6) c.0.0 w.2);
        chain = o.0;
        found = owned_is at o.0 o.1;
        turn = e3.0;
        height = (in_turn_is o.0 b e3.0.0 e3.0.1).0;
        ran = e5.0;
        runs = e5.1;
        digest = ap (λ (x : Done). x.digest) (sym f);
        operations = ap (λ (x : Done). x.operations) (sym f);
      }

module _ (A : ApplicationValue) (B : BooksValue) (n : NameValue) (d : Done) where
  pub record Delivery : Type 0 where
    pub out : OutgoingValue
    pub there : B.rows.outgoing_at n ≡ Some out
    pub operations : d.operations ≡ arrival A B.rows n out ++ (remove_outgoing n ∷ [])

  pub delivered : deliver A B n ≡ Passed d → Delivery
  delivered e =
      let g = bind_passed (given (B.rows.outgoing_at n) (refusal 20)) _ d e in
      let o = g.0 in
      let e1 = check_passed (B.fits o.target (needed B.rows (arrival A B.rows n o))) (refusal 19) _ d g.2 in
      record {
        out = o;
        there = given_passed (B.rows.outgoing_at n) (refusal 20) o g.1;
        operations = ap (λ (x : Done). x.operations) (sym (passed_is e1.1));
      }

pub started_is : (C : CommitteeValue) (A : ApplicationValue) (roots : List ℕ) (B : BooksValue) (d : Done) → start C A roots B ≡ Passed d
    → (B.blank All ≡ true) × (d.operations ≡ root_records A 0 roots)
started_is C A roots B d e =
    let e1 = check_passed (committee_allowed C) (refusal 21) _ d e in
    let e2 = check_passed (roots_allowed C roots) (refusal 22) _ d e1.1 in
    let e3 = check_passed (B.blank All) (refusal 23) _ d e2.1 in
    let e4 = check_passed (roots_fit B (length roots) 0 roots) (refusal 19) _ d e3.1 in
    (e3.0, ap (λ (x : Done). x.operations) (sym (passed_is e4.1)))

pub apply_both : (xs ys : List Operation) (R : Rows) → apply_all (xs ++ ys) R ≡ apply_all ys (apply_all xs R)
apply_both [] ys R = refl
apply_both (x ∷ xs) ys R = apply_both xs ys (apply x R)
