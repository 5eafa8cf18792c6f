-- A request whose frame was read, or refused.
use Rattle.std.proofs.Common.{◌≡◌, ℕ, ◌+◌, ◌^◌, ◌<◌, true, eqb, List, length, take, drop, sym, refl, ap, ◌∙◌, subst, arith, length-take}
use Rattle.std.proofs.lemmas.Bool.{eqb-true}
use Rattle.format.specs.Values.{DigestValue, BlockValue}
use Rattle.format.specs.Outcomes.{RefusalValue, refusal, Outcome, Refused, Passed, ◌>>=◌, ◌>>◌, check}
use Rattle.committee.specs.Rules.{CommitteeValue, committee_allowed}
use Rattle.books.specs.Books.{BooksValue}
use Rattle.reading.specs.FrameLayout.{block_at, request_marker}
use Rattle.reading.specs.Blocks.{frame_refusal, block_in}
use Rattle.reading.specs.Frames.{RequestValue, block_len, begins, request_in}
use Rattle.applications.specs.Steps.{ApplicationValue}
use Rattle.protocol.specs.Reads.{SealsValue, RequestRead, read_request}
use Rattle.protocol.specs.Calls.{Ends, considered, propose}
use Rattle.protocol.proofs.Outcomes.{check_passed, passed_is}
use Rattle.blocks.specs.Proposing.{request_proposed}

-- the block's place in the frame
pub request_place : (w : ℕ) (f : List ℕ) (q : RequestValue) → Passed q ≡ request_in w f → length f < 2 ^ 64 → q.block.0 + length q.block.1 < 2 ^ 64
unfolding request_in
request_place w f q e long =
    let p = check_passed (begins request_marker f) frame_refusal _ q (sym e) in
    let r = check_passed (eqb (length f) (block_at + block_len f + w)) frame_refusal _ q p.1 in
    let fill : length f ≡ block_at + block_len f + w = eqb-true _ _ r.0 in
    let cut : length (take (block_len f) (drop block_at f)) ≡ _ = length-take (block_len f) (drop block_at f) in
    let P : RequestValue → Type 0 = λ z. z.block.0 + length z.block.1 < 2 ^ 64 in
    subst P (passed_is r.1) (omega arith)

module _ (C : CommitteeValue) (A : ApplicationValue) (S : SealsValue) (B : BooksValue) (f : List ℕ) (allowed : committee_allowed C ≡ true) where
  after_reading : (q : RequestValue) (o : Outcome BlockValue) → ((o >>= λ b. Passed (record { block = b; seal = q.seal.1 })) >>= λ (x : RequestRead). considered C A S B x.block x.seal) ≡ (o >>= λ b. considered C A S B b q.seal.1)
  after_reading q (Refused e) = refl
  after_reading q (Passed b) = refl

  abbrev read_in : Outcome RequestValue → Outcome RequestRead
  read_in o = o >>= λ q. block_in q.block.1 >>= λ b. Passed (record { block = b; seal = q.seal.1 })

  reads : read_request S.width f ≡ read_in (request_in S.width f)
  unfolding read_request
  reads = refl

  unread : propose C A S B f ≡ (read_in (request_in S.width f) >>= λ x. considered C A S B x.block x.seal)
  unread = ap (λ t. check t (refusal 21) >> (read_request S.width f >>= λ x. considered C A S B x.block x.seal)) allowed ∙ ap (λ o. o >>= λ x. considered C A S B x.block x.seal) reads

  pub frame_refused : (e : RefusalValue) → Refused e ≡ request_in S.width f → Ends (propose C A S B f) B (Refused e) B
  frame_refused e q = subst (λ o. Ends o B (Refused e) B) (sym (unread ∙ ap (λ o. read_in o >>= λ x. considered C A S B x.block x.seal) (sym q))) (refl, refl)

  pub frame_read : (q : RequestValue) (a : Outcome DigestValue) (B' : BooksValue) → Passed q ≡ request_in S.width f → Ends (request_proposed C A S B q) B a B' → Ends (propose C A S B f) B a B'
  frame_read q a B' e h =
      subst (λ o. Ends o B a B') (sym (unread ∙ (ap (λ o. read_in o >>= λ x. considered C A S B x.block x.seal) (sym e) ∙ after_reading q (block_in q.block.1)))) h
