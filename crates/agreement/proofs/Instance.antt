-- A run of five calls: members 0, 1 and 2 of four vote for an empty block of chain [0], and 0 and 1 accept it.
use Rattle.std.proofs.Common.{◌≡◌, ℕ, Bool, true, false, ltb, List, [], ◌∷◌, ◌++◌, replicate, pos, Some, None, codes, sym, refl, ap, ◌∙◌, subst, inl, inr, arith}
use Rattle.std.proofs.lemmas.Bool.{cond-true}
use Rattle.format.specs.Values.{IdentifierValue, DigestValue, BlockValue}
use Rattle.format.specs.Rules.{zero_digest, head_allowed}
use Rattle.format.specs.Outcomes.{Outcome, Passed}
use Rattle.committee.specs.Rules.{CommitteeValue}
use Rattle.applications.specs.Steps.{Refuses, ApplicationValue}
use Rattle.books.specs.Values.{RecordValue}
use Rattle.books.specs.Books.{Rows, BooksValue, Laws, put_record, apply, present, Changed}
use Rattle.reading.specs.Frames.{VoteValue, request_in, certificate_in}
use Rattle.reading.specs.Fields.{identifier_in}
use Rattle.reading.specs.Blocks.{head_in, block_in}
use Rattle.protocol.specs.Reads.{SealsValue, CertificateRead, block_digest, read_request, read_certificate}
use Rattle.protocol.specs.Calls.{Done, Ends, with_vote, fresh, new_record, root_of, propose, upload, start}
use Rattle.agreement.specs.Lists.{In}
use Rattle.agreement.specs.Blocks.{block_discrete}
use Rattle.agreement.specs.Runs.{Setting, Grounds, Propose, Upload, Event, block_of_request, block_of_certificate, block_in_call, Voted, Earned, Run, stands_in, noted}
use Rattle.agreement.specs.Instance.{AcceptingRun}
use Rattle.agreement.proofs.Basics.{true_false, passed_is, some_is}

refuser : ApplicationValue
refuser = record { start_a = pos 0; start_b = pos 0; operation = λ a b c v. Refuses 1; message = λ a b c v. Refuses 1 }

abbrev block : BlockValue
block = record { chain = 0 ∷ []; height = 0; previous = zero_digest; commands = [] }

-- identifier, height, digest, count
abbrev block_bytes : List ℕ
block_bytes = 1 ∷ replicate 43 0

abbrev request_frame : List ℕ
request_frame = codes "AUTH" ++ (0 ∷ 44 ∷ []) ++ block_bytes ++ (0 ∷ [])

abbrev certificate_frame : List ℕ
certificate_frame = codes "CERT" ++ (0 ∷ 44 ∷ []) ++ block_bytes ++ (3 ∷ 0 ∷ 0 ∷ 1 ∷ 0 ∷ 2 ∷ 0 ∷ [])

abbrev vote : ℕ → ℕ → VoteValue
vote member place = record { member = member; seal = (place, 0 ∷ []) }

request_reads : read_request 1 request_frame ≡ Passed (record { block = block; seal = 0 ∷ [] })
unfolding read_request request_in block_in head_in head_allowed identifier_in
request_reads = refl

certificate_reads : read_certificate 1 certificate_frame ≡ Passed (record { block = block; votes = vote 0 52 ∷ vote 1 54 ∷ vote 2 56 ∷ [] })
unfolding read_certificate certificate_in block_in head_in head_allowed identifier_in
certificate_reads = refl

-- seals that hold everything
abbrev seals : SealsValue
seals = record { width = 1; holds = λ k d s. true }

-- four members of weight 1
abbrev committee : CommitteeValue
committee = record { key = 1; weight = 1 } ∷ record { key = 2; weight = 1 } ∷ record { key = 3; weight = 1 } ∷ record { key = 4; weight = 1 } ∷ []

-- books without a limit
abbrev roomy : Rows → Bool → BooksValue
roomy w blank = record { rows = w; fits = λ c x. true; owing = λ c. false; blank = λ s. blank }

abbrev no_rows : Rows
no_rows = record { record_at = λ c. None; marked = λ k. false; outgoing_at = λ n. None }

abbrev chain : IdentifierValue
chain = root_of 0

abbrev digest : DigestValue
digest = block_digest block

abbrev owner : ℕ
owner = 9

abbrev voted : RecordValue
voted = with_vote (fresh refuser owner) (Some digest)

abbrev ran : RecordValue
ran = with_vote (record { owner = owner; next = 1; digest = digest; a = pos 0; b = pos 0 }) None

abbrev with_record : RecordValue → Rows → Rows
with_record r w = apply (put_record chain r) w

abbrev started_rows : Rows
started_rows = with_record (new_record refuser owner) no_rows

abbrev voted_rows : Rows
voted_rows = with_record voted started_rows

abbrev ran_rows : Rows
ran_rows = with_record ran voted_rows

abbrev setting : Setting
setting = record {
  committee = committee;
  roots = owner ∷ [];
  application = refuser;
  honest = λ i. ltb i 3;
  blank = λ i. roomy no_rows true;
  started = λ i. roomy started_rows false;
}

first_put : Changed (roomy no_rows true) (put_record chain (new_record refuser owner) ∷ []) (roomy started_rows false)
first_put =
    (roomy started_rows false, record { rows = refl; places = record { taken = λ d. 1; own = refl; most = λ d. omega arith; after = λ d x. refl } }, refl)

put_over : (w : Rows) (r : RecordValue) → present w (put_record chain r) ≡ true → Changed (roomy w false) (put_record chain r ∷ []) (roomy (with_record r w) false)
put_over w r e = (roomy (with_record r w) false, record { rows = refl; places = rw e refl }, refl)

ends : (o : Outcome Done) (d : Done) (B B' : BooksValue) → o ≡ Passed d → Changed B d.operations B' → Ends o B (Passed d.digest) B'
ends o d B B' e c = subst (λ x. Ends x B (Passed d.digest) B') (sym e) (refl, c)

starts : start committee refuser (owner ∷ []) (roomy no_rows true) ≡ Passed (record { digest = zero_digest; operations = put_record chain (new_record refuser owner) ∷ [] })
unfolding refuser
starts = refl

proposes : propose committee refuser seals (roomy started_rows false) request_frame ≡ Passed (record { digest = digest; operations = put_record chain voted ∷ [] })
unfolding refuser
proposes = rw request_reads refl

uploads : upload committee refuser seals (roomy voted_rows false) certificate_frame ≡ Passed (record { digest = digest; operations = put_record chain ran ∷ [] })
unfolding refuser
uploads = rw certificate_reads refl

lawful : Laws (roomy no_rows true)
lawful = record {
  zeros_fit = λ c. refl;
  less_fits = λ c x y f e. refl;
  owes = λ c x e. absurd (true_false (sym e));
  owed = λ c e. absurd (true_false (sym e));
  blank_none = λ s e. record { no_record = λ c t. refl; no_mark = λ k t. refl; no_outgoing = λ n t. refl };
  none_blank = λ s n. refl;
}

grounds : Grounds setting
grounds = record {
  few = omega arith;
  lawful = λ i h. lawful;
  starts = λ i h. ends _ _ (roomy no_rows true) (roomy started_rows false) starts first_put;
}

-- ---- the five calls

abbrev votes : ℕ → Event
votes i = record { at = i; call = Propose seals request_frame; answer = Passed digest; after = roomy voted_rows false }

abbrev runs_block : ℕ → Event
runs_block i = record { at = i; call = Upload seals certificate_frame; answer = Passed digest; after = roomy ran_rows false }

abbrev voting : List Event
voting = votes 2 ∷ votes 1 ∷ votes 0 ∷ []

abbrev events : List Event
events = runs_block 1 ∷ runs_block 0 ∷ voting

vote_ends : Ends (propose committee refuser seals (roomy started_rows false) request_frame) (roomy started_rows false) (Passed digest) (roomy voted_rows false)
vote_ends = ends _ _ (roomy started_rows false) (roomy voted_rows false) proposes (put_over started_rows voted refl)

run_ends : Ends (upload committee refuser seals (roomy voted_rows false) certificate_frame) (roomy voted_rows false) (Passed digest) (roomy ran_rows false)
run_ends = ends _ _ (roomy voted_rows false) (roomy ran_rows false) uploads (put_over voted_rows ran refl)

-- each seal of the certificate is of a member that voted
earned : (es : List Event) → In (votes 0) es → In (votes 1) es → In (votes 2) es → Earned setting es (Upload seals certificate_frame)
earned es zero one two q e v i m there honest holds =
    let same : record { block = block; votes = vote 0 52 ∷ vote 1 54 ∷ vote 2 56 ∷ [] } ≡ q = passed_is (sym certificate_reads ∙ e) in
    subst (λ (z : CertificateRead). Voted es v.member (block_digest z.block)) same
    (by_member (subst (λ (z : CertificateRead). In v z.votes) (sym same) i))
  where
    voted_at : (j : ℕ) → v.member ≡ j → In (votes j) es → Voted es v.member digest
    voted_at j p k = (votes j, k, sym p, tt, refl)

    by_member : In v (vote 0 52 ∷ vote 1 54 ∷ vote 2 56 ∷ []) → Voted es v.member digest
    by_member (inl p) = voted_at 0 (ap (λ (z : VoteValue). z.member) p) zero
    by_member (inr (inl p)) = voted_at 1 (ap (λ (z : VoteValue). z.member) p) one
    by_member (inr (inr (inl p))) = voted_at 2 (ap (λ (z : VoteValue). z.member) p) two
    by_member (inr (inr (inr k))) = absurd k

runs : Run setting events
runs = (
  refl,
  run_ends,
  earned (runs_block 0 ∷ voting) (inr (inr (inr (inl refl)))) (inr (inr (inl refl))) (inr (inl refl)),
  (
    refl,
    run_ends,
    earned voting (inr (inr (inl refl))) (inr (inl refl)) (inl refl),
    (refl, vote_ends, tt, (refl, vote_ends, tt, (refl, vote_ends, tt, tt))),
  ),
)

vote_block : (i : ℕ) → block_in_call (votes i).call ≡ Some block
vote_block i = ap block_of_request request_reads

run_block : (i : ℕ) → block_in_call (runs_block i).call ≡ Some block
run_block i = ap block_of_certificate certificate_reads

-- every frame holds the block
one_block : (e : Event) (b : BlockValue) → In e events → block_in_call e.call ≡ Some b → b ≡ block
one_block e b i f = some_is (sym f ∙ (by_event i))
  where
    there : (x : Event) → e ≡ x → block_in_call x.call ≡ Some block → block_in_call e.call ≡ Some block
    there x p q = ap (λ (z : Event). block_in_call z.call) p ∙ q

    by_event : In e events → block_in_call e.call ≡ Some block
    by_event (inl p) = there (runs_block 1) p (run_block 1)
    by_event (inr (inl p)) = there (runs_block 0) p (run_block 0)
    by_event (inr (inr (inl p))) = there (votes 2) p (vote_block 2)
    by_event (inr (inr (inr (inl p)))) = there (votes 1) p (vote_block 1)
    by_event (inr (inr (inr (inr (inl p))))) = there (votes 0) p (vote_block 0)
    by_event (inr (inr (inr (inr (inr k))))) = absurd k

stands_first : (d : Dec (block ≡ block)) → elim d [ yes p ↦ true | no p ↦ stands_in block [] ] ≡ true
stands_first (yes p) = refl
stands_first (no n) = absurd (n refl)

noted_once : noted (Some block) (noted (Some block) []) ≡ block ∷ []
noted_once = cond-true _ (block ∷ []) (block ∷ block ∷ []) (stands_first (block_discrete block block))

pub accepting_run : AcceptingRun
accepting_run = record {
  setting = setting;
  grounds = grounds;
  dishonest = refl;
  events = events;
  runs = runs;
  differ = λ e e' i i' b b' p p' q. one_block e b i p ∙ sym (one_block e' b' i' p');
  block = block;
  first = record { event = runs_block 0; among = inr (inl refl); member = refl; block = run_block 0 };
  second = record { event = runs_block 1; among = inl refl; member = refl; block = run_block 1 };
  history = ap (λ o. noted o (noted o [])) (run_block 0) ∙ noted_once;
}
