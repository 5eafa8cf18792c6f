-- What each call answers, and what it leaves in the books.
use Rattle.std.specs.Prelude.{◌≡◌, ℕ, zero, suc, ◌+◌, Bool, true, false, cond, not, ◌&&◌, ◌||◌, List, [], ◌∷◌, ◌++◌, map, length, ℤ, Some, None, Option, ◌==◌, nat_le}
use Rattle.std.specs.List.{list_all}
use Rattle.format.specs.Values.{IdentifierValue, DigestValue, NameValue, MessageValue, BlockValue}
use Rattle.format.specs.Rules.{zero_digest}
use Rattle.format.specs.Same.{same_digest}
use Rattle.format.specs.Outcomes.{RefusalValue, refusal, refusal_at, Outcome, Refused, Passed, ◌>>=◌, ◌>>◌, given, check}
use Rattle.committee.specs.Rules.{MemberValue, CommitteeValue, committee_allowed}
use Rattle.committee.specs.Weights.{quorum_weight}
use Rattle.reading.specs.Frames.{VoteValue}
use Rattle.books.specs.Values.{ChainValue, RecordValue, plus, minus, MarkValue, marking, LoadValue, opening, sent, OutgoingValue, EntryValue}
use Rattle.books.specs.Same.{same_mark}
use Rattle.books.specs.Counts.{counts}
use Rattle.books.specs.Lists.{any}
use Rattle.books.specs.Books.{Rows, BooksValue, Operation, put_record, put_mark, put_outgoing, remove_mark, remove_outgoing, puts, updated, Changed, needed}
use Rattle.books.specs.declared.side.Side.TheVariants.{All}
use Rattle.applications.specs.Steps.{ApplicationValue}
use Rattle.protocol.specs.Reads.{SealsValue, block_digest, read_request, read_certificate}
use Rattle.protocol.specs.Execution.{key_allowed, Ran, executed, advanced, received}

-- ---- what calls have in common

-- an accepted call: the digest that it answers, and the changes of the books in order
pub record Done : Type 0 where
  pub digest : DigestValue
  pub operations : List Operation

-- What a call with this outcome answers, and how it leaves the books. A refused call changes nothing.
abbrev pub Ends : Outcome Done → BooksValue → Outcome DigestValue → BooksValue → Type 0
Ends (Refused r) B answer B' = (answer ≡ Refused r) × (B' ≡ B)
Ends (Passed d) B answer B' = (answer ≡ Passed d.digest) × Changed B d.operations B'

-- the digest of an answer: zero where it is a refusal
abbrev pub digest_answered : Outcome DigestValue → DigestValue
digest_answered (Refused r) = zero_digest
digest_answered (Passed d) = d

-- the numbers of an answer: zeros where it is none
abbrev pub refusal_answered : Outcome DigestValue → RefusalValue
refusal_answered (Refused r) = r
refusal_answered (Passed d) = refusal 0

-- a record with an owner
abbrev pub owned : Option ChainValue → Outcome ChainValue
owned None = Refused (refusal 7)
owned (Some r) = check (not (r.owner == 0)) (refusal 7) >> Passed r

-- the block stands at the chain's next height, on its last digest
abbrev pub in_turn : ChainValue → BlockValue → Outcome (Unit {0})
in_turn r b =
    check (nat_le b.height r.next) (refusal 9) >>
    (check (nat_le r.next b.height) (refusal 10) >>
    check (same_digest b.previous r.digest) (refusal 11))

abbrev pub chain_in : Option RecordValue → Option ChainValue
chain_in None = None
chain_in (Some r) = Some r.chain

abbrev pub with_vote : ChainValue → Option DigestValue → RecordValue
with_vote c v = record { chain = c; vote = v }

-- The changes of marks by the messages that a chain receives, in order: the plus mark of a message is removed, or
-- else its minus mark is put. `marked` says which marks are there.
abbrev pub receipts : IdentifierValue → (MarkValue → Bool) → List MessageValue → List Operation
receipts c marked [] = []
receipts c marked (m ∷ ms) =
    cond (marked (marking c m plus))
    (remove_mark (marking c m plus) ∷ receipts c (updated same_mark (marking c m plus) false marked) ms)
    (put_mark (marking c m minus) ∷ receipts c (updated same_mark (marking c m minus) true marked) ms)

abbrev pub block_receipts : BooksValue → BlockValue → List Operation
block_receipts B b = receipts b.chain B.rows.marked (received b.commands)

-- ---- propose

abbrev pub vote_in : Option RecordValue → Option DigestValue
vote_in None = None
vote_in (Some r) = r.vote

-- no vote, or one for this digest
abbrev pub votes_at_most : DigestValue → Option DigestValue → Bool
votes_at_most d None = true
votes_at_most d (Some e) = same_digest e d

-- Minus marks of the chain remain after the block: one stands already, or the block puts one. A block removes none.
abbrev pub minus_remains : BooksValue → BlockValue → Bool
minus_remains B b = B.owing b.chain || any puts (block_receipts B b)

-- a request's block and its owner's seal
abbrev pub considered : CommitteeValue → ApplicationValue → SealsValue → BooksValue → BlockValue → List ℕ → Outcome Done
considered C A S B b seal =
    let d = block_digest b in
    let at = B.rows.record_at b.chain in
    owned (chain_in at) >>= λ r.
    check (S.holds r.owner d seal) (refusal 8) >>
    (in_turn r b >>
    (check (votes_at_most d (vote_in at)) (refusal 12) >>
    (executed C A r b >>= λ e.
    check (not (minus_remains B b)) (refusal 18) >>
    Passed (record { digest = d; operations = put_record b.chain (with_vote r (Some d)) ∷ [] }))))

abbrev pub propose : CommitteeValue → ApplicationValue → SealsValue → BooksValue → List ℕ → Outcome Done
propose C A S B frame =
    check (committee_allowed C) (refusal 21) >>
    (read_request S.width frame >>= λ q.
    considered C A S B q.block q.seal)

-- ---- upload

-- the member of a number
abbrev pub member_at : CommitteeValue → ℕ → Option MemberValue
member_at [] n = None
member_at (m ∷ ms) zero = Some m
member_at (m ∷ ms) (suc n) = member_at ms n

-- The weight of votes, the first at place k: each of a member of the committee, not below `least` and above the one
-- before, and held by the seals.
abbrev pub votes_weight : CommitteeValue → SealsValue → DigestValue → ℕ → ℕ → List VoteValue → Outcome ℕ
votes_weight C S d k least [] = Passed 0
votes_weight C S d k least (v ∷ vs) =
    given (member_at C v.member) (refusal_at 4 k) >>= λ m.
    check (nat_le least v.member) (refusal_at 4 k) >>
    (check (S.holds m.key d v.seal.1) (refusal_at 5 k) >>
    (votes_weight C S d (k + 1) (v.member + 1) vs >>= λ w.
    Passed (m.weight + w)))

-- the votes are the committee's and weigh a quorum
abbrev pub certified : CommitteeValue → SealsValue → DigestValue → List VoteValue → Outcome (Unit {0})
certified C S d vs =
    votes_weight C S d 0 0 vs >>= λ w.
    check (nat_le (quorum_weight C) w) (refusal 6)

abbrev pub put_entry : EntryValue → Operation
put_entry e = put_outgoing e.name e.row

-- the changes of marks and outgoing rows by a block
abbrev pub block_operations : BooksValue → BlockValue → Ran → List Operation
block_operations B b e = block_receipts B b ++ map put_entry e.sent

-- the block of a certificate that has its quorum
abbrev pub enacted : CommitteeValue → ApplicationValue → BooksValue → BlockValue → Outcome Done
enacted C A B b =
    let d = block_digest b in
    owned (chain_in (B.rows.record_at b.chain)) >>= λ r.
    in_turn r b >>
    (executed C A r b >>= λ e.
    let ops = block_operations B b e in
    check (B.fits b.chain (needed B.rows ops)) (refusal 19) >>
    Passed (record { digest = d; operations = ops ++ put_record b.chain (with_vote (advanced d r e) None) ∷ [] }))

abbrev pub upload : CommitteeValue → ApplicationValue → SealsValue → BooksValue → List ℕ → Outcome Done
upload C A S B frame =
    check (committee_allowed C) (refusal 21) >>
    (read_certificate S.width frame >>= λ q.
    certified C S (block_digest q.block) q.votes >>
    enacted C A B q.block)

-- ---- deliver

-- a new chain
abbrev pub fresh : ApplicationValue → ℕ → ChainValue
fresh A owner = record { owner = owner; next = 0; digest = zero_digest; a = A.start_a; b = A.start_b }

abbrev pub new_record : ApplicationValue → ℕ → RecordValue
new_record A owner = with_vote (fresh A owner) None

-- a missing record is made, with no owner
abbrev pub made : ApplicationValue → IdentifierValue → Option RecordValue → List Operation
made A c None = put_record c (new_record A 0) ∷ []
made A c (Some r) = []

abbrev pub record_or_new : ApplicationValue → Option RecordValue → RecordValue
record_or_new A None = new_record A 0
record_or_new A (Some r) = r

-- no owner, and no block yet
abbrev pub unopened : RecordValue → Bool
unopened r = r.chain.owner == 0 && r.chain.next == 0

abbrev pub with_owner : ℕ → RecordValue → RecordValue
with_owner key r =
    with_vote (record { owner = key; next = r.chain.next; digest = r.chain.digest; a = r.chain.a; b = r.chain.b }) r.vote

abbrev pub message_of : NameValue → ℕ → ℤ → MessageValue
message_of n code value = record { name = n; code = code; value = value }

-- What an outgoing row does at its target, whose record is r: an opening sets the owner where there is none and the
-- height is 0; a message removes its minus mark, or else puts a plus mark.
abbrev pub arrives : Rows → NameValue → IdentifierValue → RecordValue → LoadValue → List Operation
arrives w n c r (opening key) = cond (unopened r) (put_record c (with_owner key r) ∷ []) []
arrives w n c r (sent code value) =
    let m = message_of n code value in
    cond (w.marked (marking c m minus)) (remove_mark (marking c m minus) ∷ []) (put_mark (marking c m plus) ∷ [])

abbrev pub arrival : ApplicationValue → Rows → NameValue → OutgoingValue → List Operation
arrival A w n o =
    let at = w.record_at o.target in
    made A o.target at ++ arrives w n o.target (record_or_new A at) o.load

abbrev pub deliver : ApplicationValue → BooksValue → NameValue → Outcome Done
deliver A B n =
    given (B.rows.outgoing_at n) (refusal 20) >>= λ o.
    let ops = arrival A B.rows n o in
    check (B.fits o.target (needed B.rows ops)) (refusal 19) >>
    Passed (record { digest = zero_digest; operations = ops ++ remove_outgoing n ∷ [] })

-- ---- start

abbrev pub max_roots : ℕ
max_roots = 64

abbrev pub root_keys_allowed : CommitteeValue → List ℕ → Bool
root_keys_allowed C = list_all (key_allowed C)

abbrev pub roots_allowed : CommitteeValue → List ℕ → Bool
roots_allowed C roots = (nat_le 1 (length roots) && nat_le (length roots) max_roots) && root_keys_allowed C roots

-- the identifier of a root by its place
abbrev pub root_of : ℕ → IdentifierValue
root_of k = k ∷ []

-- the chain of each root, from place k on, fits n records
abbrev pub roots_fit : BooksValue → ℕ → ℕ → List ℕ → Bool
roots_fit B n k [] = true
roots_fit B n k (o ∷ os) = B.fits (root_of k) (counts n 0 0) && roots_fit B n (k + 1) os

-- the records of roots from place k on, by their owners' keys
abbrev pub root_records : ApplicationValue → ℕ → List ℕ → List Operation
root_records A k [] = []
root_records A k (o ∷ os) = put_record (root_of k) (new_record A o) ∷ root_records A (k + 1) os

abbrev pub start : CommitteeValue → ApplicationValue → List ℕ → BooksValue → Outcome Done
start C A roots B =
    check (committee_allowed C) (refusal 21) >>
    (check (roots_allowed C roots) (refusal 22) >>
    (check (B.blank All) (refusal 23) >>
    (check (roots_fit B (length roots) 0 roots) (refusal 19) >>
    Passed (record { digest = zero_digest; operations = root_records A 0 roots }))))
