-- Runs: lists of calls at the honest members, and what they are assumed to keep to.
use Rattle.std.specs.Prelude.{◌≡◌, ℕ, suc, ◌+◌, ◌≤◌, Bool, true, false, cond, not, List, [], ◌∷◌, Some, None, Option, ◌==◌}
use Rattle.format.specs.Values.{DigestValue, NameValue, BlockValue}
use Rattle.format.specs.Rules.{zero_digest}
use Rattle.format.specs.Outcomes.{Outcome, Refused, Passed}
use Rattle.committee.specs.Rules.{MemberValue, CommitteeValue}
use Rattle.committee.specs.Weights.{faulty_weight}
use Rattle.reading.specs.Frames.{VoteValue}
use Rattle.books.specs.Books.{BooksValue, Laws}
use Rattle.applications.specs.Steps.{ApplicationValue}
use Rattle.protocol.specs.Reads.{SealsValue, RequestRead, CertificateRead, block_digest, read_request, read_certificate}
use Rattle.protocol.specs.Calls.{Done, Ends, member_at, propose, upload, deliver, start}
use Rattle.agreement.specs.Lists.{In}
use Rattle.agreement.specs.Blocks.{block_discrete}

-- What the honest members share: committee, roots and application. Which members are honest, and each one's books
-- before and after its start.
pub record Setting : Type 0 where
  pub committee : CommitteeValue
  pub roots : List ℕ
  pub application : ApplicationValue
  pub honest : ℕ → Bool
  pub blank : ℕ → BooksValue
  pub started : ℕ → BooksValue

-- the weight of the members whose numbers a test chooses
abbrev pub weight_where : CommitteeValue → (ℕ → Bool) → ℕ
weight_where [] p = 0
weight_where (m ∷ ms) p = cond (p 0) m.weight 0 + weight_where ms (λ i. p (suc i))

abbrev pub others : (ℕ → Bool) → ℕ → Bool
others honest i = not (honest i)

-- The members that are not honest weigh at most f together. Each honest member's books keep the laws of books, and
-- an accepted start left them.
pub record Grounds (w : Setting) : Type 0 where
  pub few : weight_where w.committee (others w.honest) ≤ faulty_weight w.committee
  pub lawful : (i : ℕ) → w.honest i ≡ true → Laws (w.blank i)
  pub starts : (i : ℕ) → w.honest i ≡ true
      → Ends (start w.committee w.application w.roots (w.blank i)) (w.blank i) (Passed zero_digest) (w.started i)

-- a call, with the seals that the member has at that time
pub data Call : Type 0 where
  Propose : SealsValue → List ℕ → Call
  Upload : SealsValue → List ℕ → Call
  Deliver : NameValue → Call

-- a call at a member: its answer, and how it left the member's books
pub record Event : Type 0 where
  pub at : ℕ
  pub call : Call
  pub answer : Outcome DigestValue
  pub after : BooksValue

-- the outcome that the call's definition gives
abbrev pub outcome : Setting → Call → BooksValue → Outcome Done
outcome w (Propose S frame) B = propose w.committee w.application S B frame
outcome w (Upload S frame) B = upload w.committee w.application S B frame
outcome w (Deliver n) B = deliver w.application B n

-- the books of member i after a list of calls, the newest first
abbrev pub books : Setting → List Event → ℕ → BooksValue
books w [] i = w.started i
books w (e ∷ es) i = cond (i == e.at) e.after (books w es i)

-- the block in a frame
abbrev pub block_of_request : Outcome RequestRead → Option BlockValue
block_of_request (Refused r) = None
block_of_request (Passed q) = Some q.block

abbrev pub block_of_certificate : Outcome CertificateRead → Option BlockValue
block_of_certificate (Refused r) = None
block_of_certificate (Passed q) = Some q.block

abbrev pub block_in_call : Call → Option BlockValue
block_in_call (Propose S frame) = block_of_request (read_request S.width frame)
block_in_call (Upload S frame) = block_of_certificate (read_certificate S.width frame)
block_in_call (Deliver n) = None

-- an accepted propose
abbrev pub Proposes : Call → Type 0
Proposes (Propose S frame) = Unit
Proposes (Upload S frame) = ⊥
Proposes (Deliver n) = ⊥

-- an accepted propose at member i answered the digest d
abbrev pub Voted : List Event → ℕ → DigestValue → Type 0
Voted es i d = (e : Event) × In e es × (e.at ≡ i) × Proposes e.call × (e.answer ≡ Passed d)

-- Each seal of an uploaded frame that the member's seals hold, for an honest member's key and the block's digest, is
-- for a vote given earlier.
abbrev pub Earned : Setting → List Event → Call → Type 0
Earned w es (Propose S frame) = Unit
Earned w es (Upload S frame) =
    (q : CertificateRead) → read_certificate S.width frame ≡ Passed q
    → (v : VoteValue) → In v q.votes → (m : MemberValue) → member_at w.committee v.member ≡ Some m → w.honest v.member ≡ true
    → S.holds m.key (block_digest q.block) v.seal.1 ≡ true
    → Voted es v.member (block_digest q.block)
Earned w es (Deliver n) = Unit

-- Each call, the newest first, is at an honest member, picks up the books as the one before it there left them, and
-- ends as its definition says.
abbrev pub Run : Setting → List Event → Type 0
Run w [] = Unit
Run w (e ∷ es) =
    (w.honest e.at ≡ true)
    × Ends (outcome w e.call (books w es e.at)) (books w es e.at) e.answer e.after
    × Earned w es e.call
    × Run w es

-- no two different blocks in the frames of the list share a digest
abbrev pub DigestsDiffer : List Event → Type 0
DigestsDiffer es =
    (e e' : Event) → In e es → In e' es → (b b' : BlockValue)
    → block_in_call e.call ≡ Some b → block_in_call e'.call ≡ Some b'
    → block_digest b ≡ block_digest b' → b ≡ b'

-- the block that a call accepts, where it is an accepted upload
abbrev pub accepts : Event → Option BlockValue
accepts e =
    elim e.call [
      | Propose S frame ↦ None
      | Deliver n ↦ None
      | Upload S frame ↦
          elim e.answer [ Refused r ↦ None | Passed d ↦ block_in_call (Upload S frame) ]
    ]

abbrev pub stands_in : BlockValue → List BlockValue → Bool
stands_in b [] = false
stands_in b (x ∷ bs) = elim (block_discrete b x) [ yes p ↦ true | no p ↦ stands_in b bs ]

abbrev pub noted : Option BlockValue → List BlockValue → List BlockValue
noted None bs = bs
noted (Some b) bs = cond (stands_in b bs) bs (b ∷ bs)

-- the accepted blocks by first acceptance, the newest first
abbrev pub accepted : List Event → List BlockValue
accepted [] = []
accepted (e ∷ es) = noted (accepts e) (accepted es)
