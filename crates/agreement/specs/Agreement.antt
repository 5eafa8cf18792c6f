-- What honest members can rely on, after every list of calls.
use Rattle.std.specs.Prelude.{◌≡◌, ℕ, ◌<◌, true, cond, List, [], ◌∷◌, ◌++◌, Some}
use Rattle.format.specs.Values.{IdentifierValue, DigestValue, MessageValue, BlockValue}
use Rattle.format.specs.Outcomes.{Passed}
use Rattle.format.specs.Same.{same_identifier}
use Rattle.books.specs.Values.{ChainValue, RecordValue}
use Rattle.protocol.specs.Execution.{received}
use Rattle.agreement.specs.Lists.{In, Once}
use Rattle.agreement.specs.Ledger.{Ledger, parcel, ledger, sends, TakesAll}
use Rattle.agreement.specs.Runs.{Setting, Grounds, Event, Run, books, block_in_call, Proposes, DigestsDiffer, accepted}

abbrev pub ledger_of : Setting → List BlockValue → Ledger
ledger_of w bs = ledger w.committee w.application w.roots bs

-- the messages that the blocks of chain c in a list receive
abbrev pub received_by : IdentifierValue → List BlockValue → List MessageValue
received_by c [] = []
received_by c (b ∷ bs) = cond (same_identifier b.chain c) (received b.commands ++ received_by c bs) (received_by c bs)

-- message m was sent to chain c by a block of the list, the newest first
abbrev pub SentTo : Setting → IdentifierValue → MessageValue → List BlockValue → Type 0
SentTo w c m bs =
    (later : List BlockValue) × ((s : BlockValue) × ((earlier : List BlockValue) ×
    ((bs ≡ later ++ (s ∷ earlier)) × In (parcel c m) (sends w.committee w.application (ledger_of w earlier) s))))

-- No two different blocks are accepted at one height of a chain.
abbrev pub OneAtEachHeight : List BlockValue → Type 0
OneAtEachHeight bs = (b b' : BlockValue) → In b bs → In b' bs → b.chain ≡ b'.chain → b.height ≡ b'.height → b ≡ b'

-- Every message that an accepted block receives was sent to that block's chain by a block accepted earlier.
abbrev pub ReceivedAfterSent : Setting → List BlockValue → Type 0
ReceivedAfterSent w bs =
    (later : List BlockValue) (b : BlockValue) (earlier : List BlockValue) → bs ≡ later ++ (b ∷ earlier)
    → (m : MessageValue) → In m (received b.commands) → SentTo w b.chain m earlier

-- A chain's accepted blocks together receive no message twice.
abbrev pub ReceivedOnce : List BlockValue → Type 0
ReceivedOnce bs = (c : IdentifierValue) → Once (received_by c bs)

-- the ledger's record of chain c was x after the blocks up to some one of the list, the newest first
abbrev pub Was : Setting → List BlockValue → IdentifierValue → ChainValue → Type 0
Was w bs c x =
    (later : List BlockValue) × ((earlier : List BlockValue) × ((bs ≡ later ++ earlier) × ((ledger_of w earlier).chains c ≡ Some x)))

-- Each honest member's record with a next height above 0 is what the ledger's record of that chain was at that next
-- height, whenever it had that next height.
abbrev pub RecordsFollow : Setting → List Event → List BlockValue → Type 0
RecordsFollow w es bs =
    (i : ℕ) → w.honest i ≡ true → (c : IdentifierValue) (r : RecordValue) → (books w es i).rows.record_at c ≡ Some r → 0 < r.chain.next
    → Was w bs c r.chain × ((x : ChainValue) → Was w bs c x → x.next ≡ r.chain.next → x ≡ r.chain)

-- what the accepted blocks keep to after a list of calls
pub record Agreed (w : Setting) (es : List Event) : Type 0 where
  pub one_at_each_height : OneAtEachHeight (accepted es)
  pub received_after_sent : ReceivedAfterSent w (accepted es)
  pub received_once : ReceivedOnce (accepted es)
  pub ledger_takes_all : TakesAll w.committee w.application w.roots (accepted es)
  pub records_follow : RecordsFollow w es (accepted es)

-- what every list of calls keeps to
abbrev pub MembersAgree : Type 0
MembersAgree = (w : Setting) → Grounds w → (es : List Event) → Run w es → DigestsDiffer es → Agreed w es

-- An honest member's votes for one height of a chain are for one block, whatever the others weigh.
abbrev pub VotesAreOne : Type 0
VotesAreOne =
    (w : Setting) (es : List Event) → Run w es → DigestsDiffer es
    → (e e' : Event) → In e es → In e' es → e.at ≡ e'.at → Proposes e.call → Proposes e'.call
    → (d d' : DigestValue) → e.answer ≡ Passed d → e'.answer ≡ Passed d'
    → (b b' : BlockValue) → block_in_call e.call ≡ Some b → block_in_call e'.call ≡ Some b'
    → b.chain ≡ b'.chain → b.height ≡ b'.height → b ≡ b'
