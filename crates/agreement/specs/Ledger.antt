-- The one ledger: it is fed blocks alone, and takes a block or not.
use Rattle.std.specs.Prelude.{◌≡◌, ℕ, ◌+◌, Bool, cond, ◌&&◌, List, [], ◌∷◌, ◌++◌, Some, None, Option}
use Rattle.format.specs.Values.{IdentifierValue, NameValue, MessageValue, BlockValue}
use Rattle.format.specs.Same.{same_identifier, same_message}
use Rattle.format.specs.Outcomes.{Outcome, Refused, Passed, ◌>>=◌, ◌>>◌}
use Rattle.committee.specs.Rules.{CommitteeValue}
use Rattle.books.specs.Values.{ChainValue, LoadValue, opening, sent, EntryValue}
use Rattle.books.specs.Books.{updated}
use Rattle.applications.specs.Steps.{ApplicationValue}
use Rattle.protocol.specs.Reads.{block_digest}
use Rattle.protocol.specs.Execution.{Ran, executed, advanced, received}
use Rattle.protocol.specs.Calls.{owned, in_turn, fresh, message_of, root_of}

-- a message with the chain that it was sent to
pub record Parcel : Type 0 where
  pub target : IdentifierValue
  pub message : MessageValue

abbrev pub parcel : IdentifierValue → MessageValue → Parcel
parcel c m = record { target = c; message = m }

abbrev pub same_parcel : Parcel → Parcel → Bool
same_parcel x y = same_identifier x.target y.target && same_message x.message y.message

abbrev pub Chains : Type 0
Chains = IdentifierValue → Option ChainValue

-- a record for each chain, and the pool of sent messages
pub record Ledger : Type 0 where
  pub chains : Chains
  pub pool : List Parcel

abbrev pub later : Parcel → Option (List Parcel) → Option (List Parcel)
later q None = None
later q (Some qs) = Some (q ∷ qs)

-- the pool without a message, or none where it is not there
abbrev pub without : Parcel → List Parcel → Option (List Parcel)
without x [] = None
without x (p ∷ ps) = cond (same_parcel p x) (Some ps) (later p (without x ps))

abbrev pub and_then : Option (List Parcel) → (List Parcel → Option (List Parcel)) → Option (List Parcel)
and_then None k = None
and_then (Some x) k = k x

-- the pool after each message of a list, sent to chain c, is taken out of it in turn
abbrev pub withdrawn : IdentifierValue → List MessageValue → List Parcel → Option (List Parcel)
withdrawn c [] pool = Some pool
withdrawn c (m ∷ ms) pool = and_then (without (parcel c m) pool) (withdrawn c ms)

-- the messages among the rows that a block sends
abbrev pub packed : NameValue → IdentifierValue → LoadValue → List Parcel → List Parcel
packed n t (opening key) ps = ps
packed n t (sent code v) ps = parcel t (message_of n code v) ∷ ps

abbrev pub parcels : List EntryValue → List Parcel
parcels [] = []
parcels (r ∷ rs) = packed r.name r.row.target r.row.load (parcels rs)

-- a child gets its record and its owner
abbrev pub with_child : ApplicationValue → IdentifierValue → LoadValue → Chains → Chains
with_child A t (opening key) f = updated same_identifier t (Some (fresh A key)) f
with_child A t (sent code v) f = f

abbrev pub with_children : ApplicationValue → List EntryValue → Chains → Chains
with_children A [] f = f
with_children A (r ∷ rs) f = with_children A rs (with_child A r.row.target r.row.load f)

-- what the ledger checks of a block on its records, by the rules of upload, and the block's run
abbrev pub admitted : CommitteeValue → ApplicationValue → Ledger → BlockValue → Outcome Ran
admitted C A L b =
    owned (L.chains b.chain) >>= λ r.
    in_turn r b >>
    executed C A r b

-- the ledger after a block, from the chain's record, the block's run and the pool without what the block receives
abbrev pub settled : ApplicationValue → Ledger → BlockValue → Option ChainValue → Outcome Ran → Option (List Parcel) → Option Ledger
settled A L b None x p = None
settled A L b (Some r) (Refused x) p = None
settled A L b (Some r) (Passed e) None = None
settled A L b (Some r) (Passed e) (Some rest) =
    Some (record {
      chains = with_children A e.sent (updated same_identifier b.chain (Some (advanced (block_digest b) r e)) L.chains);
      pool = rest ++ parcels e.sent;
    })

-- the ledger after a block that it takes
abbrev pub taken : CommitteeValue → ApplicationValue → Ledger → BlockValue → Option Ledger
taken C A L b =
    settled A L b (L.chains b.chain) (admitted C A L b) (withdrawn b.chain (received b.commands) L.pool)

abbrev pub sent_by : Outcome Ran → List Parcel
sent_by (Refused x) = []
sent_by (Passed e) = parcels e.sent

-- what a block sends: the messages that join the pool when the ledger takes it
abbrev pub sends : CommitteeValue → ApplicationValue → Ledger → BlockValue → List Parcel
sends C A L b = sent_by (admitted C A L b)

abbrev pub or_same : Ledger → Option Ledger → Ledger
or_same L None = L
or_same L (Some L') = L'

-- a block that is not taken changes nothing
abbrev pub fed : CommitteeValue → ApplicationValue → Ledger → BlockValue → Ledger
fed C A L b = or_same L (taken C A L b)

abbrev pub root_chains : ApplicationValue → ℕ → List ℕ → Chains → Chains
root_chains A k [] f = f
root_chains A k (o ∷ os) f = root_chains A (k + 1) os (updated same_identifier (root_of k) (Some (fresh A o)) f)

-- the roots, and an empty pool
abbrev pub first_ledger : ApplicationValue → List ℕ → Ledger
first_ledger A roots = record { chains = root_chains A 0 roots (λ c. None); pool = [] }

-- the ledger fed a list of blocks, the newest first
abbrev pub ledger : CommitteeValue → ApplicationValue → List ℕ → List BlockValue → Ledger
ledger C A roots [] = first_ledger A roots
ledger C A roots (b ∷ bs) = fed C A (ledger C A roots bs) b

-- the ledger takes every block of the list, the newest first
abbrev pub TakesAll : CommitteeValue → ApplicationValue → List ℕ → List BlockValue → Type 0
TakesAll C A roots [] = Unit
TakesAll C A roots (b ∷ bs) = ((L : Ledger) × (taken C A (ledger C A roots bs) b ≡ Some L)) × TakesAll C A roots bs
