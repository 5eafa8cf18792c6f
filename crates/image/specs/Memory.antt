-- A lent memory in slots.
use Rattle.std.specs.Prelude.{◌≡◌, ℕ, ◌*◌, ◌/◌, ◌<◌, ◌⊎◌, min, Bool, true, false, List, [], ◌++◌, map, length, take, drop, replicate, Some, None, Option, MatchOption, slice_index_or}
use Rattle.std.specs.Simd.{first_chunks}
use Rattle.books.specs.Lists.{any}
use Rattle.slots.specs.Layout.{slot_len}
use Rattle.slots.specs.Rows.{RowValue, RowKey, row_key, has_key}
use Rattle.slots.specs.Bytes.{slot_bytes}
use Rattle.slots.specs.Reading.{row_in}
use Rattle.slots.specs.RoundTrip.{Exact}
use Rattle.slots.specs.Prefixes.{PrefixValue, begins}
use Rattle.slots.specs.Cells.{Cells, free, Put, Removed}

-- how many slots are used at most
abbrev pub max_slots : ℕ
max_slots = 600

-- how many slots of a memory are used: the whole ones, up to the limit
abbrev pub usable : List ℕ → ℕ
usable bs = min (length bs / slot_len) max_slots

-- the slots that are used
abbrev pub slots : List ℕ → List (List ℕ)
slots bs = first_chunks slot_len (usable bs) bs

-- what each of them holds
abbrev pub cells : List ℕ → Cells
cells bs = map row_in (slots bs)

-- the bytes past the slots that are used
abbrev pub past : List ℕ → List ℕ
past bs = drop (usable bs * slot_len) bs

-- zeros in all slots that are used, and past them what was there
abbrev pub cleared : List ℕ → List ℕ
cleared bs = replicate (usable bs * slot_len) 0 ++ past bs

-- the first slot that begins with a prefix stands at place i
pub record First (p : PrefixValue) (bs : List ℕ) (i : ℕ) : Type 0 where
  pub within : i < usable bs
  pub here : begins p (slice_index_or (slots bs) i []) ≡ true
  pub before : any (begins p) (take i (slots bs)) ≡ false

-- where the first slot with a prefix stands, or that there is none
abbrev pub Scan : PrefixValue → List ℕ → Option ℕ → Type 0
Scan p bs r = MatchOption r (any (begins p) (slots bs) ≡ false) (First p bs)

-- every slot is all zeros or exactly the bytes of a row
abbrev pub SlotsExact : List ℕ → Type 0
SlotsExact bs = map (λ s. slot_bytes (row_in s)) (slots bs) ≡ slots bs

-- exactly the bytes of the row with a key
pub record Encodes (k : RowKey) (s : List ℕ) : Type 0 where
  pub exact : Exact s
  pub row : (v : RowValue) × (row_in s ≡ Some v) × (row_key v ≡ k)

-- the place of a slot of which a test of its row holds, or that there is none
abbrev pub Located : (Option RowValue → Bool) → List ℕ → Option ℕ → Type 0
Located test bs r = MatchOption r (any test (cells bs) ≡ false) (λ i. (i < usable bs) × (test (slice_index_or (cells bs) i None) ≡ true))

-- a free slot, or that there is none
abbrev pub FreeSlot : List ℕ → Option ℕ → Type 0
FreeSlot bs r = MatchOption r (free (cells bs) ≡ 0) (λ i. (i < usable bs) × (slice_index_or (cells bs) i None ≡ None))

-- where the row with a key goes: the slot of the one that has it, or else a free one, or that there is none
abbrev pub SlotFor : RowKey → List ℕ → Option ℕ → Type 0
SlotFor k bs None = (any (has_key k) (cells bs) ≡ false) × (free (cells bs) ≡ 0)
SlotFor k bs (Some i) =
    (i < usable bs)
    × ((has_key k (slice_index_or (cells bs) i None) ≡ true) ⊎ ((any (has_key k) (cells bs) ≡ false) × (slice_index_or (cells bs) i None ≡ None)))

-- the slot that holds a row, if there is that row
abbrev pub HoldsRow : Option RowValue → Option (List ℕ) → Type 0
HoldsRow o None = o ≡ None
HoldsRow o (Some s) = row_in s ≡ o

-- the row of a slot s put into a memory, or refused
pub record PutInto (bs s : List ℕ) (r : Bool) (bs' : List ℕ) : Type 0 where
  pub change : (v : RowValue) → row_in s ≡ Some v → Put (cells bs) v r (cells bs')
  pub rest : past bs' ≡ past bs

-- the row with a key removed from a memory
pub record RemovedFrom (bs : List ℕ) (k : RowKey) (bs' : List ℕ) : Type 0 where
  pub change : Removed (cells bs) k (cells bs')
  pub rest : past bs' ≡ past bs
