-- The order in which outgoing rows wait, and the least of them.
use Rattle.std.specs.Prelude.{◌≡◌, Bool, true, false, cond, List, [], ◌∷◌, Some, None, Option}
use Rattle.std.specs.declared.cmp.Ordering.{Ordering}
use Rattle.std.specs.Ordering.{is_lt}
use Rattle.format.specs.Order.{order_names}
use Rattle.format.specs.Values.{IdentifierValue, NameValue}
use Rattle.books.specs.Values.{OutgoingValue, EntryValue}
use Rattle.books.specs.Meaning.{entry_value}
use Rattle.books.specs.declared.rows.Outgoing.{Outgoing}

-- sender height, then sender identifier, then index
abbrev pub order : EntryValue → EntryValue → Ordering
order x y = order_names x.name y.name

abbrev pub before : EntryValue → EntryValue → Bool
before x y = is_lt (order x y)

-- `before` is a strict order, and total on rows of different names
pub record StrictOrder : Type 0 where
  pub irreflexive : (x : EntryValue) → before x x ≡ false
  pub transitive : (x y z : EntryValue) → before x y ≡ true → before y z ≡ true → before x z ≡ true
  pub total : (x y : EntryValue) → before x y ≡ false → before y x ≡ false → x.name ≡ y.name

-- the rows of a map of outgoing rows whose senders are chosen by a test
pub record Stands (at : NameValue → Option OutgoingValue) (test : IdentifierValue → Bool) (x : EntryValue) : Type 0 where
  pub there : at x.name ≡ Some x.row
  pub chosen : test x.name.sender ≡ true

-- the least of these rows, or none where there is no such row
abbrev pub Least : (NameValue → Option OutgoingValue) → (IdentifierValue → Bool) → Option EntryValue → Type 0
Least at test None = (x : EntryValue) → Stands at test x → ⊥
Least at test (Some x) = Stands at test x × ((y : EntryValue) → Stands at test y → before y x ≡ false)

-- there is one least row at most
abbrev pub LeastIsOne : Type 0
LeastIsOne =
    (at : NameValue → Option OutgoingValue) (test : IdentifierValue → Bool) (r s : Option EntryValue)
    → Least at test r → Least at test s → r ≡ s

-- the earlier of two rows, or the one that is there; the first where neither is before the other
abbrev pub earlier : Option Outgoing → Option Outgoing → Option Outgoing
earlier None y = y
earlier (Some x) None = Some x
earlier (Some x) (Some y) = cond (before (entry_value y) (entry_value x)) (Some y) (Some x)

-- the earliest of a row and those of a list that a test chooses
abbrev pub earliest : (Outgoing → Bool) → Option Outgoing → List Outgoing → Option Outgoing
earliest test r [] = r
earliest test r (x ∷ xs) = earliest test (cond (test x) (earlier r (Some x)) r) xs
