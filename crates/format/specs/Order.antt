-- The orders of identifiers and of names.
use Rattle.std.specs.declared.cmp.Ordering.{Ordering}
use Rattle.std.specs.Cmp.Lexicographic.{slice_cmp}
use Rattle.std.specs.Ordering.{nat_cmp, ordering_then}
use Rattle.format.specs.Values.{IdentifierValue, NameValue}

-- the first differing number decides; a prefix comes first
abbrev pub order_identifiers : IdentifierValue → IdentifierValue → Ordering
order_identifiers = slice_cmp nat_cmp

-- height, then sender, then index
abbrev pub order_names : NameValue → NameValue → Ordering
order_names x y = ordering_then (nat_cmp x.height y.height) (ordering_then (order_identifiers x.sender y.sender) (nat_cmp x.index y.index))
