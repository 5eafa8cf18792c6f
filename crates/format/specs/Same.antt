-- When two values are the same.
use Rattle.std.specs.Prelude.{◌%◌, Bool, true, ◌&&◌, [], ◌∷◌, ◌==◌}
use Rattle.std.specs.Ordering.{int_eq}
use Rattle.std.specs.Str.{bytes_eq}
use Rattle.format.specs.Values.{IdentifierValue, DigestValue, NameValue, MessageValue}

abbrev pub same_identifier : IdentifierValue → IdentifierValue → Bool
same_identifier x y = bytes_eq x y

abbrev pub same_digest : DigestValue → DigestValue → Bool
same_digest x y = bytes_eq x y

abbrev pub same_name : NameValue → NameValue → Bool
same_name x y = x.height == y.height && (same_identifier x.sender y.sender && x.index == y.index)

abbrev pub same_message : MessageValue → MessageValue → Bool
same_message x y = same_name x.name y.name && (x.code == y.code && int_eq x.value y.value)

-- whether a chain's first number is even
abbrev pub first_is_even : IdentifierValue → Bool
first_is_even [] = true
first_is_even (n ∷ ns) = n % 2 == 0
