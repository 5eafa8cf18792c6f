-- When two marks are the same, and when one is a minus mark of a chain.
use Rattle.std.specs.Prelude.{Bool, true, false, ◌&&◌}
use Rattle.format.specs.Values.{IdentifierValue}
use Rattle.format.specs.Same.{same_identifier, same_message}
use Rattle.books.specs.Values.{SignValue, plus, minus, MarkValue}

abbrev pub same_sign : SignValue → SignValue → Bool
same_sign plus plus = true
same_sign plus minus = false
same_sign minus plus = false
same_sign minus minus = true

abbrev pub same_mark : MarkValue → MarkValue → Bool
same_mark x y = same_identifier x.target y.target && (same_message x.message y.message && same_sign x.sign y.sign)

abbrev pub minus_of : IdentifierValue → MarkValue → Bool
minus_of c k = same_identifier k.target c && same_sign k.sign minus
