-- `==` of signs and of marks answers the tests of `specs/Same`.
use Rattle.std.proofs.Common.{◌≡◌, ◌&&◌, eqb, refl}
use Rattle.std.specs.Ordering.{int_eq}
use Rattle.std.specs.Str.{bytes_eq}
use Rattle.format.proofs.Same.{identifier_eq, message_eq}
use denote.Enum.Bare.{sameb}
use Rattle.books.specs.Meaning.{mark_value, sign_value}
use Rattle.books.specs.Same.{same_mark, same_sign}
use Rattle.books.specs.contracts.rows.Sign.{the_type}
use Rattle.books.specs.declared.rows.Mark.{Mark}
use Rattle.books.specs.declared.rows.Sign.{Sign}
use Rattle.books.specs.declared.rows.Sign.TheVariants.{Plus, Minus}

pub sign_eq : (s t : Sign) → sameb the_type s t ≡ same_sign (sign_value s) (sign_value t)
sign_eq Plus Plus = refl
sign_eq Plus Minus = refl
sign_eq Minus Plus = refl
sign_eq Minus Minus = refl

pub mark_eq : (x y : Mark)
    → ((bytes_eq x.target.numbers y.target.numbers && eqb x.target.depth y.target.depth)
    && (((eqb x.message.name.height.0 y.message.name.height.0
    && ((bytes_eq x.message.name.sender.numbers y.message.name.sender.numbers && eqb x.message.name.sender.depth y.message.name.sender.depth)
    && eqb x.message.name.index y.message.name.index))
    && (eqb x.message.code y.message.code && int_eq x.message.value y.message.value))
    && sameb the_type x.sign y.sign))
    ≡ same_mark (mark_value x) (mark_value y)
mark_eq x y = (λ i. identifier_eq x.target y.target i && (message_eq x.message y.message i && sign_eq x.sign y.sign i))
