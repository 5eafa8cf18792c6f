-- Which chains lie on a side.
use Rattle.std.specs.Prelude.{Bool, true, not}
use Rattle.format.specs.Values.{IdentifierValue}
use Rattle.format.specs.Same.{first_is_even}
use Rattle.books.specs.declared.side.Side.{Side}
use Rattle.books.specs.declared.side.Side.TheVariants.{All, Even, Odd}

abbrev pub on : Side → IdentifierValue → Bool
on All c = true
on Even c = first_is_even c
on Odd c = not (first_is_even c)
