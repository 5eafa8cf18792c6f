-- The rule of identifiers: one to four numbers, unused ones zero.
use Rattle.std.specs.Prelude.{ℕ, ◌^◌, ◌<◌, ◌≤◌, Bool, cond, ◌&&◌, List, ◌++◌, length, take, drop, replicate, Some, None, Option, ◌==◌, nat_le}
use Rattle.std.specs.List.{AllByRecursion, list_all}
use Rattle.format.specs.Layout.{number_len, max_depth}
use Rattle.format.specs.Values.{IdentifierValue}

abbrev pub all_zero : List ℕ → Bool
all_zero = list_all (λ n. n == 0)

-- d numbers are used, and those behind them are zero
abbrev pub well_formed : ℕ → List ℕ → Bool
well_formed d ns = nat_le 1 d && (nat_le d max_depth && all_zero (drop d ns))

-- the identifier of a depth and four numbers, where they keep the rule
abbrev pub identified : ℕ → List ℕ → Option IdentifierValue
identified d ns = cond (well_formed d ns) (Some (take d ns)) None

-- one to four numbers, each of the width of a number
pub record Identifies (c : IdentifierValue) : Type 0 where
  pub some : 1 ≤ length c
  pub few : length c ≤ max_depth
  pub fit : AllByRecursion (λ n. n < 256 ^ number_len) c

-- the numbers and then zeros, four in all
abbrev pub padded : IdentifierValue → List ℕ
padded c = take max_depth (c ++ replicate max_depth 0)
