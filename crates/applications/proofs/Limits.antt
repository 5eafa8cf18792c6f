-- A sum that saturates is outside the limits of a stock, whether it saturates or not.
use Rattle.std.proofs.Common.{◌≡◌, Bool, true, false, ℤ, pos, negsuc, Option, refl, ap, arith}
use Rattle.std.specs.Int.{saturate_to_bits}
use Rattle.std.proofs.lemmas.Bool.Decides.{nat_tests}
use Rattle.std.proofs.lemmas.Grind.{common_steps}
use Rattle.applications.specs.Steps.{SentValue}
use Rattle.applications.specs.Stock.{kept, stock_allowed}

allowed_same : (x : ℤ) → stock_allowed x ≡ true → saturate_to_bits 63 x ≡ x
allowed_same x h = grind (arith, nat_tests, common_steps)

allowed_saturated : (x : ℤ) → stock_allowed (saturate_to_bits 63 x) ≡ stock_allowed x
allowed_saturated (pos n) = grind (arith, nat_tests, common_steps)
allowed_saturated (negsuc n) = refl

module _ (a b x y : ℤ) (sent : Option SentValue) where
  pub kept_first : kept a b (saturate_to_bits 63 x) y sent ≡ kept a b x y sent
  kept_first = by_test (stock_allowed x) refl
    where
      by_test : (t : Bool) → stock_allowed x ≡ t → kept a b (saturate_to_bits 63 x) y sent ≡ kept a b x y sent
      by_test true e = ap (λ z. kept a b z y sent) (allowed_same x e)
      by_test false e = rw (allowed_saturated x, e) (grind (arith, common_steps))

  pub kept_second : kept a b x (saturate_to_bits 63 y) sent ≡ kept a b x y sent
  kept_second = by_test (stock_allowed y) refl
    where
      by_test : (t : Bool) → stock_allowed y ≡ t → kept a b x (saturate_to_bits 63 y) sent ≡ kept a b x y sent
      by_test true e = ap (λ z. kept a b x z sent) (allowed_same y e)
      by_test false e = rw (allowed_saturated y, e) (grind (arith, common_steps))
