-- The tests of `specs/Same` are true exactly where the values are equal.
use Rattle.std.specs.Prelude.{◌≡◌, ℕ, false, Decides, refl}
use Rattle.std.proofs.Common.{ap, arith}
use Rattle.std.proofs.lemmas.Bool.{false≢true}
use Rattle.std.proofs.lemmas.Bool.Decides.{Decides-and, Decides-like}
use Rattle.format.proofs.Same.{identifier_decides, message_decides}
use Rattle.books.specs.Values.{SignValue, plus, minus, MarkValue}
use Rattle.books.specs.Same.{same_sign, same_mark}

different : {P : Type 0} → (P → ⊥) → Decides false P
different f = (λ e. absurd (false≢true e), λ p. absurd (f p))

pub sign_decides : (x y : SignValue) → Decides (same_sign x y) (x ≡ y)
sign_decides plus plus = (λ _. refl, λ _. refl)
sign_decides plus minus = different (λ e. let z : ◌≡◌ {A = ℕ} 0 1 = cc in omega arith)
sign_decides minus plus = different (λ e. let z : ◌≡◌ {A = ℕ} 0 1 = cc in omega arith)
sign_decides minus minus = (λ _. refl, λ _. refl)

pub mark_decides : (x y : MarkValue) → Decides (same_mark x y) (x ≡ y)
mark_decides x y =
    Decides-like (same_mark x y)
    (λ p i. record { target = p.0 i; message = p.1.0 i; sign = p.1.1 i })
    (λ e. (ap (λ k. k.target) e, (ap (λ k. k.message) e, ap (λ k. k.sign) e)))
    (Decides-and _ _ (identifier_decides x.target y.target) (Decides-and _ _ (message_decides x.message y.message) (sign_decides x.sign y.sign)))
