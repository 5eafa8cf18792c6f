-- When two blocks are one.
use Rattle.std.specs.Prelude.{◌≡◌, ℕ, List, ℤ, refl}
use mathlib.Core.HLevel.{Discrete, ×_discrete}
use mathlib.Core.List.{List-discrete}
use Rattle.std.proofs.Common.{ap, sym, ◌∙◌}
use Rattle.std.proofs.Math.Decide.{ℕ_discrete}
use Rattle.std.proofs.Math.IntN.{ℤ_discrete}
use Rattle.format.specs.Values.{IdentifierValue, DigestValue, MessageValue, CommandValue, command_discrete, BlockValue}

-- equality is decided in X if it is in Y, of which X is a part
pub within : {X Y : Type 0} (f : X → Y) (g : Y → X) → ((x : X) → g (f x) ≡ x) → Discrete Y → Discrete X
within f g back d x y =
    elim (d (f x) (f y)) [ yes e ↦ yes (sym (back x) ∙ (ap g e ∙ back y)) | no n ↦ no (λ p. n (ap f p)) ]

pub numbers_discrete : Discrete (List ℕ)
numbers_discrete = List-discrete ℕ_discrete

pub message_discrete : Discrete MessageValue
message_discrete =
    within {Y = IdentifierValue × (ℕ × (ℕ × (ℕ × ℤ)))}
    (λ m. (m.name.sender, (m.name.height, (m.name.index, (m.code, m.value)))))
    (λ t. record { name = record { sender = t.0; height = t.1.0; index = t.1.1.0 }; code = t.1.1.1.0; value = t.1.1.1.1 })
    (λ m. refl)
    (×_discrete numbers_discrete (×_discrete ℕ_discrete (×_discrete ℕ_discrete (×_discrete ℕ_discrete ℤ_discrete))))

pub commands_discrete : Discrete (List CommandValue)
commands_discrete = List-discrete (command_discrete numbers_discrete ℕ_discrete ℤ_discrete message_discrete)

pub block_discrete : Discrete BlockValue
block_discrete =
    within {Y = IdentifierValue × (ℕ × (DigestValue × List CommandValue))} (λ b. (b.chain, (b.height, (b.previous, b.commands))))
    (λ t. record { chain = t.0; height = t.1.0; previous = t.1.1.0; commands = t.1.1.1 }) (λ b. refl)
    (×_discrete numbers_discrete (×_discrete ℕ_discrete (×_discrete numbers_discrete commands_discrete)))
