-- What a call comes to: a value, or a refusal.
use Rattle.std.specs.Prelude.{ℕ, Bool, true, false, Some, None, Option}

-- Why a call is turned away: the number of the refusal, the place of the command or seal that it is about, and the
-- application's own number. Place and inner number are 0 where they do not apply.
pub record RefusalValue : Type 0 where
  pub number : ℕ
  pub place : ℕ
  pub inner : ℕ

abbrev pub refusal : ℕ → RefusalValue
refusal n = record { number = n; place = 0; inner = 0 }

-- one with a place
abbrev pub refusal_at : ℕ → ℕ → RefusalValue
refusal_at n place = record { number = n; place = place; inner = 0 }

pub data Outcome (A : Type 0) : Type 0 where
  Refused : RefusalValue → Outcome A
  Passed : A → Outcome A

infixl 1 ◌>>=◌ ◌>>◌
-- go on with what passed; the first refusal is the answer
abbrev pub ◌>>=◌ : {A B : Type 0} → Outcome A → (A → Outcome B) → Outcome B
◌>>=◌ (Refused r) k = Refused r
◌>>=◌ (Passed x) k = k x

abbrev pub ◌>>◌ : {A B : Type 0} → Outcome A → Outcome B → Outcome B
◌>>◌ (Refused r) k = Refused r
◌>>◌ (Passed x) k = k

-- what is there, or the refusal where nothing is
abbrev pub given : {A : Type 0} → Option A → RefusalValue → Outcome A
given None r = Refused r
given (Some x) r = Passed x

-- a check: the refusal where it fails
abbrev pub check : Bool → RefusalValue → Outcome (Unit {0})
check true r = Passed tt
check false r = Refused r
