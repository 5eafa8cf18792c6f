-- Outcomes and options taken apart.
use Rattle.std.proofs.Common.{◌≡◌, Bool, true, false, Some, None, Option, sym, refl, ap, subst}
use Rattle.std.proofs.lemmas.Bool.{false≢true}
use Rattle.format.specs.Outcomes.{RefusalValue, Outcome, Refused, Passed, ◌>>=◌, ◌>>◌, check, given}

-- ---- outcomes

abbrev Fails : {X : Type 0} → Outcome X → Type 0
Fails (Refused r) = Unit
Fails (Passed x) = ⊥

pub refused_passed : {X : Type 0} {r : RefusalValue} {x : X} → ◌≡◌ {A = Outcome X} (Refused r) (Passed x) → ⊥
refused_passed e = subst Fails e tt

abbrev or_else : {X : Type 0} → X → Outcome X → X
or_else d (Refused r) = d
or_else d (Passed x) = x

pub passed_is : {X : Type 0} {x y : X} → ◌≡◌ {A = Outcome X} (Passed x) (Passed y) → x ≡ y
passed_is {x = x} e = ap (or_else x) e

pub bind_passed : {X Y : Type 0} (m : Outcome X) (k : X → Outcome Y) (y : Y) → (m >>= k) ≡ Passed y → (x : X) × (m ≡ Passed x) × (k x ≡ Passed y)
bind_passed (Refused r) k y e = absurd (refused_passed e)
bind_passed (Passed x) k y e = (x, refl, e)

pub then_passed : {X Y : Type 0} (m : Outcome X) (k : Outcome Y) (y : Y) → (m >> k) ≡ Passed y → ((x : X) × (m ≡ Passed x)) × (k ≡ Passed y)
then_passed (Refused r) k y e = absurd (refused_passed e)
then_passed (Passed x) k y e = ((x, refl), e)

pub check_holds : (t : Bool) (r : RefusalValue) (x : Unit {0}) → check t r ≡ Passed x → t ≡ true
check_holds true r x e = refl
check_holds false r x e = absurd (refused_passed e)

-- a check that passed, before what comes after it
pub check_passed : {Y : Type 0} (t : Bool) (r : RefusalValue) (m : Outcome Y) (y : Y) → (check t r >> m) ≡ Passed y → (t ≡ true) × (m ≡ Passed y)
check_passed true r m y e = (refl, e)
check_passed false r m y e = absurd (refused_passed e)

pub given_passed : {X : Type 0} (o : Option X) (r : RefusalValue) (x : X) → given o r ≡ Passed x → o ≡ Some x
given_passed None r x e = absurd (refused_passed e)
given_passed (Some y) r x e = ap Some (passed_is e)

-- ---- options and Booleans

abbrev is_some : {X : Type 0} → Option X → Type 0
is_some None = ⊥
is_some (Some x) = Unit

pub some_none : {X : Type 0} {x : X} → ◌≡◌ {A = Option X} (Some x) None → ⊥
some_none e = subst is_some e tt

pub none_some : {X : Type 0} {x : X} → ◌≡◌ {A = Option X} None (Some x) → ⊥
none_some e = some_none (sym e)

abbrev or_it : {X : Type 0} → X → Option X → X
or_it d None = d
or_it d (Some x) = x

pub some_is : {X : Type 0} {x y : X} → ◌≡◌ {A = Option X} (Some x) (Some y) → x ≡ y
some_is {x = x} e = ap (or_it x) e

pub true_false : ◌≡◌ {A = Bool} true false → ⊥
true_false e = false≢true (sym e)
