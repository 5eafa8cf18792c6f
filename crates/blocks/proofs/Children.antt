-- The child of a chain, by what stands behind the chain's numbers.
use Rattle.std.proofs.Common.{◌≡◌, ◌≢◌, ℕ, Bool, true, false, ◌&&◌, List, [], ◌∷◌, ◌++◌, length, take, drop, ◌+◌, ◌<◌, Some, None, Option, Bor, sym, refl, ap, ◌∙◌, arith}
use Rattle.std.specs.Option.{MatchOption}
use Rattle.std.specs.Prelude.{nat_lt}
use Rattle.std.specs.Str.{bytes_eq}
use Rattle.std.proofs.lemmas.Slice.Eq.{bytes_eq-Decides, strip_prefix_is}
use Rattle.std.proofs.lemmas.Bool.Decides.{Decides-eqb, nat_tests, same_from_decides}
use Rattle.std.proofs.lemmas.Bool.{false≢true, lt-ltb}
use Rattle.std.proofs.Math.Bool.{and-true}
use Rattle.format.specs.Layout.{max_depth}
use Rattle.protocol.specs.Execution.{child_of, child_allowed}

same_behind : (c xs ys : List ℕ) → bytes_eq (c ++ xs) (c ++ ys) ≡ bytes_eq xs ys
same_behind [] xs ys = refl
same_behind (x ∷ c) xs ys = let e = same_behind c xs ys in grind (arith, nat_tests)

pub child_behind : (c child rest : List ℕ) (h : ℕ) → child ≡ c ++ rest → child_allowed c h child ≡ (bytes_eq rest (h ∷ []) && nat_lt (length c) max_depth)
child_behind c child rest h e = ap (child_allowed c h) e ∙ ap (λ t. t && nat_lt (length c) max_depth) (same_behind c rest (h ∷ []))

pub no_child : (c child : List ℕ) (h : ℕ) → ((rest : List ℕ) → child ≢ c ++ rest) → child_allowed c h child ≡ false
no_child c child h other =
    let differs : bytes_eq child (child_of c h) ≡ false =
    (same_from_decides (bytes_eq child (child_of c h)) false (bytes_eq-Decides child (child_of c h)) ((λ q. absurd (false≢true q)), λ p. absurd (other (h ∷ []) p))) in
    ap (λ t. t && nat_lt (length c) max_depth) differs

pub child_stripped : (c child : List ℕ) (h : ℕ) (t : Bool) (r : Option (Bor (List ℕ))) → length c < max_depth
    → MatchOption r (bytes_eq (take (length c) child) c ≡ false) (λ x. (bytes_eq (take (length c) child) c ≡ true) × (x.now ≡ drop (length c) child) × (length x.now + length c ≡ length child))
    → MatchOption r (t ≡ false) (λ x. t ≡ bytes_eq x.now (h ∷ [])) → t ≡ child_allowed c h child
child_stripped c child h t None low m e = e ∙ sym (no_child c child h (strip_prefix_is Decides-eqb child c None m))
child_stripped c child h t (Some x) low m e =
    let b = child_behind c child x.now h (strip_prefix_is Decides-eqb child c (Some x) m) in
    let l : nat_lt (length c) max_depth ≡ true = lt-ltb (length c) max_depth low in
    sym (b ∙ ap (λ z. bytes_eq x.now (h ∷ []) && z) l ∙ and-true (bytes_eq x.now (h ∷ [])) ∙ sym e)
