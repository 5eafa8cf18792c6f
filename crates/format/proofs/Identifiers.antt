-- The numbers of an identifier.
use Rattle.std.proofs.Common.{◌≡◌, ℕ, ◌+◌, ◌-◌, ◌≤◌, true, ◌&&◌, eqb, leb, List, [], ◌∷◌, ◌++◌, length, take, drop, replicate, sym, refl, ap, ◌∙◌, append_assoc, arith, length-append, length-drop, take-append-drop, length-take}
use Rattle.std.proofs.lemmas.List.{replicate-append-replicate, take_at}
use Rattle.std.proofs.lemmas.Bool.{and_parts, le-leb, leb-true, eqb-true}
use Rattle.format.specs.Layout.{max_depth}
use Rattle.format.specs.Identifiers.{all_zero, well_formed, padded}

pub well_formed_at : (d : ℕ) (ns : List ℕ) → 1 ≤ d → d ≤ max_depth → well_formed d ns ≡ all_zero (drop d ns)
well_formed_at d ns h k = (λ i. le-leb 1 d h i && (le-leb d max_depth k i && all_zero (drop d ns)))

zeros_are : (ns : List ℕ) → all_zero ns ≡ true → ns ≡ replicate (length ns) 0
zeros_are [] e = refl
zeros_are (n ∷ ns) e =
    let p = and_parts (eqb n 0) (all_zero ns) e in
    λ i. eqb-true n 0 p.0 i ∷ zeros_are ns p.1 i

module _ (d : ℕ) (ns : List ℕ) (long : length ns ≡ max_depth) (e : well_formed d ns ≡ true) where
  parts : (leb 1 d ≡ true) × ((leb d max_depth ≡ true) × (all_zero (drop d ns) ≡ true))
  parts = let p = and_parts (leb 1 d) _ e in (p.0, and_parts (leb d max_depth) _ p.1)

  pub depth_some : 1 ≤ d
  depth_some = leb-true 1 d parts.0

  pub depth_low : d ≤ max_depth
  depth_low = leb-true d max_depth parts.1.0

  -- the depth is the count of the numbers in use
  pub depth_is : length (take d ns) ≡ d
  depth_is = let k = depth_low in simp length-take (omega arith)

  rest_is : drop d ns ≡ replicate (max_depth - d) 0
  rest_is = let low = depth_low in zeros_are (drop d ns) parts.1.1 ∙ ap (λ k. replicate k 0) (simp length-drop (omega arith))

  zeros_split : replicate max_depth 0 ≡ drop d ns ++ replicate d 0
  zeros_split =
      let low = depth_low in
      let n : max_depth - d + d ≡ max_depth = omega arith in
      ap (λ k. replicate k 0) (sym n) ∙ sym (replicate-append-replicate (max_depth - d) d 0) ∙ ap (λ z. z ++ replicate d 0) (sym rest_is)

  -- the zeros behind them are those that the rule asks for
  pub padded_is : padded (take d ns) ≡ ns
  padded_is =
      ap (λ z. take max_depth (take d ns ++ z)) zeros_split
      ∙ ap (take max_depth) (sym (append_assoc (take d ns) (drop d ns) (replicate d 0)))
      ∙ ap (λ z. take max_depth (z ++ replicate d 0)) (take-append-drop d ns)
      ∙ take_at ns (replicate d 0) max_depth long

pub length_padded : (c : List ℕ) → length (padded c) ≡ max_depth
length_padded c = simp (length-take, length-append) (omega arith)
