-- The derived orders are those of the values.
use Rattle.std.proofs.Common.{◌≡◌, ℕ, ◌≤◌, List, [], ◌∷◌, ◌++◌, length, take, replicate, zero, suc, Ordering, Less, Equal, Greater, sym, refl, ap, ◌∙◌, arith}
use Rattle.std.specs.Cmp.Lexicographic.{slice_cmp}
use Rattle.std.specs.Ordering.{nat_cmp, ordering_then}
use Rattle.std.proofs.lemmas.Bool.Decides.{nat_tests}
use Rattle.format.specs.Layout.{max_depth}
use Rattle.format.specs.Meaning.{identifier_value, name_value}
use Rattle.format.specs.Order.{order_identifiers, order_names}
use Rattle.format.specs.declared.identifier.Identifier.{Identifier}
use Rattle.format.specs.declared.message.Name.{Name}
use Rattle.format.proofs.Identifiers.{depth_low, depth_is, padded_is}

-- numbers, and zeros behind them up to a length
abbrev with_zeros : ℕ → ℕ → List ℕ → List ℕ
with_zeros n k c = take n (c ++ replicate k 0)

then_then : (o p q : Ordering) → ordering_then (ordering_then o p) q ≡ ordering_then o (ordering_then p q)
then_then Less p q = refl
then_then Equal p q = refl
then_then Greater p q = refl

-- what decides nothing, or decides for r
abbrev Keeps : Ordering → Ordering → Type 0
Keeps r o = ordering_then o r ≡ r

keeps_then : (r o p : Ordering) → Keeps r o → Keeps r p → Keeps r (ordering_then o p)
keeps_then r Less p d e = d
keeps_then r Equal p d e = e
keeps_then r Greater p d e = d

keeps_from : (r o p : Ordering) → Keeps r (ordering_then o p) → Keeps r o
keeps_from r Less p e = e
keeps_from r Equal p e = refl
keeps_from r Greater p e = e

zero_first : (n : ℕ) → Keeps Less (nat_cmp 0 n)
zero_first n = grind (arith, nat_tests)

zero_last : (n : ℕ) → Keeps Greater (nat_cmp n 0)
zero_last n = grind (arith, nat_tests)

none_first : (c : List ℕ) → Keeps Less (slice_cmp nat_cmp [] c)
none_first [] = refl
none_first (x ∷ xs) = refl

none_last : (c : List ℕ) → Keeps Greater (slice_cmp nat_cmp c [])
none_last [] = refl
none_last (x ∷ xs) = refl

-- with zeros behind them up to one length, and then by their own lengths, numbers are ordered as they are
zeros_then_length : (n k j : ℕ) → n ≤ k → n ≤ j → (c d : List ℕ) → length c ≤ n → length d ≤ n
    → ordering_then (slice_cmp nat_cmp (with_zeros n k c) (with_zeros n j d)) (nat_cmp (length c) (length d)) ≡ slice_cmp nat_cmp c d
zeros_then_length zero k j g h [] [] a b = refl
zeros_then_length zero k j g h [] (y ∷ ys) a b = absurd (omega arith)
zeros_then_length zero k j g h (x ∷ xs) d a b = absurd (omega arith)
zeros_then_length (suc n) zero j g h c d a b = absurd (omega arith)
zeros_then_length (suc n) (suc k) zero g h c d a b = absurd (omega arith)
zeros_then_length (suc n) (suc k) (suc j) g h [] [] a b = zeros_then_length n k j (omega arith) (omega arith) [] [] (omega arith) (omega arith)
zeros_then_length (suc n) (suc k) (suc j) g h [] (y ∷ ys) a b =
    let rest = zeros_then_length n k (suc j) (omega arith) (omega arith) [] ys (omega arith) (omega arith) in
    let before = keeps_from Less _ (nat_cmp 0 (length ys)) (ap (λ o. ordering_then o Less) rest ∙ none_first ys) in
    let last : nat_cmp 0 (suc (length ys)) ≡ Less = grind (arith, nat_tests) in
    ap (ordering_then _) last ∙ keeps_then Less (nat_cmp 0 y) _ (zero_first y) before
zeros_then_length (suc n) (suc k) (suc j) g h (x ∷ xs) [] a b =
    let rest = zeros_then_length n (suc k) j (omega arith) (omega arith) xs [] (omega arith) (omega arith) in
    let before = keeps_from Greater _ (nat_cmp (length xs) 0) (ap (λ o. ordering_then o Greater) rest ∙ none_last xs) in
    let last : nat_cmp (suc (length xs)) 0 ≡ Greater = grind (arith, nat_tests) in
    ap (ordering_then _) last ∙ keeps_then Greater (nat_cmp x 0) _ (zero_last x) before
zeros_then_length (suc n) (suc k) (suc j) g h (x ∷ xs) (y ∷ ys) a b =
    let rest = zeros_then_length n (suc k) (suc j) (omega arith) (omega arith) xs ys (omega arith) (omega arith) in
    let last : nat_cmp (suc (length xs)) (suc (length ys)) ≡ nat_cmp (length xs) (length ys) = grind (arith, nat_tests) in
    then_then (nat_cmp x y) _ _ ∙ ap (ordering_then (nat_cmp x y)) (ap (ordering_then _) last ∙ rest)

-- the lesser of two identifiers
pub identifier_order : (x y : Identifier) → ordering_then (slice_cmp nat_cmp x.numbers y.numbers) (nat_cmp x.depth y.depth) ≡ order_identifiers (identifier_value x) (identifier_value y)
identifier_order x y =
    let cx = identifier_value x in
    let dx = depth_is x.depth x.numbers x.full x.ok in
    let dy = depth_is y.depth y.numbers y.full y.ok in
    let lx = depth_low x.depth x.numbers x.full x.ok in
    let ly = depth_low y.depth y.numbers y.full y.ok in
    sym (λ i. ordering_then (slice_cmp nat_cmp (padded_is x.depth x.numbers x.full x.ok i) (padded_is y.depth y.numbers y.full y.ok i)) (nat_cmp (dx i) (dy i)))
    ∙ zeros_then_length max_depth max_depth max_depth (omega arith) (omega arith) (identifier_value x) (identifier_value y) (omega (arith, dx)) (omega (arith, dy))

pub name_order : (x y : Name)
    → ordering_then (nat_cmp x.height.0 y.height.0) (ordering_then (ordering_then (slice_cmp nat_cmp x.sender.numbers y.sender.numbers) (nat_cmp x.sender.depth y.sender.depth)) (nat_cmp x.index y.index))
    ≡ order_names (name_value x) (name_value y)
name_order x y = ap (λ o. ordering_then (nat_cmp x.height.0 y.height.0) (ordering_then o (nat_cmp x.index y.index))) (identifier_order x.sender y.sender)
