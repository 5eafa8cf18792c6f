-- Lists that are known place by place.
use Rattle.std.proofs.Common.{◌≡◌, ℕ, zero, suc, ◌*◌, ◌<◌, ◌≤◌, List, [], map, length, get_or, drop, sym, refl, ap, ◌∙◌, suc-mul, arith}
use Rattle.std.specs.List.{range_with_len}
use Rattle.std.specs.Simd.{first_chunks}
use Rattle.std.proofs.lemmas.List.{ext_get_or, get_or-map, length-map, length-take-le, length-drop}
use Rattle.std.proofs.lemmas.List.FromFn.{fill_by_all}

pub map_by_places : {X : Type 0} (f : X → ℕ) (d : X) (xs : List X) (ys : List ℕ) → length ys ≡ length xs
    → ((k : ℕ) → k < length xs → get_or ys k 0 ≡ f (get_or xs k d)) → ys ≡ map f xs
map_by_places f d xs ys l h =
    ext_get_or 0 ys (map f xs) (l ∙ sym (length-map xs f))
    (λ i b. let lt : i < length xs = omega arith in h i lt ∙ sym (get_or-map f xs i d 0 lt))

-- a list of a known length, written out
pub written_out : (xs : List ℕ) (n : ℕ) → length xs ≡ n → xs ≡ map (λ i. get_or xs i 0) (range_with_len 0 n)
written_out xs n e = fill_by_all (λ i. get_or xs i 0) xs n 0 e (λ k h. refl)

-- each of the first k runs of n elements has n
pub chunk_length : {X : Type 0} (n k : ℕ) (xs : List X) (i : ℕ) → k * n ≤ length xs → i < k → length (get_or (first_chunks n k xs) i []) ≡ n
chunk_length n zero xs i fits h = absurd (omega arith)
chunk_length n (suc k) xs zero fits h = length-take-le n xs (omega (arith, suc-mul k n))
chunk_length n (suc k) xs (suc i) fits h =
    chunk_length n k (drop n xs) i (omega (arith, suc-mul k n, length-drop n xs)) (omega arith)

pub length_chunked : {X : Type 0} (n k : ℕ) (xs : List X) → length (first_chunks n k xs) ≡ k
length_chunked n zero xs = refl
length_chunked n (suc k) xs = ap suc (length_chunked n k (drop n xs))
