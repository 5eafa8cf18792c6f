-- Numbers in bytes, over the width.
use Rattle.std.proofs.Common.{◌≡◌, ℕ, zero, suc, ◌+◌, ◌*◌, ◌/◌, ◌%◌, ◌^◌, ◌<◌, List, [], ◌∷◌, ◌++◌, length, get_or, take, sym, refl, ap, ◌∙◌, subst, add-mul, one-mul, pow-suc, arith, lit<, length-append}
use Rattle.std.proofs.lemmas.Nat.{div-add-mod', div_below, div-mul-add, mod-mul-add}
use Rattle.std.proofs.lemmas.Int.Digits.{number_push, number_lt}
use Rattle.std.proofs.ByRecursion.{All-get_or, All-take}
use Rattle.std.proofs.lemmas.List.{nil_from_length, take_all, take_more, length-take-le}
use Rattle.std.specs.List.{flat_map, AllByRecursion}
pub use Rattle.hash.proofs.Lists.{map_by_places, chunk_length}
use Rattle.hash.proofs.Lists.{written_out}
use Rattle.format.specs.Numbers.{to_bytes, from_bytes}

pub length_of_bytes : (w n : ℕ) → length (to_bytes w n) ≡ w
length_of_bytes zero n = refl
length_of_bytes (suc w) n = length-append (to_bytes w (n / 256)) (n % 256 ∷ []) ∙ ap (λ k. k + 1) (length_of_bytes w (n / 256)) ∙ omega arith

pub length_joined : {X : Type 0} (f : X → List ℕ) (w : ℕ) → ((x : X) → length (f x) ≡ w) → (xs : List X) → length (flat_map f xs) ≡ length xs * w
length_joined f w each [] = omega arith
length_joined f w each (x ∷ xs) =
    length-append (f x) (flat_map f xs) ∙ (λ i. each x i + length_joined f w each xs i) ∙ omega (arith, add-mul 1 (length xs) w, one-mul w)

-- two, four and eight bytes, as the standard library reads them
pub number_of_two : (bs : List ℕ) → length bs ≡ 2 → get_or bs 0 0 * 256 + get_or bs 1 0 ≡ from_bytes bs
number_of_two bs e = omega arith ∙ ap from_bytes (sym (written_out bs 2 e))

-- a number in enough bytes is read back
pub number_back : (w n : ℕ) → n < 256 ^ w → from_bytes (to_bytes w n) ≡ n
number_back zero n h = omega (arith, h)
number_back (suc w) n h =
    number_push 256 (to_bytes w (n / 256)) (n % 256)
    ∙ ap (λ k. k * 256 + n % 256) (number_back w (n / 256) (div_below n 256 (256 ^ w) (lit< tt) (subst (λ k. n < k) (pow-suc 256 w) h)))
    ∙ div-add-mod' n 256

-- bytes are written back
pub bytes_back : (w : ℕ) (bs : List ℕ) → length bs ≡ w → AllByRecursion (λ b. b < 256) bs → to_bytes w (from_bytes bs) ≡ bs
bytes_back zero bs e low = sym (nil_from_length bs e)
bytes_back (suc w) bs e low =
    let h : w < length bs = omega arith in
    let last = get_or bs w 0 in
    let small = All-get_or (λ b. b < 256) bs w 0 h low in
    let split : bs ≡ take w bs ++ (last ∷ []) = sym (take_all (w + 1) bs (omega arith)) ∙ take_more bs w 0 h in
    let n : from_bytes bs ≡ from_bytes (take w bs) * 256 + last = ap from_bytes split ∙ number_push 256 (take w bs) last in
    let high : from_bytes bs / 256 ≡ from_bytes (take w bs) = ap (λ k. k / 256) n ∙ div-mul-add (from_bytes (take w bs)) 256 last small in
    let lowest : from_bytes bs % 256 ≡ last = ap (λ k. k % 256) n ∙ mod-mul-add (from_bytes (take w bs)) 256 last small in
    (λ i. to_bytes w (high i) ++ (lowest i ∷ []))
    ∙ ap (λ z. z ++ (last ∷ [])) (bytes_back w (take w bs) (length-take-le w bs (omega arith)) (All-take (λ b. b < 256) w bs low))
    ∙ sym split

pub number_low : (bs : List ℕ) → AllByRecursion (λ b. b < 256) bs → from_bytes bs < 256 ^ length bs
number_low bs low = number_lt 256 bs low
