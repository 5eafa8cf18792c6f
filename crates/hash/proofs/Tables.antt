-- The tables of SHA-256 by the roots of primes: one computed test for each, and what it says of each entry.
use Rattle.std.proofs.Common.{◌≡◌, ℕ, zero, suc, ◌+◌, ◌-◌, ◌*◌, ◌%◌, ◌^◌, ◌<◌, Bool, true, cond, not, ◌&&◌, eqb, ltb, leb, List, [], ◌∷◌, length, get_or, filter, sym, refl, ap, ◌∙◌, subst, ⊎_elim, arith}
use Rattle.std.specs.List.{range_with_len, AllByRecursion}
use Rattle.std.proofs.lemmas.Bool.{and_parts, and_from, cases_eq, cases_Bool, cond-true, cond-false, not-true, not_from_false, eqb-false, ne_eqb, le-leb, leb-true, ltb-true}
use Rattle.std.proofs.lemmas.List.FromFn.{get_or-range_with_len, length-range_with_len}
use Rattle.std.proofs.ByRecursion.{kept_by_passes, All-get_or}
use Rattle.hash.specs.Sizes.{word_bits, hash_words, round_count}
use Rattle.hash.specs.Sha256.{constants, initial}
use Rattle.hash.specs.Primes.{Prime, FirstPrimes, primes, RootBits}
use Rattle.hash.specs.Laws.{TableLaw}

-- a test of each number below n
abbrev every : ℕ → (ℕ → Bool) → Bool
every zero f = true
every (suc n) f = f n && every n f

every_at : (n : ℕ) (f : ℕ → Bool) → every n f ≡ true → (k : ℕ) → k < n → f k ≡ true
every_at zero f t k h = absurd (omega arith)
every_at (suc n) f t k h =
    let both = and_parts (f n) (every n f) t in
    ⊎_elim (λ e. ap f e ∙ both.0) (λ ne. every_at n f both.1 k (omega arith)) (cases_eq k n)

every_from : (n : ℕ) (f : ℕ → Bool) → ((k : ℕ) → k < n → f k ≡ true) → every n f ≡ true
every_from zero f h = refl
every_from (suc n) f h = and_from (f n) (every n f) (h n (omega arith)) (every_from n f (λ k l. h k (omega arith)))

-- trial division by each number from 2 on
no_divisor : ℕ → ℕ → Bool
no_divisor p n = not (eqb (p % (2 + n)) 0)

is_prime : ℕ → Bool
is_prime p = leb 2 p && every (p - 2) (no_divisor p)

prime_from_test : (p : ℕ) → is_prime p ≡ true → Prime p
unfolding is_prime no_divisor
prime_from_test p t =
    let both = and_parts (leb 2 p) (every (p - 2) (no_divisor p)) t in (
      leb-true 2 p both.0,
      λ d low high e.
          let at : 2 + (d - 2) ≡ d = omega arith in
          eqb-false (p % (2 + (d - 2))) 0 (not-true _ (every_at (p - 2) (no_divisor p) both.1 (d - 2) (omega arith)))
          (ap (λ n. p % n) at ∙ e),
    )

test_from_prime : (p : ℕ) → Prime p → is_prime p ≡ true
unfolding is_prime no_divisor
test_from_prime p prime =
    and_from (leb 2 p) (every (p - 2) (no_divisor p)) (le-leb 2 p prime.0)
    (every_from (p - 2) (no_divisor p)
    (λ k h. not_from_false _ (ne_eqb (p % (2 + k)) 0 (prime.1 (2 + k) (omega arith) (omega arith)))))

-- a filter keeps what passes
Holds : List ℕ → ℕ → Type 0
Holds xs x = (i : ℕ) × (i < length xs) × (get_or xs i 0 ≡ x)

kept : (test : ℕ → Bool) (xs : List ℕ) (x i : ℕ) → i < length xs → get_or xs i 0 ≡ x → test x ≡ true → Holds (filter test xs) x
unfolding Holds
kept test [] x i h e t = absurd (omega arith)
kept test (y ∷ ys) x zero h e t =
    let s : y ∷ filter test ys ≡ filter test (y ∷ ys) = sym (cond-true (test y) (y ∷ filter test ys) (filter test ys) (ap test e ∙ t)) in
    subst (λ zs. Holds zs x) s (0, omega arith, e)
kept test (y ∷ ys) x (suc i) h e t =
    let there : Holds (filter test ys) x = kept test ys x i (omega arith) e t in
    ⊎_elim
    (λ b. subst (λ zs. Holds zs x) (sym (cond-true (test y) (y ∷ filter test ys) (filter test ys) b)) (suc there.0, omega (arith, there.1), there.2))
    (λ b. subst (λ zs. Holds zs x) (sym (cond-false (test y) (y ∷ filter test ys) (filter test ys) b)) there)
    (cases_Bool (test y))

-- the primes up to 311, by trial division of each number
primes_kept : filter is_prime (range_with_len 2 310) ≡ primes
unfolding is_prime no_divisor primes
primes_kept = refl

below_next : ℕ → Bool
below_next i = ltb (get_or primes i 0) (get_or primes (i + 1) 0)

ascending : every (round_count - 1) below_next ≡ true
unfolding primes below_next
ascending = refl

last_prime : (length primes ≡ round_count) × (get_or primes (length primes - 1) 0 ≡ 311)
unfolding primes
last_prime = (refl, refl)

first_primes : FirstPrimes primes
unfolding Holds below_next
first_primes =
    record {
      prime = λ i h.
          prime_from_test (get_or primes i 0)
          (All-get_or (λ p. is_prime p ≡ true) primes i 0 h (subst (AllByRecursion (λ p. is_prime p ≡ true)) primes_kept (kept_by_passes is_prime (range_with_len 2 310))));
      ascend = λ i h. ltb-true _ _ (every_at (round_count - 1) below_next ascending i (omega (arith, last_prime.0)));
      all = λ p prime h.
          subst (λ ps. Holds ps p) primes_kept
          (kept is_prime (range_with_len 2 310) p (p - 2) (omega (arith, prime.0, last_prime.1, length-range_with_len 2 310))
          (get_or-range_with_len 2 310 (p - 2) 0 (omega (arith, prime.0, last_prime.1)) ∙ omega (arith, prime.0)) (test_from_prime p prime));
    }

-- the greatest r up to n whose power of the degree k is at most p
root : ℕ → ℕ → ℕ → ℕ
root k p zero = 0
root k p (suc n) = cond (leb (suc n ^ k) p) (suc n) (root k p n)

-- enough for the roots of the primes here
whole_part : ℕ → ℕ → ℕ
whole_part k p = root k p 7

root_test : ℕ → ℕ → ℕ → Bool
root_test k p x =
    ltb x (2 ^ word_bits)
    && (leb ((whole_part k p * 2 ^ word_bits + x) ^ k) (p * 2 ^ (word_bits * k))
    && ltb (p * 2 ^ (word_bits * k)) ((whole_part k p * 2 ^ word_bits + x + 1) ^ k))

root_bits : (k p x : ℕ) → root_test k p x ≡ true → RootBits k p x
unfolding root_test
root_bits k p x t =
    let word = and_parts _ _ t in
    let bounds = and_parts _ _ word.1 in
    record {
      whole = whole_part k p;
      word = ltb-true _ _ word.0;
      at_most = leb-true _ _ bounds.0;
      next_above = ltb-true _ _ bounds.1;
    }

-- each entry of a table by the prime in its place
table_test : ℕ → List ℕ → ℕ → Bool
table_test k xs i = root_test k (get_or primes i 0) (get_or xs i 0)

constants_test : every round_count (table_test 3 constants) ≡ true
unfolding primes constants table_test root_test whole_part root
constants_test = refl

initial_test : every hash_words (table_test 2 initial) ≡ true
unfolding primes table_test root_test whole_part root
initial_test = refl

pub table_law : TableLaw
unfolding table_test
table_law =
    record {
      count = last_prime.0;
      first = first_primes;
      constant = λ t h. root_bits 3 _ _ (every_at round_count (table_test 3 constants) constants_test t h);
      start = λ i h. root_bits 2 _ _ (every_at hash_words (table_test 2 initial) initial_test i h);
    }
