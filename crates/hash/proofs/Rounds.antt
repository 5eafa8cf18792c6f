-- The rounds, sixteen at a time.
use Rattle.std.proofs.Common.{◌≡◌, ℕ, zero, suc, ◌+◌, ◌-◌, ◌*◌, ◌≤◌, List, ◌++◌, length, get_or, take, drop, refl, ap, ◌∙◌, add-zero, add-suc, arith}
use Rattle.std.proofs.lemmas.List.{get_or_append_left, get_or-append_right}
use Rattle.hash.specs.Sizes.{block_words, round_count}
use Rattle.hash.specs.Sha256.{constants, after_rounds, extended, words_after}
use Rattle.hash.proofs.Schedule.{schedule_split, words_after_length}

-- the first rounds read the first constants and words alone
rounds_front : (n : ℕ) (ks ks' ws ws' v : List ℕ) → n ≤ length ks → n ≤ length ws
    → after_rounds n (ks ++ ks') (ws ++ ws') v ≡ after_rounds n ks ws v
unfolding after_rounds
rounds_front zero ks ks' ws ws' v hk hw = refl
rounds_front (suc n) ks ks' ws ws' v hk hw =
    let k = get_or_append_left ks ks' 0 n (omega arith) in
    let w = get_or_append_left ws ws' 0 n (omega arith) in
    let i = rounds_front n ks ks' ws ws' v (omega arith) (omega arith) in
    cc

rounds_split : (n m : ℕ) (ks ks' ws ws' v : List ℕ) → length ks ≡ n → length ws ≡ n
    → after_rounds (n + m) (ks ++ ks') (ws ++ ws') v ≡ after_rounds m ks' ws' (after_rounds n ks ws v)
unfolding after_rounds
rounds_split n zero ks ks' ws ws' v hk hw =
    ap (λ t. after_rounds t (ks ++ ks') (ws ++ ws') v) (add-zero n) ∙ rounds_front n ks ks' ws ws' v (omega arith) (omega arith)
rounds_split n (suc m) ks ks' ws ws' v hk hw =
    let s : after_rounds (n + suc m) (ks ++ ks') (ws ++ ws') v ≡ after_rounds (suc (n + m)) (ks ++ ks') (ws ++ ws') v =
    ap (λ t. after_rounds t (ks ++ ks') (ws ++ ws') v) (add-suc n m) in
    let k : get_or (ks ++ ks') (n + m) 0 ≡ get_or ks' m 0 = get_or-append_right ks ks' n (n + m) 0 hk (omega arith) ∙ ap (λ i. get_or ks' i 0) (omega arith) in
    let w : get_or (ws ++ ws') (n + m) 0 ≡ get_or ws' m 0 = get_or-append_right ws ws' n (n + m) 0 hw (omega arith) ∙ ap (λ i. get_or ws' i 0) (omega arith) in
    let i = rounds_split n m ks ks' ws ws' v hk hw in
    cc

-- sixteen rounds, and the others go on with the schedule from the sixteen words after
group : (m n : ℕ) (ks ks' ws v : List ℕ) → length ks ≡ block_words → length ws ≡ block_words
    → after_rounds (block_words + m) (ks ++ ks') (extended (block_words + n) ws) v
    ≡ after_rounds m ks' (extended n (words_after ws)) (after_rounds block_words ks ws v)
group m n ks ks' ws v hk hw =
    ap (λ s. after_rounds (block_words + m) (ks ++ ks') s v) (schedule_split n ws hw)
    ∙ rounds_split block_words m ks ks' ws (extended n (words_after ws)) v hk hw

-- the constants of sixteen rounds, from the group g on
abbrev pub row : ℕ → List ℕ
row g = take block_words (drop (block_words * g) constants)

-- the rounds of a compression, by groups
pub four_groups : (ws v : List ℕ) → length ws ≡ block_words
    → after_rounds round_count constants (extended (round_count - block_words) ws) v
    ≡ after_rounds block_words (row 3) (words_after (words_after (words_after ws)))
    (after_rounds block_words (row 2) (words_after (words_after ws))
    (after_rounds block_words (row 1) (words_after ws) (after_rounds block_words (row 0) ws v)))
unfolding constants extended
four_groups ws v h =
    let h1 = words_after_length ws h in
    let h2 = words_after_length (words_after ws) h1 in
    group 48 32 (row 0) (row 1 ++ (row 2 ++ row 3)) ws v refl h
    ∙ group 32 16 (row 1) (row 2 ++ row 3) (words_after ws) _ refl h1
    ∙ group 16 0 (row 2) (row 3) (words_after (words_after ws)) _ refl h2
