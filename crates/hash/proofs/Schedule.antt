-- The message schedule, sixteen words at a time.
use Rattle.std.proofs.Common.{◌≡◌, ℕ, zero, suc, ◌+◌, ◌-◌, ◌≤◌, List, [], ◌∷◌, ◌++◌, length, get_or, drop, sym, refl, ap, ◌∙◌, append_assoc, suc-add, zero-add, arith}
use Rattle.std.proofs.lemmas.List.{append-nil, drop_at, drop-append-le, get_or-drop, length-append, length-drop}
use Rattle.hash.specs.Sizes.{block_words}
use Rattle.hash.specs.Sha256.{word_after, words_after, extended, back}

-- the word that follows some
next : List ℕ → ℕ
next ws = word_after (back 16 ws) (back 15 ws) (back 7 ws) (back 2 ws)

extended_length : (n : ℕ) (ws : List ℕ) → length (extended n ws) ≡ n + length ws
unfolding next extended
extended_length zero ws = omega arith
extended_length (suc n) ws = extended_length n (ws ++ next ws ∷ []) ∙ simp length-append (omega arith)

extended_add : (n m : ℕ) (ws : List ℕ) → extended (n + m) ws ≡ extended m (extended n ws)
unfolding next extended
extended_add zero m ws = ap (λ k. extended k ws) (zero-add m)
extended_add (suc n) m ws = ap (λ k. extended k ws) (suc-add n m) ∙ extended_add n m (ws ++ next ws ∷ [])

-- the words that are extended stand in front
front_of : (xs ws ys : List ℕ) → xs ≡ ws ++ ys → xs ≡ ws ++ drop (length ws) xs
front_of xs ws ys e = e ∙ ap (λ z. ws ++ z) (sym (ap (drop (length ws)) e ∙ drop_at ws ys (length ws) refl))

extended_front : (n : ℕ) (ws : List ℕ) → extended n ws ≡ ws ++ drop (length ws) (extended n ws)
unfolding next extended
extended_front zero ws = front_of ws ws [] (sym (append-nil ws))
extended_front (suc n) ws =
    front_of (extended (suc n) ws) ws _ (extended_front n (ws ++ next ws ∷ []) ∙ append_assoc ws (next ws ∷ []) _)

-- a word depends on the sixteen before it alone
back_drop : (j k : ℕ) (ws : List ℕ) → k + j ≤ length ws → back j (drop k ws) ≡ back j ws
back_drop j k ws h =
    get_or-drop k ws (length (drop k ws) - j) 0 ∙ ap (λ i. get_or ws i 0) (let l = length-drop k ws in omega arith)

next_drop : (k : ℕ) (ws : List ℕ) → k + 16 ≤ length ws → next (drop k ws) ≡ next ws
unfolding next
next_drop k ws h =
    let e16 = back_drop 16 k ws (omega arith) in
    let e15 = back_drop 15 k ws (omega arith) in
    let e7 = back_drop 7 k ws (omega arith) in
    let e2 = back_drop 2 k ws (omega arith) in
    cc

extended_drop : (m k : ℕ) (ws : List ℕ) → k + 16 ≤ length ws → drop k (extended m ws) ≡ extended m (drop k ws)
unfolding next extended
extended_drop zero k ws h = refl
extended_drop (suc m) k ws h =
    extended_drop m k (ws ++ next ws ∷ []) (simp length-append (omega arith))
    ∙ ap (extended m) (drop-append-le k ws (next ws ∷ []) (omega arith) ∙ ap (λ x. drop k ws ++ x ∷ []) (sym (next_drop k ws h)))

-- sixteen words, and the schedule goes on from the sixteen after them
pub schedule_split : (m : ℕ) (ws : List ℕ) → length ws ≡ block_words
    → extended (block_words + m) ws ≡ ws ++ extended m (words_after ws)
schedule_split m ws e =
    let long : 16 + 16 ≤ length (extended 16 ws) = omega (arith, extended_length 16 ws) in
    extended_front (16 + m) ws
    ∙ ap (λ z. ws ++ z)
    (ap (λ k. drop k (extended (16 + m) ws)) e ∙ ap (drop 16) (extended_add 16 m ws) ∙ extended_drop m 16 (extended 16 ws) long)

pub words_after_length : (ws : List ℕ) → length ws ≡ block_words → length (words_after ws) ≡ block_words
words_after_length ws e = length-drop block_words (extended block_words ws) ∙ omega (arith, extended_length block_words ws)
