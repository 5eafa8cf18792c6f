-- What steps in a row come to.
use Rattle.std.proofs.Common.{◌≡◌, ℕ, ◌+◌, ◌<◌, ◌≤◌, Bool, true, false, cond, not, ◌&&◌, eqb, List, [], ◌∷◌, map, length, get_or, drop, ℤ, pos, ◌+ℤ◌, ◌-ℤ◌, Some, None, Option, sym, refl, ap, ◌∙◌, subst, arith}
use lib.Signed.{lt_z}
use Rattle.std.proofs.lemmas.List.{at_drop_more, at_drop_all}
use Rattle.std.proofs.lemmas.Int.{ints}
use Rattle.std.proofs.lemmas.Bool.Decides.{nat_tests}
use Rattle.applications.specs.Steps.{SentValue, StepValue, ApplicationValue, Refuses, Gives, refuse_unless}
use Rattle.applications.specs.Ring.{offset_allowed, counts_allowed, counted, with_left, ring_register, record_and_send, record_only, recorded}
use Rattle.applications.specs.Stock.{cast, send_off, place_order, delivery, order, lot_allowed, stock_allowed, kept, said, taking, without_taking, segment_stock}
use Rattle.applications.specs.Meaning.{asked_value}
use Rattle.applications.specs.declared.running.Asked.{Asked}
use Rattle.applications.specs.Tallies.{AskedStep, by_operation, by_message, TallyValue, made, onward, tally_from, offset_of, left_of_axis, RingsAreCounted, added, taken, arrived, total, StockBalances}

-- the numbers of a tally, where no step was refused
abbrev Ends : ℤ → ℤ → TallyValue → Type 0
Ends x y t = t.stop ≡ None → (t.a ≡ x) × (t.b ≡ y)

same_ends : (x y x' y' : ℤ) (t : TallyValue) → x ≡ x' → y ≡ y' → Ends x y t → Ends x' y' t
same_ends x y x' y' t e d h p = ((h p).0 ∙ e, (h p).1 ∙ d)

-- ---- a step, refused or not
module _ (next : ℤ → ℤ → TallyValue) (place : ℕ) (a b x y : ℤ) where
  abbrev after : StepValue → TallyValue
  after = onward next place a b

  refused : (n : ℕ) → Ends x y (after (Refuses n))
  refused n p = let z : ◌≡◌ {A = ℕ} 0 1 = cc in absurd (omega arith)

  unless : (t : Bool) (n : ℕ) (s : StepValue) → Ends x y (after s) → Ends x y (after (refuse_unless t n s))
  unless true n s h = h
  unless false n s h = refused n

  choose : (t : Bool) (s u : StepValue) → (t ≡ true → Ends x y (after s)) → (t ≡ false → Ends x y (after u)) → Ends x y (after (cond t s u))
  choose true s u f g = f refl
  choose false s u f g = g refl

  -- a ring is counted
  ring_counted : (v : ℤ) (sent : Option SentValue) → Ends x y (next (a +ℤ pos 1) (with_left b v)) → Ends x y (after (counted a b v sent))
  ring_counted v sent h =
      let step = Gives (a +ℤ pos 1) (with_left b v) sent in
      unless (offset_allowed v) 2 (refuse_unless (counts_allowed a b) 3 step) (unless (counts_allowed a b) 3 step h)

  ring_step : (s : AskedStep) → Ends x y (next (a +ℤ pos 1) (with_left b (offset_of s))) → Ends x y (after (made ring_register a b s))
  ring_step (by_operation code v) h =
      let sends = Some (record { code = recorded; value = v }) in
      choose (eqb code record_and_send) (counted a b v sends) (cond (eqb code record_only) (counted a b v None) (Refuses 1)) (λ _. ring_counted v sends h)
      (λ _. choose (eqb code record_only) (counted a b v None) (Refuses 1) (λ _. ring_counted v None h) (λ _. refused 1))
  ring_step (by_message code v) h = choose (eqb code recorded) (counted a b v None) (Refuses 1) (λ _. ring_counted v None h) (λ _. refused 1)

  -- nothing is taken: numbers within their limits
  stock_kept : (n a' b' : ℤ) (sent : Option SentValue) → Ends x y (next a' b') → Ends x y (after (without_taking a b n a' b' sent))
  stock_kept n a' b' sent h =
      unless (lot_allowed n) 2 (kept a b a' b' sent)
      (unless ((stock_allowed a && stock_allowed b) && (stock_allowed a' && stock_allowed b')) 4 (Gives a' b' sent) h)

  stock_taken : (n : ℤ) → Ends x y (next (a -ℤ n) b) → Ends x y (after (taking a b n))
  stock_taken n h =
      let step = kept a b (a -ℤ n) b (said delivery n) in
      unless (lot_allowed n) 2 (refuse_unless (not (lt_z a n)) 3 step)
      (unless (not (lt_z a n)) 3 step
      (unless ((stock_allowed a && stock_allowed b) && (stock_allowed (a -ℤ n) && stock_allowed b)) 4 (Gives (a -ℤ n) b (said delivery n)) h))

  -- what each step does to the numbers, by its code
  moved : (d e a' b' : ℤ) → a +ℤ d ≡ a' → b +ℤ e ≡ b' → Ends x y (next (a +ℤ d) (b +ℤ e)) → Ends x y (next a' b')
  moved d e a' b' p q h = subst (λ z. Ends x y (next z b')) p (subst (λ z. Ends x y (next (a +ℤ d) z)) q h)

  stock_step : (s : AskedStep) → Ends x y (next (a +ℤ (added s -ℤ taken s)) (b +ℤ arrived s)) → Ends x y (after (made segment_stock a b s))
  stock_step (by_operation code n) h =
      choose (eqb code cast) (without_taking a b n (a +ℤ n) b None) _
      (λ t. let f : eqb code send_off ≡ false = grind (arith, nat_tests) in stock_kept n (a +ℤ n) b None (moved _ _ _ _ (rw (t, f) (omega (arith, ints))) (omega (arith, ints)) h))
      (λ u. choose (eqb code send_off) (taking a b n) _
      (λ t. stock_taken n (moved _ _ _ _ (rw (u, t) (omega (arith, ints))) (omega (arith, ints)) h))
      (λ v. choose (eqb code place_order) (without_taking a b n a b (said order n)) (Refuses 1)
      (λ t. stock_kept n a b (said order n) (moved _ _ _ _ (rw (u, v) (omega (arith, ints))) (omega (arith, ints)) h)) (λ _. refused 1)))
  stock_step (by_message code n) h =
      choose (eqb code delivery) (without_taking a b n (a +ℤ n) (b +ℤ n) None) _
      (λ t. let f : eqb code order ≡ false = grind (arith, nat_tests) in stock_kept n (a +ℤ n) (b +ℤ n) None (moved _ _ _ _ (rw (t, f) (omega (arith, ints))) (rw t) h))
      (λ u. choose (eqb code order) (taking a b n) (Refuses 1)
      (λ t. stock_taken n (moved _ _ _ _ (rw (u, t) (omega (arith, ints))) (rw u (omega (arith, ints))) h)) (λ _. refused 1))

-- ---- the ring register
left_more : (b v : ℤ) (n : ℕ) → with_left b v +ℤ pos n ≡ b +ℤ pos (cond (lt_z v (pos 0)) 1 0 + n)
left_more b v n = one (lt_z v (pos 0))
  where
    one : (t : Bool) → cond t (b +ℤ pos 1) b +ℤ pos n ≡ b +ℤ pos (cond t 1 0 + n)
    one true = omega (arith, ints)
    one false = omega (arith, ints)

ring_from : (ss : List AskedStep) (place : ℕ) (a b : ℤ)
    → Ends (a +ℤ pos (length ss)) (b +ℤ pos (left_of_axis ss)) (tally_from ring_register ss place a b)
ring_from [] place a b = λ p. (omega (arith, ints), omega (arith, ints))
ring_from (s ∷ ss) place a b =
    ring_step (tally_from ring_register ss (place + 1)) place a b _ _ s
    (same_ends ((a +ℤ pos 1) +ℤ pos (length ss)) (with_left b (offset_of s) +ℤ pos (left_of_axis ss)) _ _ _
    (omega (arith, ints)) (left_more b (offset_of s) (left_of_axis ss))
    (ring_from ss (place + 1) (a +ℤ pos 1) (with_left b (offset_of s))))

pub rings_are_counted : RingsAreCounted
rings_are_counted ss = same_ends (pos 0 +ℤ pos (length ss)) (pos 0 +ℤ pos (left_of_axis ss)) _ _ _ (omega (arith, ints)) (omega (arith, ints)) (ring_from ss 0 (pos 0) (pos 0))

-- ---- the segment stock
stock_from : (ss : List AskedStep) (place : ℕ) (a b : ℤ)
    → Ends (a +ℤ (total added ss -ℤ total taken ss)) (b +ℤ total arrived ss) (tally_from segment_stock ss place a b)
stock_from [] place a b = λ p. (omega (arith, ints), omega (arith, ints))
stock_from (s ∷ ss) place a b =
    stock_step (tally_from segment_stock ss (place + 1)) place a b _ _ s
    (same_ends ((a +ℤ (added s -ℤ taken s)) +ℤ (total added ss -ℤ total taken ss)) ((b +ℤ arrived s) +ℤ total arrived ss) _ _ _
    (omega (arith, ints)) (omega (arith, ints))
    (stock_from ss (place + 1) (a +ℤ (added s -ℤ taken s)) (b +ℤ arrived s)))

pub stock_balances : StockBalances
stock_balances ss =
    same_ends (pos 0 +ℤ (total added ss -ℤ total taken ss)) (pos 0 +ℤ total arrived ss) _ _ _ (omega (arith, ints)) (omega (arith, ints))
    (stock_from ss 0 (pos 0) (pos 0))

-- ---- a loop over the steps: those that are left, from a place on, make the tally whole
module _ (A : ApplicationValue) (steps : List Asked) (place : ℕ) (a b : ℤ) (whole : TallyValue)
    (so_far : tally_from A (map asked_value (drop place steps)) place a b ≡ whole) where
  abbrev left_over : ℤ → ℤ → TallyValue
  left_over = tally_from A (map asked_value (drop (place + 1) steps)) (place + 1)

  here : (d : Asked) → place < length steps → onward left_over place a b (made A a b (asked_value (get_or steps place d))) ≡ whole
  here d h = sym (at_drop_more (λ l. tally_from A (map asked_value l) place a b) steps place d h) ∙ so_far

  pub one_refused : (d : Asked) (n : ℕ) → place < length steps → Refuses n ≡ made A a b (asked_value (get_or steps place d)) → onward left_over place a b (Refuses n) ≡ whole
  one_refused d n h e = ap (onward left_over place a b) e ∙ here d h

  pub one_made : (d : Asked) (a' b' : ℤ) (sent : Option SentValue) → place < length steps
      → Gives a' b' sent ≡ made A a b (asked_value (get_or steps place d)) → left_over a' b' ≡ whole
  one_made d a' b' sent h e = ap (onward left_over place a b) e ∙ here d h

  pub all_made : length steps ≤ place → record { a = a; b = b; stop = None } ≡ whole
  all_made h = sym (at_drop_all (λ l. tally_from A (map asked_value l) place a b) steps place h) ∙ so_far
