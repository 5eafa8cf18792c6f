-- What `find` answers, on lists in which no two rows have one key, and after a change of one row.
use Rattle.std.proofs.Common.{◌≡◌, ℕ, zero, suc, ◌+◌, ◌<◌, Bool, true, false, ◌≢◌, ◌⊎◌, List, [], ◌∷◌, ◌++◌, length, get_or, take, set, is_some, IfSome, Some, None, Decides, Option, sym, refl, ap, ◌∙◌, subst, inl, inr, arith}
use Rattle.std.proofs.lemmas.List.{get_or-set_same, get_or-set_other, length-set, get_or-take, get_or_append_left, get_or_push, length_push, length-take-le}
use Rattle.std.proofs.lemmas.Bool.{cases_Bool, both_ways, cases_eq, cases_lt}
use Rattle.books.specs.Books.{updated}
use Rattle.books.specs.Lists.{find, Before, Absent, Apart}
use Rattle.books.proofs.Lists.{split, In, in_place}

module _ {R K : Type 0} (key : R → K) (same : K → K → Bool) where
  pub find_absent : (rs : List R) (k : K) → Absent key same rs k → find key same rs k ≡ None
  find_absent [] k h = refl
  find_absent (r ∷ rs) k h = rw (h 0 r (omega arith)) (find_absent rs k (λ i d l. h (suc i) d (omega arith)))

  pub find_first : (rs : List R) (k : K) (i : ℕ) (d : R) → i < length rs → same (key (get_or rs i d)) k ≡ true → Before key same rs k i → find key same rs k ≡ Some (get_or rs i d)
  find_first [] k i d l e b = absurd (omega arith)
  find_first (r ∷ rs) k zero d l e b = rw e
  find_first (r ∷ rs) k (suc i) d l e b = rw (b 0 d (omega arith)) (find_first rs k i d (omega arith) e (λ j x m. b (suc j) x (omega arith)))

  -- a row that has the key, by its place
  abbrev pub Spot : List R → K → ℕ → Type 0
  Spot rs k i = (i < length rs) × ((d : R) → same (key (get_or rs i d)) k ≡ true)

  later : (rs : List R) (r : R) (k : K) → same (key r) k ≡ false → Absent key same rs k → Absent key same (r ∷ rs) k
  later rs r k e a zero d l = e
  later rs r k e a (suc i) d l = a i d (omega arith)

  pub find_cases : (rs : List R) (k : K) → Absent key same rs k ⊎ ((i : ℕ) × Spot rs k i)
  find_cases [] k = inl (λ i d l. absurd (omega arith))
  find_cases (r ∷ rs) k = split (cases_Bool (same (key r) k))
      (λ e. inr (0, (omega arith, λ d. e)))
      (λ e. split (find_cases rs k)
      (λ a. inl (later rs r k e a))
      (λ p. inr (suc p.0, (let l : p.0 < length rs = p.1.0 in omega arith, λ d. p.1.1 d))))

  module _ (decides : (x y : K) → Decides (same x y) (x ≡ y)) where
    agrees : (x y : K) → same x y ≡ true → x ≡ y
    agrees x y = (decides x y).0

    itself : (x : K) → same x x ≡ true
    itself x = (decides x x).1 refl

    flip : (x y : K) → same x y ≡ false → same y x ≡ false
    flip x y h = split (cases_Bool (same y x))
        (λ e. absurd (both_ways (same x y) h (subst (λ z. same x z ≡ true) (sym (agrees y x e)) (itself x))))
        (λ e. e)

    -- two keys that are both the same as a third
    both_same : (x y z : K) → same x z ≡ true → same y z ≡ true → same x y ≡ true
    both_same x y z e h = rw (agrees x z e, agrees y z h) (itself z)

    differs : (x y z : K) → same x z ≡ true → same x y ≡ false → same y z ≡ false
    differs x y z e h = split (cases_Bool (same y z))
        (λ t. absurd (both_ways (same x y) h (both_same x y z e t)))
        (λ t. t)

    pub find_at : (rs : List R) (k : K) (i : ℕ) (d : R) → Apart key same rs → Spot rs k i → find key same rs k ≡ Some (get_or rs i d)
    find_at rs k i d apart s = find_first rs k i d s.0 (s.1 d)
        (λ j x l. differs (key (get_or rs i x)) (key (get_or rs j x)) k (s.1 x) (flip _ _ (apart (j, i, x, l, s.0))))

    pub find_in : (rs : List R) (k : K) (r : R) → find key same rs k ≡ Some r → In r rs × (key r ≡ k)
    find_in [] k r e = absurd (let z : ◌≡◌ {A = ℕ} 0 1 = cc in omega arith)
    find_in (x ∷ xs) k r e = split (cases_Bool (same (key x) k))
        (λ t. let h : Some x ≡ Some r = rw t at e in let g : r ≡ x = cc in (inl g, ap key g ∙ agrees (key x) k t))
        (λ t. let p = find_in xs k r (rw t at e) in (inr p.0, p.1))

    pub found_key : (rs : List R) (k : K) (o : Option R) → o ≡ find key same rs k → IfSome o (λ r. key r ≡ k)
    found_key rs k None e = tt
    found_key rs k (Some r) e = (find_in rs k r (sym e)).1

    pub in_found : (rs : List R) (r : R) → In r rs → is_some (find key same rs (key r)) ≡ true
    in_found [] r m = absurd m
    in_found (x ∷ xs) r m = split (cases_Bool (same (key x) (key r)))
        (λ t. rw t)
        (λ t. rw t (split m
        (λ h. absurd (both_ways (same (key x) (key r)) t ((decides (key x) (key r)).1 (ap key (sym h)))))
        (λ h. in_found xs r h)))

    pub find_row : (rs : List R) (r : R) → Apart key same rs → In r rs → find key same rs (key r) ≡ Some r
    find_row rs r apart m =
        let p = in_place rs r m in
        find_at rs (key r) p.0 r apart (p.1, λ d. subst (λ x. same (key x) (key r) ≡ true) (sym (p.2 d)) (itself (key r))) ∙ ap Some (p.2 r)

    -- a row in the place of one with its key
    module _ (rs : List R) (i : ℕ) (r : R) (apart : Apart key same rs) (spot : Spot rs (key r) i) where
      set_key : (j : ℕ) (d : R) → key (get_or (set rs i r) j d) ≡ key (get_or rs j d)
      set_key j d = split (cases_eq j i)
          (λ e. rw e (ap key (get_or-set_same rs i r d spot.0) ∙ sym (agrees _ _ (spot.1 d))))
          (λ n. ap key (get_or-set_other rs i j r d n))

      pub set_apart : Apart key same (set rs i r)
      set_apart p =
          let a = p.0 in
          let b = p.1 in
          let d = p.2 in
          let l : a < b = p.3 in
          let m = p.4 in
          let m' : b < length rs = simp length-set at m in
          rw (set_key a d, set_key b d) (apart (a, b, d, l, m'))

      set_miss : (q : K) → Absent key same rs q → Absent key same (set rs i r) q
      set_miss q a j d l = let m : j < length rs = simp length-set at l in rw (set_key j d) (a j d m)

      set_stays : (q : K) → same (key r) q ≡ false → (j : ℕ) → Spot rs q j → find key same (set rs i r) q ≡ find key same rs q
      set_stays q e j s =
          let ne : j ≢ i = λ h. both_ways (same (key r) q) e (subst (λ x. same x q ≡ true) (agrees (key (get_or rs i r)) (key r) (spot.1 r)) (subst (λ x. same (key (get_or rs x r)) q ≡ true) h (s.1 r))) in
          find_at (set rs i r) q j r set_apart (simp length-set s.0, λ d. rw (set_key j d) (s.1 d))
          ∙ ap Some (get_or-set_other rs i j r r ne)
          ∙ sym (find_at rs q j r apart s)

      pub set_find : (q : K) → find key same (set rs i r) q ≡ updated same (key r) (Some r) (find key same rs) q
      set_find q = split (cases_Bool (same (key r) q))
          (λ e. rw e (find_at (set rs i r) q i r set_apart (simp length-set spot.0, λ d. rw (get_or-set_same rs i r d spot.0) e) ∙ ap Some (get_or-set_same rs i r r spot.0)))
          (λ e. rw e (split (find_cases rs q)
          (λ a. find_absent (set rs i r) q (set_miss q a) ∙ sym (find_absent rs q a))
          (λ p. set_stays q e p.0 p.1)))

    -- a new row at the end
    module _ (rs : List R) (r : R) (apart : Apart key same rs) (new : Absent key same rs (key r)) where
      push_low : (j : ℕ) (d : R) → j < length rs → get_or (rs ++ r ∷ []) j d ≡ get_or rs j d
      push_low j d l = get_or_append_left rs (r ∷ []) d j l

      push_last : (j : ℕ) (d : R) → j ≡ length rs → get_or (rs ++ r ∷ []) j d ≡ r
      push_last j d e = get_or_push rs r d j (sym e)

      pub push_apart : Apart key same (rs ++ r ∷ [])
      push_apart p =
          let a = p.0 in
          let b = p.1 in
          let d = p.2 in
          let l : a < b = p.3 in
          let m = p.4 in
          let m' : b < length rs + 1 = simp length_push at m in
          let a' : a < length rs = omega arith in
          split (cases_eq b (length rs))
          (λ e. rw (push_last b d e, push_low a d a') (new a d a'))
          (λ n. let b' : b < length rs = omega arith in rw (push_low a d a', push_low b d b') (apart (a, b, d, l, b')))

      push_miss : (q : K) → same (key r) q ≡ false → Absent key same rs q → Absent key same (rs ++ r ∷ []) q
      push_miss q e a j d l =
          let m : j < length rs + 1 = simp length_push at l in
          split (cases_eq j (length rs))
          (λ h. rw (push_last j d h) e)
          (λ n. let j' : j < length rs = omega arith in rw (push_low j d j') (a j d j'))

      push_stays : (q : K) (j : ℕ) → Spot rs q j → find key same (rs ++ r ∷ []) q ≡ find key same rs q
      push_stays q j s =
          let l : j < length rs = s.0 in
          find_at (rs ++ r ∷ []) q j r push_apart (simp length_push (omega arith), λ d. rw (push_low j d l) (s.1 d))
          ∙ ap Some (push_low j r l)
          ∙ sym (find_at rs q j r apart s)

      pub push_find : (q : K) → find key same (rs ++ r ∷ []) q ≡ updated same (key r) (Some r) (find key same rs) q
      push_find q = split (cases_Bool (same (key r) q))
          (λ e. rw e (find_at (rs ++ r ∷ []) q (length rs) r push_apart (simp length_push (omega arith), λ d. rw (push_last (length rs) d refl) e) ∙ ap Some (push_last (length rs) r refl)))
          (λ e. rw e (split (find_cases rs q)
          (λ a. find_absent (rs ++ r ∷ []) q (push_miss q e a) ∙ sym (find_absent rs q a))
          (λ p. push_stays q p.0 p.1)))

    -- the last row moved into the place of one that goes
    module _ (rs : List R) (i n : ℕ) (last : R) (k : K) (apart : Apart key same rs) (spot : Spot rs k i) (size : length rs ≡ suc n) (end : (d : R) → get_or rs n d ≡ last) where
      abbrev pub left : List R
      left = take n (set rs i last)

      left_length : length left ≡ n
      left_length = length-take-le n (set rs i last) (simp length-set (omega arith))

      -- each row of what is left is a row of the whole, and not the one at i
      left_from : (j : ℕ) → j < n → (h : ℕ) × (h < length rs) × (h ≢ i) × ((d : R) → get_or left j d ≡ get_or rs h d) × ((h ≡ j) ⊎ ((h ≡ n) × (j ≡ i)))
      left_from j l = split (cases_eq j i)
          (λ e.
          let ne : n ≢ i = omega arith in
          let il : i < length rs = spot.0 in
          (n, omega arith, ne, (λ d. get_or-take n (set rs i last) j d l ∙ subst (λ x. get_or (set rs i last) x d ≡ last) (sym e) (get_or-set_same rs i last d il) ∙ sym (end d)), inr (refl, e)))
          (λ ne. (j, omega arith, ne, (λ d. get_or-take n (set rs i last) j d l ∙ get_or-set_other rs i j last d ne), inl refl))

      apart_any : (a b : ℕ) (d : R) → a < length rs → b < length rs → a ≢ b → same (key (get_or rs a d)) (key (get_or rs b d)) ≡ false
      apart_any a b d la lb ne = split (cases_lt a b)
          (λ l. apart (a, b, d, l, lb))
          (λ l. let m : b < a = omega arith in flip _ _ (apart (b, a, d, m, la)))

      pub left_apart : Apart key same left
      left_apart p =
          let a = p.0 in
          let b = p.1 in
          let d = p.2 in
          let l : a < b = p.3 in
          let m = p.4 in
          let m' : b < n = rw left_length at m in
          let a' : a < n = omega arith in
          let x = left_from a a' in
          let y = left_from b m' in
          let ne : x.0 ≢ y.0 = λ h. split x.4 (λ p. split y.4 (λ q. omega (arith, p, q, h)) (λ q. omega (arith, p, q.0, h))) (λ p. split y.4 (λ q. omega (arith, p.0, q, h)) (λ q. omega (arith, p.1, q.1, l))) in
          rw (x.3 d, y.3 d) (apart_any x.0 y.0 d x.1 y.1 ne)

      left_gone : (q : K) → same k q ≡ true → Absent key same left q
      left_gone q e j d l =
          let m : j < n = rw left_length at l in
          let x = left_from j m in
          rw (x.3 d) (differs (key (get_or rs i d)) (key (get_or rs x.0 d)) q (subst (λ z. same (key (get_or rs i d)) z ≡ true) (agrees k q e) (spot.1 d))
          (apart_any i x.0 d spot.0 x.1 (λ h. x.2 (sym h))))

      left_miss : (q : K) → Absent key same rs q → Absent key same left q
      left_miss q a j d l =
          let m : j < n = rw left_length at l in
          let x = left_from j m in
          rw (x.3 d) (a x.0 d x.1)

      left_stays : (q : K) → same k q ≡ false → (j : ℕ) → Spot rs q j → find key same left q ≡ find key same rs q
      left_stays q e j s =
          let jl : j < length rs = s.0 in
          let ne : j ≢ i = λ h. both_ways (same k q) e (subst (λ x. same x q ≡ true) (agrees (key (get_or rs i last)) k (spot.1 last)) (subst (λ x. same (key (get_or rs x last)) q ≡ true) h (s.1 last))) in
          split (cases_eq j n)
          (λ h.
          let il : i < length rs = spot.0 in
          let m : i < n = omega arith in
          let g : (d : R) → get_or left i d ≡ get_or rs j d = λ d. get_or-take n (set rs i last) i d m ∙ get_or-set_same rs i last d il ∙ sym (end d) ∙ ap (λ x. get_or rs x d) (sym h) in
          find_at left q i last left_apart (rw left_length m, λ d. rw (g d) (s.1 d)) ∙ ap Some (g last) ∙ sym (find_at rs q j last apart s))
          (λ h.
          let m : j < n = omega arith in
          let g : (d : R) → get_or left j d ≡ get_or rs j d = λ d. get_or-take n (set rs i last) j d m ∙ get_or-set_other rs i j last d ne in
          find_at left q j last left_apart (rw left_length m, λ d. rw (g d) (s.1 d)) ∙ ap Some (g last) ∙ sym (find_at rs q j last apart s))

      pub left_find : (q : K) → find key same left q ≡ updated same k None (find key same rs) q
      left_find q = split (cases_Bool (same k q))
          (λ e. rw e (find_absent left q (left_gone q e)))
          (λ e. rw e (split (find_cases rs q)
          (λ a. find_absent left q (left_miss q a) ∙ sym (find_absent rs q a))
          (λ p. left_stays q e p.0 p.1)))
