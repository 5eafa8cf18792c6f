-- Two sets of members that each reach the quorum share an honest one.
use Rattle.std.proofs.Common.{◌≡◌, ℕ, zero, suc, ◌+◌, ◌<◌, ◌≤◌, Bool, true, false, cond, not, leb, ◌⊎◌, List, [], ◌∷◌, Some, sym, refl, ap, ◌∙◌, inl, inr, ⊎_elim, le_refl, not-suc-le-zero, arith}
use Rattle.std.proofs.lemmas.Bool.{leb-true}
use Rattle.format.specs.Values.{DigestValue}
use Rattle.format.specs.Outcomes.{refusal_at, Passed, given}
use Rattle.committee.specs.Rules.{MemberValue, CommitteeValue}
use Rattle.committee.specs.Weights.{total_weight, faulty_weight, quorum_weight}
use Rattle.reading.specs.Frames.{VoteValue}
use Rattle.protocol.specs.Reads.{SealsValue}
use Rattle.protocol.specs.Calls.{member_at, votes_weight}
use Rattle.agreement.specs.Lists.{In}
use Rattle.agreement.specs.Runs.{weight_where, others}
use Rattle.agreement.proofs.Basics.{bind_passed, check_passed, given_passed, passed_is, true_false, some_is, none_some}

abbrev pub both_of : (p q : ℕ → Bool) → ℕ → Bool
both_of p q i = cond (p i) (q i) false

abbrev Shared : (ℕ → Bool) → (ℕ → Bool) → (ℕ → Bool) → Type 0
Shared p q honest = (i : ℕ) × (p i ≡ true) × (q i ≡ true) × (honest i ≡ true)

abbrev Few : CommitteeValue → (ℕ → Bool) → (ℕ → Bool) → (ℕ → Bool) → Type 0
Few C p q honest = weight_where C p + weight_where C q ≤ total_weight C + weight_where C (others honest)

-- two sets share an honest member, or together weigh no more than all and the others
pub shared_or_few : (C : CommitteeValue) (p q honest : ℕ → Bool) → Shared p q honest ⊎ Few C p q honest
shared_or_few [] p q honest = inr (le_refl 0)
shared_or_few (m ∷ ms) p q honest = go (p 0) refl (q 0) refl (honest 0) refl (shared_or_few ms (λ i. p (suc i)) (λ i. q (suc i)) (λ i. honest (suc i)))
  where
    up : Shared (λ i. p (suc i)) (λ i. q (suc i)) (λ i. honest (suc i)) → Shared p q honest
    up s = (suc s.0, s.1, s.2, s.3)

    Goal : Type 0
    Goal = Shared p q honest ⊎ Few (m ∷ ms) p q honest

    at : (x y z : Bool) → p 0 ≡ x → q 0 ≡ y → honest 0 ≡ z
        → cond x m.weight 0 + cond y m.weight 0 ≤ m.weight + cond (not z) m.weight 0
        → Few ms (λ i. p (suc i)) (λ i. q (suc i)) (λ i. honest (suc i)) → Few (m ∷ ms) p q honest
    at x y z e f g h t = rw (e, f, g) (omega arith)

    go : (x : Bool) → p 0 ≡ x → (y : Bool) → q 0 ≡ y → (z : Bool) → honest 0 ≡ z
        → Shared (λ i. p (suc i)) (λ i. q (suc i)) (λ i. honest (suc i)) ⊎ Few ms (λ i. p (suc i)) (λ i. q (suc i)) (λ i. honest (suc i)) → Goal
    go x e y f z g (inl s) = inl (up s)
    go true e true f true g (inr t) = inl (0, e, f, g)
    go true e true f false g (inr t) = inr (at true true false e f g (omega arith) t)
    go true e false f true g (inr t) = inr (at true false true e f g (omega arith) t)
    go true e false f false g (inr t) = inr (at true false false e f g (omega arith) t)
    go false e true f true g (inr t) = inr (at false true true e f g (omega arith) t)
    go false e true f false g (inr t) = inr (at false true false e f g (omega arith) t)
    go false e false f true g (inr t) = inr (at false false true e f g (omega arith) t)
    go false e false f false g (inr t) = inr (at false false false e f g (omega arith) t)

pub share : (C : CommitteeValue) (p q honest : ℕ → Bool) → 1 ≤ total_weight C → weight_where C (others honest) ≤ faulty_weight C
    → quorum_weight C ≤ weight_where C p → quorum_weight C ≤ weight_where C q → (i : ℕ) × (p i ≡ true) × (q i ≡ true) × (honest i ≡ true)
share C p q honest one few hp hq =
    ⊎_elim (λ s. s) (λ t. absurd (too_many t)) (shared_or_few C p q honest)
  where
    too_many : Few C p q honest → ⊥
    too_many t = omega arith

-- the members of a list of seals
abbrev pub equal : ℕ → ℕ → Bool
equal zero zero = true
equal zero (suc n) = false
equal (suc m) zero = false
equal (suc m) (suc n) = equal m n

equal_is : (m n : ℕ) → equal m n ≡ true → m ≡ n
equal_is zero zero e = refl
equal_is zero (suc n) e = absurd (true_false (sym e))
equal_is (suc m) zero e = absurd (true_false (sym e))
equal_is (suc m) (suc n) e = ap suc (equal_is m n e)

above_differs : (m n : ℕ) → m < n → equal m n ≡ false
above_differs zero zero h = absurd (not-suc-le-zero h)
above_differs zero (suc n) h = refl
above_differs (suc m) zero h = absurd (not-suc-le-zero h)
above_differs (suc m) (suc n) h = above_differs m n (omega arith)

abbrev pub signers : List VoteValue → ℕ → Bool
signers [] i = false
signers (s ∷ ss) i = cond (equal i s.member) true (signers ss i)

weigh_same : (C : CommitteeValue) (p q : ℕ → Bool) → ((i : ℕ) → p i ≡ q i) → weight_where C p ≡ weight_where C q
weigh_same [] p q h = refl
weigh_same (m ∷ ms) p q h = rw (h 0, weigh_same ms (λ i. p (suc i)) (λ i. q (suc i)) (λ i. h (suc i))) refl

weigh_more : (C : CommitteeValue) (n : ℕ) (m : MemberValue) (p : ℕ → Bool) → member_at C n ≡ Some m → p n ≡ false
    → weight_where C (λ i. cond (equal i n) true (p i)) ≡ m.weight + weight_where C p
weigh_more [] n m p e f = absurd (none_some e)
weigh_more (x ∷ xs) zero m p e f = rw (f, some_is e) (omega arith)
weigh_more (x ∷ xs) (suc n) m p e f =
    rw (weigh_more xs n m (λ i. p (suc i)) e f) (omega arith)

-- what seals that passed say of one of them
pub record Held (C : CommitteeValue) (S : SealsValue) (d : DigestValue) (s : VoteValue) : Type 0 where
  pub who : MemberValue
  pub there : member_at C s.member ≡ Some who
  pub held : S.holds who.key d s.seal.1 ≡ true

module _ (C : CommitteeValue) (S : SealsValue) (d : DigestValue) where
  record First (k least w : ℕ) (s : VoteValue) (ss : List VoteValue) : Type 0 where
    held : Held C S d s
    least_is : least ≤ s.member
    rest : ℕ
    passed : votes_weight C S d (k + 1) (s.member + 1) ss ≡ Passed rest
    sums : w ≡ held.who.weight + rest

  first : (k least w : ℕ) (s : VoteValue) (ss : List VoteValue) → votes_weight C S d k least (s ∷ ss) ≡ Passed w → First k least w s ss
  first k least w s ss e =
      let g = bind_passed (given (member_at C s.member) (refusal_at 4 k)) _ w e in
      let l = check_passed (leb least s.member) (refusal_at 4 k) _ w g.2 in
      let h = check_passed (S.holds g.0.key d s.seal.1) (refusal_at 5 k) _ w l.1 in
      let r = bind_passed (votes_weight C S d (k + 1) (s.member + 1) ss) _ w h.1 in
      record {
        held = record { who = g.0; there = given_passed (member_at C s.member) (refusal_at 4 k) g.0 g.1; held = h.0 };
        least_is = leb-true least s.member l.0;
        rest = r.0;
        passed = r.1;
        sums = sym (passed_is r.2);
      }

  below_none : (k least w : ℕ) (ss : List VoteValue) → votes_weight C S d k least ss ≡ Passed w → (i : ℕ) → i < least → signers ss i ≡ false
  below_none k least w [] e i h = refl
  below_none k least w (s ∷ ss) e i h =
      let f = first k least w s ss e in
      let l : least ≤ s.member = f.least_is in
      rw (above_differs i s.member (omega arith)) (below_none (k + 1) (s.member + 1) f.rest ss f.passed i (omega arith))

  pub weighs : (k least w : ℕ) (ss : List VoteValue) → votes_weight C S d k least ss ≡ Passed w → weight_where C (signers ss) ≡ w
  weighs k least w [] e = none_weigh C ∙ passed_is e
    where
      none_weigh : (D : CommitteeValue) → weight_where D (signers []) ≡ 0
      none_weigh [] = refl
      none_weigh (m ∷ ms) = rw (none_weigh ms) (omega arith)
  weighs k least w (s ∷ ss) e =
      let f = first k least w s ss e in
      weigh_more C s.member f.held.who (signers ss) f.held.there
      (below_none (k + 1) (s.member + 1) f.rest ss f.passed s.member (omega arith))
      ∙ (ap (λ n. f.held.who.weight + n) (weighs (k + 1) (s.member + 1) f.rest ss f.passed) ∙ sym f.sums)

  -- a signer's seal stands in the list, and is held
  pub signed : (k least w : ℕ) (ss : List VoteValue) → votes_weight C S d k least ss ≡ Passed w → (i : ℕ) → signers ss i ≡ true
      → (s : VoteValue) × In s ss × (s.member ≡ i) × Held C S d s
  signed k least w [] e i h = absurd (true_false (sym h))
  signed k least w (s ∷ ss) e i h =
      go (equal i s.member) refl (λ t. signed (k + 1) (s.member + 1) f.rest ss f.passed i t)
    where
      f : First k least w s ss
      f = first k least w s ss e

      go : (x : Bool) → equal i s.member ≡ x
          → (signers ss i ≡ true → (s' : VoteValue) × In s' ss × (s'.member ≡ i) × Held C S d s')
          → (s' : VoteValue) × In s' (s ∷ ss) × (s'.member ≡ i) × Held C S d s'
      go true q r = (s, inl refl, sym (equal_is i s.member q), f.held)
      go false q r = let t = r (rw q at h) in (t.0, inr t.1, t.2, t.3)
