-- The quorum of an allowed committee, and one number more of the weight of members.
use Rattle.std.proofs.Common.{◌≡◌, ℕ, ◌+◌, ◌<◌, ◌≤◌, true, false, not, ◌&&◌, eqb, leb, ◌⊎◌, List, [], ◌∷◌, length, get_or, drop, Some, None, Option, sym, refl, ap, ◌∙◌, subst, ⊎_elim, arith}
use lib.ListN.{length-map}
use Rattle.std.proofs.lemmas.List.{at_drop_more, at_drop_all, get_or-map}
use Rattle.std.proofs.lemmas.Bool.{and_parts, and_from, and_left, and_right, cond-true, cond-false, false≢true, leb-true, le-leb, lt-leb, lt-ltb, le-ltb}
use Rattle.std.specs.Option.{option_map}
use Rattle.std.specs.List.{sum_by}
use Rattle.std.proofs.lemmas.List.Recursion.{is_sum_by}
use Rattle.committee.specs.Rules.{CommitteeValue, max_members, max_weight, member_allowed, members_allowed, committee_allowed}
use Rattle.committee.specs.Weights.{total_weight, faulty_weight, quorum_weight, faulty_of, quorum_of, nobody, weight_from, QuorumsOverlap}
use Rattle.committee.specs.Meaning.{member_value, members_value}
use Rattle.committee.specs.declared.Member.{Member}
use Rattle.committee.proofs.Members.{no_one}

pub has_weight : (ms : CommitteeValue) → committee_allowed ms ≡ true → 1 ≤ total_weight ms
has_weight [] e = absurd (false≢true e)
has_weight (m ∷ ms) e =
    let each = (and_parts (leb 1 (length (m ∷ ms)) && leb (length (m ∷ ms)) max_members) _ e).1 in
    let first = (and_parts (member_allowed m) _ (and_parts _ (members_allowed ms) each).0).0 in
    let weight : 1 ≤ m.weight = leb-true 1 m.weight (and_parts (leb 1 m.weight) (leb m.weight max_weight) (and_parts (not (eqb m.key 0)) _ first).1).0 in
    omega arith

pub quorums_overlap : QuorumsOverlap
quorums_overlap ms e =
    let h = has_weight ms e in
    omega arith

pub few_members : (ms : List Member) → true ≡ committee_allowed (members_value ms) → length ms ≤ max_members
few_members ms e =
    let size = (and_parts _ (members_allowed (members_value ms)) (sym e)).0 in
    subst (λ t. t ≤ max_members) (length-map ms member_value) (leb-true (length (members_value ms)) max_members (and_parts (leb 1 (length (members_value ms))) _ size).1)

pub no_quorum : (ms : List Member) → false ≡ committee_allowed (members_value ms) → None ≡ quorum_of (members_value ms)
no_quorum ms e = sym (cond-false _ _ _ (sym e))

pub quorum_is : (ms : List Member) (w : ℕ) → true ≡ committee_allowed (members_value ms) → w ≡ quorum_weight (members_value ms) → Some w ≡ quorum_of (members_value ms)
quorum_is ms w e k = ap Some k ∙ sym (cond-true _ _ _ (sym e))

pub faulty_is : (ms : List Member) (w : ℕ) → true ≡ committee_allowed (members_value ms) → w ≡ faulty_weight (members_value ms) → Some w ≡ faulty_of (members_value ms)
faulty_is ms w e k = ap Some k ∙ sym (cond-true _ _ _ (sym e))

plus_nothing : (o : Option ℕ) → o ≡ option_map (λ w. 0 + w) o
plus_nothing None = refl
plus_nothing (Some w) = ap Some (omega arith)

plus_both : (s a b : ℕ) → a ≡ b → (o : Option ℕ) → option_map (λ w. s + w) (option_map (λ w. a + w) o) ≡ option_map (λ w. (s + b) + w) o
plus_both s a b e None = refl
plus_both s a b e (Some w) = ap Some (omega arith)

module _ (ms : List Member) (ns : List ℕ) where
  -- before the first number
  pub weight_start : weight_from (members_value ms) 0 ns ≡ option_map (λ w. 0 + w) (weight_from (members_value ms) 0 (drop 0 ns))
  weight_start = plus_nothing (weight_from (members_value ms) 0 ns)

  module _ (i least sum : ℕ) where
    -- the sum so far, and the weight of the numbers left
    abbrev pub weight_left : Option ℕ
    weight_left = option_map (λ w. sum + w) (weight_from (members_value ms) least (drop i ns))

    pub weight_all : length ns ≤ i → weight_left ≡ Some sum
    weight_all h = at_drop_all (λ xs. option_map (λ w. sum + w) (weight_from (members_value ms) least xs)) ns i h ∙ ap Some (omega arith)

    module _ (h : i < length ns) where
      abbrev next : ℕ
      next = get_or ns i 0

      pub weight_refused : (next < least) ⊎ (length ms ≤ next) → weight_left ≡ None
      weight_refused k =
          at_drop_more (λ xs. option_map (λ w. sum + w) (weight_from (members_value ms) least xs)) ns i 0 h
          ∙ ap (option_map (λ w. sum + w)) (cond-false _ _ _ (⊎_elim
          (λ lt. and_left _ _ (lt-leb least next lt))
          (λ le. and_right (leb least next) _ (le-ltb next (length (members_value ms)) (simp length-map le)))
          k))

      pub weight_more : least ≤ next → next < length ms
          → weight_left ≡ option_map (λ w. (sum + (get_or ms next no_one).weight) + w) (weight_from (members_value ms) (next + 1) (drop (i + 1) ns))
      weight_more k l =
          at_drop_more (λ xs. option_map (λ w. sum + w) (weight_from (members_value ms) least xs)) ns i 0 h
          ∙ ap (option_map (λ w. sum + w)) (cond-true _ _ _ (and_from _ _ (le-leb least next k) (lt-ltb next (length (members_value ms)) (simp length-map l))))
          ∙ plus_both sum (get_or (members_value ms) next nobody).weight (get_or ms next no_one).weight
          (ap (λ m. m.weight) (get_or-map member_value ms next no_one nobody l))
          (weight_from (members_value ms) (next + 1) (drop (i + 1) ns))

pub total_of : (ms : List Member) → sum_by (λ m. m.weight) ms ≡ total_weight (members_value ms)
total_of ms = sym (is_sum_by (λ ms. total_weight (members_value ms)) (λ m. m.weight) refl (λ _ _. refl) ms)
