-- When a frame is read, and when it is refused.
use Rattle.std.proofs.Common.{◌≡◌, ℕ, ◌+◌, ◌*◌, ◌<◌, ◌≤◌, Bool, true, false, cond, List, map, length, get_or, Some, None, Option, sym, refl, ap, ◌∙◌, arith}
use Rattle.std.proofs.lemmas.Bool.{le-leb, lt-leb, eq-eqb, ne_eqb}
use Rattle.std.specs.List.{range_with_len}
use Rattle.format.specs.Outcomes.{Outcome, Refused, Passed, ◌>>◌, check}
use Rattle.reading.specs.Blocks.{frame_refusal}
use Rattle.reading.specs.Parts.{part_of}
use Rattle.reading.specs.FrameLayout.{block_at, seal_count_len, member_len, max_seals, request_marker, certificate_marker}
use Rattle.reading.specs.Frames.{block_len, begins, request_in, vote_at, certificate_in}

-- what the length that a frame says tells of its beginning
pub said_some : (t : Bool) (n m : ℕ) → ◌≡◌ {A = Option ℕ} (Some n) (cond t (Some m) None) → (t ≡ true) × (n ≡ m)
said_some true n m e = (refl, cc)
said_some false n m e = let z : ◌≡◌ {A = ℕ} 0 1 = cc in absurd (omega arith)

pub said_none : (t : Bool) (m : ℕ) → ◌≡◌ {A = Option ℕ} None (cond t (Some m) None) → t ≡ false
said_none true m e = let z : ◌≡◌ {A = ℕ} 0 1 = cc in absurd (omega arith)
said_none false m e = refl

-- a check that fails, and one that passes
failed : {A : Type 0} (t : Bool) (r : Outcome A) → t ≡ false → Refused frame_refusal ≡ (check t frame_refusal >> r)
failed t r e = ap (λ s. check s frame_refusal >> r) (sym e)

passed : {A : Type 0} (t : Bool) (r : Outcome A) → t ≡ true → r ≡ (check t frame_refusal >> r)
passed t r e = ap (λ s. check s frame_refusal >> r) (sym e)

module _ (w : ℕ) (f : List ℕ) where
  abbrev end : ℕ
  end = block_at + block_len f

  pub request_unbegun : begins request_marker f ≡ false → Refused frame_refusal ≡ request_in w f
  unfolding request_in
  request_unbegun e = failed _ _ e

  pub request_length : begins request_marker f ≡ true → (length f ≡ end + w → ⊥) → Refused frame_refusal ≡ request_in w f
  unfolding request_in
  request_length e n = failed _ _ (ne_eqb (length f) (end + w) n) ∙ passed _ _ e

  pub request_read : begins request_marker f ≡ true → length f ≡ end + w → Passed (record { block = part_of f block_at (block_len f); seal = part_of f end w }) ≡ request_in w f
  unfolding request_in
  request_read e n = passed _ _ (eq-eqb (length f) (end + w) n) ∙ passed _ _ e

  abbrev first : ℕ
  first = end + seal_count_len

  abbrev count : ℕ
  count = get_or f end 0

  pub certificate_unbegun : begins certificate_marker f ≡ false → Refused frame_refusal ≡ certificate_in w f
  unfolding certificate_in
  certificate_unbegun e = failed _ _ e

  module _ (e : begins certificate_marker f ≡ true) where
    pub certificate_short : length f < first → Refused frame_refusal ≡ certificate_in w f
    unfolding certificate_in
    certificate_short h = failed _ _ (lt-leb first (length f) h) ∙ passed _ _ e

    module _ (h : first ≤ length f) where
      pub certificate_count : max_seals < count → Refused frame_refusal ≡ certificate_in w f
      unfolding certificate_in
      certificate_count k = failed _ _ (lt-leb count max_seals k) ∙ passed _ _ (le-leb first (length f) h) ∙ passed _ _ e

      module _ (k : count ≤ max_seals) where
        pub certificate_length : (length f ≡ first + count * (member_len + w) → ⊥) → Refused frame_refusal ≡ certificate_in w f
        unfolding certificate_in
        certificate_length n =
            failed _ _ (ne_eqb (length f) (first + count * (member_len + w)) n)
            ∙ passed _ _ (le-leb count max_seals k) ∙ passed _ _ (le-leb first (length f) h) ∙ passed _ _ e

        pub certificate_read : length f ≡ first + count * (member_len + w) → Passed (record { block = part_of f block_at (block_len f); votes = map (vote_at w f first) (range_with_len 0 count) }) ≡ certificate_in w f
        unfolding certificate_in
        certificate_read n =
            passed _ _ (eq-eqb (length f) (first + count * (member_len + w)) n)
            ∙ passed _ _ (le-leb count max_seals k) ∙ passed _ _ (le-leb first (length f) h) ∙ passed _ _ e
