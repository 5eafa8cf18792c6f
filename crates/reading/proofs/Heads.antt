-- When a head is read.
use Rattle.std.proofs.Common.{◌≡◌, ℕ, ◌<◌, ◌≤◌, true, false, leb, List, length, take, Some, None, Option, sym, ⊎_elim, arith}
use Rattle.std.proofs.lemmas.Bool.{cond-true, cond-false, and_left, and_right, and_from, le-leb, lt-leb, cases_lt}
use Rattle.std.specs.Option.{option_map}
use Rattle.format.specs.Layout.{identifier_len, head_len}
use Rattle.format.specs.Rules.{head_allowed}
use Rattle.reading.specs.Fields.{identifier_in}
use Rattle.reading.specs.Blocks.{HeadValue, head_height, head_previous, head_count, head_of_chain, head_in}

module _ (bs : List ℕ) where
  pub head_short : length bs < head_len → None ≡ head_in bs
  unfolding head_in
  head_short h = sym (cond-false _ _ _ (and_left _ _ (lt-leb head_len (length bs) h)))

  pub head_refused : head_allowed (head_height bs) (head_previous bs) (head_count bs) ≡ false → None ≡ head_in bs
  unfolding head_in
  head_refused e = sym (cond-false _ _ _ (and_right (leb head_len (length bs)) _ e))

  pub head_read : head_len ≤ length bs → head_allowed (head_height bs) (head_previous bs) (head_count bs) ≡ true → option_map (head_of_chain bs) (identifier_in (take identifier_len bs)) ≡ head_in bs
  unfolding head_in
  head_read h e = sym (cond-true _ _ _ (and_from _ _ (le-leb head_len (length bs) h) e))

  -- the fields, read one by one
  pub head_same : (c p : List ℕ) (h : ℕ) → h ≡ head_height bs → p ≡ head_previous bs → ◌≡◌ {A = Option HeadValue} (Some (record { chain = c; height = h; previous = p; count = head_count bs })) (Some (head_of_chain bs c))
  head_same c p h e q = λ i. Some (record { chain = c; height = e i; previous = q i; count = head_count bs })

  pub head_long : (h : HeadValue) → head_in bs ≡ Some h → head_len ≤ length bs
  head_long h e =
      ⊎_elim
      (λ (short : length bs < head_len). let n = head_short short in let z : ◌≡◌ {A = ℕ} 0 1 = cc in absurd (omega arith))
      (λ enough. enough)
      (cases_lt (length bs) head_len)
