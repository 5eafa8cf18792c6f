-- A cursor that goes over all commands reads what the definition reads.
use Rattle.std.proofs.Common.{◌≡◌, ℕ, zero, suc, ◌+◌, ◌-◌, ◌^◌, ◌<◌, ◌≤◌, Bool, true, false, eqb, List, [], ◌∷◌, ◌++◌, length, drop, is_some, Some, None, Err, Option, sym, refl, ap, ◌∙◌, append_assoc, arith}
use Rattle.std.proofs.lemmas.Bool.{cond-true, and_from, le-leb, lt-ltb, eq-eqb, ne_eqb}
use Rattle.format.specs.Layout.{head_len}
use Rattle.format.specs.Outcomes.{Outcome, Refused, Passed, ◌>>=◌, ◌>>◌, check, given}
use Rattle.format.specs.Values.{CommandValue}
use Rattle.reading.specs.Commands.{command_in, command_len}
use Rattle.reading.specs.Blocks.{HeadValue, block_refusal, command_refusal, head_in, commands_in, block_of, block_in, head_of, block_head_in}
use Rattle.reading.specs.Parts.{read_refusal}
use Rattle.reading.specs.Cursors.{CursorValue, begun, behind, Handed, Moved}
use Rattle.reading.specs.declared.command.CommandPart.{CommandPart}
use Rattle.reading.specs.declared.part.ReadFault.{ReadFault}
use Rattle.reading.specs.declared.part.ReadFault.TheVariants.{Frame, Block, Command}

-- commands that were read, before those that are still to be read
abbrev pub prefixed : List CommandValue → Outcome (List CommandValue) → Outcome (List CommandValue)
prefixed cs r = r >>= λ ds. Passed (cs ++ ds)

-- what is read from here on
abbrev pub rest_of : CursorValue → Outcome (List CommandValue)
rest_of v = commands_in v.left v.place v.rest

-- some commands are read, and the rest of r is read from here on
abbrev pub Sofar : Outcome (List CommandValue) → CursorValue → Type 0
Sofar r v = (cs : List CommandValue) × (r ≡ prefixed cs (rest_of v))

prefixed_twice : (xs ys : List CommandValue) (r : Outcome (List CommandValue)) → prefixed xs (prefixed ys r) ≡ prefixed (xs ++ ys) r
prefixed_twice xs ys (Passed cs) = ap Passed (sym (append_assoc xs ys cs))
prefixed_twice xs ys (Refused e) = refl

prefixed_none : (r : Outcome (List CommandValue)) → r ≡ prefixed [] r
prefixed_none (Passed cs) = refl
prefixed_none (Refused e) = refl

commands_step : (n k : ℕ) (bs : List ℕ) (o : CommandValue) → 0 < n → command_in bs ≡ Some o → commands_in n k bs ≡ prefixed (o ∷ []) (commands_in (n - 1) (k + 1) (drop (command_len bs) bs))
commands_step zero k bs o h e = absurd (omega arith)
commands_step (suc m) k bs o h e =
    let back : m ≡ suc m - 1 = omega arith in
    ap (λ x. given x (command_refusal k) >>= λ c. commands_in m (k + 1) (drop (command_len bs) bs) >>= λ cs. Passed (c ∷ cs)) e
    ∙ ap (λ j. prefixed (o ∷ []) (commands_in j (k + 1) (drop (command_len bs) bs))) back

commands_bad : (n k : ℕ) (bs : List ℕ) → 0 < n → command_in bs ≡ None → commands_in n k bs ≡ Refused (command_refusal k)
commands_bad zero k bs h e = absurd (omega arith)
commands_bad (suc m) k bs h e = ap (λ x. given x (command_refusal k) >>= λ c. commands_in m (k + 1) (drop (command_len bs) bs) >>= λ cs. Passed (c ∷ cs)) e

some_of : (x : Option CommandValue) → is_some x ≡ true → (o : CommandValue) × (x ≡ Some o)
some_of None h = let z : ◌≡◌ {A = ℕ} 0 1 = cc in absurd (omega arith)
some_of (Some o) h = (o, refl)

module _ (r : Outcome (List CommandValue)) where
  pub sofar_none : (v : CursorValue) → r ≡ rest_of v → Sofar r v
  sofar_none v e = ([], e ∙ prefixed_none (rest_of v))

  pub sofar_more : (v w : CursorValue) (c : CommandPart) → Sofar r v → Handed v w c → Sofar r w
  sofar_more v w c s h =
      let o = some_of (command_in v.rest) h.known in
      let step = commands_step v.left v.place v.rest o.0 h.more o.1 in
      (s.0 ++ (o.0 ∷ []), s.1 ∙ ap (prefixed s.0) step ∙ prefixed_twice s.0 (o.0 ∷ []) (rest_of (behind v)) ∙ ap (λ x. prefixed (s.0 ++ (o.0 ∷ [])) (rest_of x)) (sym h.on))

  pub sofar_all : (v : CursorValue) → Sofar r v → v.left ≡ 0 → length v.rest ≡ 0 → (cs : List CommandValue) × (r ≡ Passed cs)
  sofar_all v s e n =
      (s.0 ++ [], s.1 ∙ ap (λ j. prefixed s.0 (commands_in j v.place v.rest)) e ∙ ap (λ t. prefixed s.0 (check t block_refusal >> Passed [])) (eq-eqb (length v.rest) 0 n))

  sofar_left : (v : CursorValue) → Sofar r v → v.left ≡ 0 → 0 < length v.rest → r ≡ Refused block_refusal
  sofar_left v s e n =
      s.1 ∙ ap (λ j. prefixed s.0 (commands_in j v.place v.rest)) e
      ∙ ap (λ t. prefixed s.0 (check t block_refusal >> Passed [])) (ne_eqb (length v.rest) 0 (λ z. omega arith))

  sofar_bad : (v : CursorValue) → Sofar r v → 0 < v.left → command_in v.rest ≡ None → r ≡ Refused (command_refusal v.place)
  sofar_bad v s h e = s.1 ∙ ap (prefixed s.0) (commands_bad v.left v.place v.rest h e)

  pub sofar_refused : (v w : CursorValue) (e : ReadFault) → Sofar r v → Moved v w (Err e) → r ≡ Refused (read_refusal e)
  sofar_refused v w Frame s m = absurd m
  sofar_refused v w Block s m = sofar_left v s m.0 m.1
  sofar_refused v w (Command k) s m = sofar_bad v s m.0 m.2 ∙ ap (λ j. Refused (command_refusal j)) (sym m.1)

-- as many commands are read as were announced
ended : (t : Bool) (cs : List CommandValue) → ◌≡◌ {A = Outcome (List CommandValue)} (check t block_refusal >> Passed []) (Passed cs) → length cs ≡ 0
ended true cs e = let n : cs ≡ [] = cc in ap length n
ended false cs e = let z : ◌≡◌ {A = ℕ} 0 1 = cc in absurd (omega arith)

pub step_ok : (x : Option CommandValue) (k : ℕ) (r : Outcome (List CommandValue)) (cs : List CommandValue)
    → (given x (command_refusal k) >>= λ c. r >>= λ ds. Passed (c ∷ ds)) ≡ Passed cs
    → (c : CommandValue) × (ds : List CommandValue) × (x ≡ Some c) × (r ≡ Passed ds) × (cs ≡ c ∷ ds)
step_ok None k r cs e = let z : ◌≡◌ {A = ℕ} 0 1 = cc in absurd (omega arith)
step_ok (Some c) k (Passed ds) cs e = (c, ds, refl, refl, cc)
step_ok (Some c) k (Refused f) cs e = let z : ◌≡◌ {A = ℕ} 0 1 = cc in absurd (omega arith)

pub commands_count : (n k : ℕ) (bs : List ℕ) (cs : List CommandValue) → commands_in n k bs ≡ Passed cs → length cs ≡ n
commands_count zero k bs cs e = ended (eqb (length bs) 0) cs e
commands_count (suc n) k bs cs e =
    let s = step_ok (command_in bs) k (commands_in n (k + 1) (drop (command_len bs) bs)) cs e in
    ap length s.4 ∙ ap suc (commands_count n (k + 1) (drop (command_len bs) bs) s.1 s.3)

module _ (bs : List ℕ) where
  pub block_refused : (h : HeadValue) (e : ReadFault) → head_in bs ≡ Some h → commands_in h.count 0 (drop head_len bs) ≡ Refused (read_refusal e) → Refused (read_refusal e) ≡ block_head_in bs
  unfolding block_in
  block_refused h e p q = sym (ap (λ x. given x block_refusal >>= (λ h. commands_in h.count 0 (drop head_len bs) >>= λ cs. Passed (block_of h cs)) >>= λ b. Passed (head_of b)) p ∙ ap (λ r. r >>= (λ cs. Passed (block_of h cs)) >>= λ b. Passed (head_of b)) q)

  pub block_headless : None ≡ head_in bs → Refused block_refusal ≡ block_head_in bs
  unfolding block_in
  block_headless p = ap (λ x. given x block_refusal >>= (λ h. commands_in h.count 0 (drop head_len bs) >>= λ cs. Passed (block_of h cs)) >>= λ b. Passed (head_of b)) p

  pub block_whole : (h : HeadValue) (cs : List CommandValue) → head_in bs ≡ Some h → commands_in h.count 0 (drop head_len bs) ≡ Passed cs → Passed h ≡ block_head_in bs
  unfolding block_in
  block_whole h cs p q =
      sym (ap (λ x. given x block_refusal >>= (λ h. commands_in h.count 0 (drop head_len bs) >>= λ cs. Passed (block_of h cs)) >>= λ b. Passed (head_of b)) p
      ∙ ap (λ r. r >>= (λ cs. Passed (block_of h cs)) >>= λ b. Passed (head_of b)) q
      ∙ ap (λ n. Passed (record { chain = h.chain; height = h.height; previous = h.previous; count = n })) (commands_count h.count 0 (drop head_len bs) cs q))

  pub begun_rest : (n : ℕ) → head_len ≤ length bs → length bs < 2 ^ 64 → commands_in n 0 (drop head_len bs) ≡ rest_of (begun 0 bs n)
  begun_rest n h k = ap rest_of (sym (cond-true _ _ _ (and_from _ _ (le-leb head_len (length bs) h) (lt-ltb (0 + length bs) (2 ^ 64) (omega arith)))))
