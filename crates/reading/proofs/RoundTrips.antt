-- The two ways between blocks and bytes.
use Rattle.std.proofs.Common.{◌≡◌, ℕ, zero, suc, ◌+◌, ◌≤◌, Bool, true, false, cond, eqb, leb, ◌⊎◌, List, [], ◌∷◌, ◌++◌, length, take, drop, Some, None, Option, sym, refl, ap, ◌∙◌, subst, inl, inr, ⊎_elim, append_assoc, one-add, arith, length-drop, length-take}
use Rattle.std.proofs.ByRecursion.{All-take, All-drop}
use Rattle.std.proofs.lemmas.List.{nil_from_length, drop-drop, drop_more, length-take-le}
use Rattle.std.proofs.lemmas.Bool.{and_from, and_parts, eqb-true}
use Rattle.std.specs.List.{flat_map, AllByRecursion}
use Rattle.format.specs.Layout.{height_len, digest_len, command_byte_len, identifier_len, head_len, open_byte, change_byte, close_byte, execute_byte, receive_byte}
use Rattle.format.specs.Numbers.{to_bytes}
use Rattle.format.specs.Values.{CommandValue, closes, BlockValue}
use Rattle.format.specs.Bytes.{identifier_bytes, command_bytes, head_bytes, bytes_of}
use Rattle.format.specs.Rules.{head_allowed, commands_allowed}
use Rattle.format.specs.Outcomes.{Outcome, Refused, Passed, ◌>>=◌, ◌>>◌, check, given}
use Rattle.format.proofs.Numbers.{bytes_back}
use Rattle.reading.specs.Fields.{identifier_in}
use Rattle.reading.specs.Commands.{operands_len_of, operands_in, front_byte, front_operands, command_in, command_len}
use Rattle.reading.specs.Blocks.{HeadValue, height_at, previous_at, count_at, head_height, head_previous, head_count, head_of_chain, head_in, block_refusal, commands_in, block_of, block_in}
use Rattle.reading.specs.RoundTrip.{Identifies, CommandFits, Within, RoundTrip}
use Rattle.reading.proofs.Fronts.{with_byte, front_whole}
use Rattle.reading.proofs.Heads.{head_long}
use Rattle.reading.proofs.OnlyBytes.{Byte, some_cond, mapped_some, split, identifier_only, CommandRule, OnlyBehind, open_only, change_only, execute_only, receive_only}
use Rattle.reading.proofs.ReadBacks.{block_back}
use Rattle.reading.proofs.Runs.{step_ok, commands_count}

pick_some : (b : Bool) (x y : Option CommandValue) (o : CommandValue) → cond b x y ≡ Some o → ((b ≡ true) × (x ≡ Some o)) ⊎ (y ≡ Some o)
pick_some true x y o e = inl (refl, e)
pick_some false x y o e = inr e

at_byte : (byte k : ℕ) (xs : List ℕ) (o : CommandValue) → eqb byte k ≡ true → OnlyBehind k xs o → OnlyBehind byte xs o
at_byte byte k xs o e p = (ap (λ z. z ∷ xs) (eqb-true byte k e) ∙ p.0, p.1)

close_only : (xs : List ℕ) (o : CommandValue) → length xs ≡ 0 → ◌≡◌ {A = Option CommandValue} (Some closes) (Some o) → OnlyBehind close_byte xs o
close_only xs o n e =
    let t : closes ≡ o = cc in
    (ap (λ z. close_byte ∷ z) (nil_from_length xs n) ∙ ap command_bytes t, subst CommandRule t (tt, refl))

operands_only : (byte : ℕ) (xs : List ℕ) (o : CommandValue) → AllByRecursion Byte xs → length xs ≡ operands_len_of byte → operands_in byte xs ≡ Some o → OnlyBehind byte xs o
operands_only byte xs o low n e =
    ⊎_elim (λ h. at_byte byte open_byte xs o h.0 (open_only xs o low h.1))
    (λ e. ⊎_elim (λ h. at_byte byte change_byte xs o h.0 (change_only xs o low h.1))
    (λ e. ⊎_elim (λ h. at_byte byte close_byte xs o h.0 (close_only xs o (n ∙ ap operands_len_of (eqb-true byte close_byte h.0)) h.1))
    (λ e. ⊎_elim (λ h. at_byte byte execute_byte xs o h.0 (execute_only xs o low h.1))
    (λ e. ⊎_elim (λ h. at_byte byte receive_byte xs o h.0 (receive_only xs o low h.1))
    (λ e. let z : ◌≡◌ {A = ℕ} 0 1 = cc in absurd (omega arith))
    (pick_some (eqb byte receive_byte) _ _ o e)) (pick_some (eqb byte execute_byte) _ _ o e)) (pick_some (eqb byte close_byte) _ _ o e)) (pick_some (eqb byte change_byte) _ _ o e)) (pick_some (eqb byte open_byte) _ _ o e)

-- bytes that are not empty, by the first of them
first : (bs : List ℕ) (m : ℕ) → command_byte_len ≤ length bs → take (command_byte_len + m) bs ≡ front_byte bs ∷ take m (drop command_byte_len bs)
first [] m h = absurd (omega arith)
first (b ∷ bs) m h = ap (λ j. take j (b ∷ bs)) (one-add m)

command_only : (bs : List ℕ) (o : CommandValue) → AllByRecursion Byte bs → command_in bs ≡ Some o → (bs ≡ command_bytes o ++ drop (command_len bs) bs) × CommandRule o
unfolding command_len
command_only bs o low e =
    let whole = front_whole bs o e in
    let some : command_byte_len ≤ length bs = omega arith in
    let room : operands_len_of (front_byte bs) ≤ length (drop command_byte_len bs) = simp length-drop (omega arith) in
    let k = operands_only (front_byte bs) (front_operands bs) o (All-take Byte _ (drop command_byte_len bs) (All-drop Byte command_byte_len bs low)) (length-take-le _ (drop command_byte_len bs) room) (sym (with_byte bs some) ∙ e) in (
      split (command_len bs) bs ∙ ap (λ z. z ++ drop (command_len bs) bs) (first bs (operands_len_of (front_byte bs)) some ∙ k.0),
      k.1,
    )

ended : (t : Bool) (cs : List CommandValue) → ◌≡◌ {A = Outcome (List CommandValue)} (check t block_refusal >> Passed []) (Passed cs) → (t ≡ true) × (cs ≡ [])
ended true cs e = (refl, cc)
ended false cs e = let z : ◌≡◌ {A = ℕ} 0 1 = cc in absurd (omega arith)

pub record CommandsOnly (bs : List ℕ) (cs : List CommandValue) : Type 0 where
  pub same : bs ≡ flat_map command_bytes cs
  pub fit : AllByRecursion CommandFits cs
  pub allowed : commands_allowed cs ≡ true

commands_only : (n k : ℕ) (bs : List ℕ) (cs : List CommandValue) → AllByRecursion Byte bs → commands_in n k bs ≡ Passed cs → CommandsOnly bs cs
commands_only zero k bs cs low e =
    let s = ended (eqb (length bs) 0) cs e in
    subst (CommandsOnly bs) (sym s.1) (record { same = nil_from_length bs (eqb-true (length bs) 0 s.0); fit = tt; allowed = refl })
commands_only (suc n) k bs cs low e =
    let s = step_ok (command_in bs) k (commands_in n (k + 1) (drop (command_len bs) bs)) cs e in
    let t = commands_only n (k + 1) (drop (command_len bs) bs) s.1 (All-drop Byte (command_len bs) bs low) s.3 in
    let c = command_only bs s.0 low s.2 in
    subst (CommandsOnly bs) (sym s.4) (record {
      same = c.0 ∙ ap (λ z. command_bytes s.0 ++ z) t.same;
      fit = (c.1.0, t.fit);
      allowed = and_from _ _ c.1.1 t.allowed;
    })

-- the head's bytes
abbrev written_head : HeadValue → List ℕ
written_head h = identifier_bytes h.chain ++ (to_bytes height_len h.height ++ (h.previous ++ (h.count ∷ [])))

pub record HeadOnly (bs : List ℕ) (h : HeadValue) : Type 0 where
  pub same : bs ≡ written_head h ++ drop head_len bs
  pub chain : Identifies h.chain
  pub digest : length h.previous ≡ digest_len
  pub bytes : AllByRecursion Byte h.previous
  pub allowed : head_allowed h.height h.previous h.count ≡ true

head_only : (bs : List ℕ) (h : HeadValue) → AllByRecursion Byte bs → head_in bs ≡ Some h → HeadOnly bs h
unfolding head_in
head_only bs h low e =
    let long = head_long bs h e in
    let s = some_cond _ _ h e in
    let p = and_parts (leb head_len (length bs)) _ s.0 in
    let t = mapped_some (head_of_chain bs) (identifier_in (take identifier_len bs)) h s.1 in
    let chain = identifier_only (take identifier_len bs) t.0 (All-take Byte identifier_len bs low) t.1 in
    let hs = take height_len (drop height_at bs) in
    let hs_long : length hs ≡ height_len = simp (length-take, length-drop) (omega (arith, long)) in
    let height = bytes_back height_len hs hs_long (All-take Byte height_len (drop height_at bs) (All-drop Byte height_at bs low)) in
    let last : drop count_at bs ≡ head_count bs ∷ drop head_len bs = drop_more bs count_at 0 (omega (arith, long)) in
    let from_previous : drop previous_at bs ≡ head_previous bs ++ (head_count bs ∷ drop head_len bs)
    = split digest_len (drop previous_at bs) ∙ ap (λ z. head_previous bs ++ z) (drop-drop digest_len previous_at bs ∙ last) in
    let from_height : drop height_at bs ≡ to_bytes height_len (head_height bs) ++ (head_previous bs ++ (head_count bs ∷ drop head_len bs))
    = split height_len (drop height_at bs) ∙ (λ i. sym height i ++ drop height_len (drop height_at bs)) ∙ ap (λ z. to_bytes height_len (head_height bs) ++ z) (drop-drop height_len height_at bs ∙ from_previous) in
    subst (HeadOnly bs) (sym t.2) (record {
      same =
          split identifier_len bs ∙ (λ i. chain.same i ++ from_height i)
          ∙ sym (append_assoc (identifier_bytes t.0) _ (drop head_len bs)
          ∙ ap (λ z. identifier_bytes t.0 ++ z) (append_assoc (to_bytes height_len (head_height bs)) _ (drop head_len bs)
          ∙ ap (λ z. to_bytes height_len (head_height bs) ++ z) (append_assoc (head_previous bs) (head_count bs ∷ []) (drop head_len bs))));
      chain = chain.rule;
      digest = simp (length-take, length-drop) (omega (arith, long));
      bytes = All-take Byte digest_len (drop previous_at bs) (All-drop Byte previous_at bs low);
      allowed = p.1;
    })

run_ok : (r : Outcome (List CommandValue)) (h : HeadValue) (b : BlockValue) → (r >>= λ cs. Passed (block_of h cs)) ≡ Passed b → (cs : List CommandValue) × (r ≡ Passed cs) × (b ≡ block_of h cs)
run_ok (Passed cs) h b e = (cs, refl, cc)
run_ok (Refused f) h b e = let z : ◌≡◌ {A = ℕ} 0 1 = cc in absurd (omega arith)

block_ok : (x : Option HeadValue) (bs : List ℕ) (b : BlockValue)
    → (given x block_refusal >>= λ h. commands_in h.count 0 (drop head_len bs) >>= λ cs. Passed (block_of h cs)) ≡ Passed b
    → (h : HeadValue) × (cs : List CommandValue) × (x ≡ Some h) × (commands_in h.count 0 (drop head_len bs) ≡ Passed cs) × (b ≡ block_of h cs)
block_ok None bs b e = let z : ◌≡◌ {A = ℕ} 0 1 = cc in absurd (omega arith)
block_ok (Some h) bs b e = let t = run_ok (commands_in h.count 0 (drop head_len bs)) h b e in (h, t.0, refl, t.1, t.2)

pub block_only : (bs : List ℕ) → AllByRecursion Byte bs → (b : BlockValue) → block_in bs ≡ Passed b → (bs ≡ bytes_of b) × Within b
unfolding block_in bytes_of head_bytes
block_only bs low b e =
    let s = block_ok (head_in bs) bs b e in
    let h = s.0 in
    let cs = s.1 in
    let head = head_only bs h low s.2 in
    let rest = commands_only h.count 0 (drop head_len bs) cs (All-drop Byte head_len bs low) s.3 in
    let count = commands_count h.count 0 (drop head_len bs) cs s.3 in (
      head.same ∙ (λ i. (identifier_bytes h.chain ++ (to_bytes height_len h.height ++ (h.previous ++ (sym count i ∷ [])))) ++ rest.same i) ∙ ap bytes_of (sym s.4),
      subst Within (sym s.4) (record {
        chain = head.chain;
        digest = head.digest;
        bytes = head.bytes;
        commands = rest.fit;
        allowed = and_from _ _ (ap (head_allowed h.height h.previous) count ∙ head.allowed) rest.allowed;
      }),
    )

pub round_trip : RoundTrip
round_trip = record { back = block_back; only = λ bs low b e. (block_only bs low b e).0; within = λ bs low b e. (block_only bs low b e).1 }
