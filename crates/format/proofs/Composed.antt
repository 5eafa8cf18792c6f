-- What composing answers, from what each of its steps found.
use Rattle.std.proofs.Common.{◌≡◌, ℕ, ◌+◌, ◌<◌, ◌≤◌, Bool, true, false, cond, leb, List, map, length, Some, None, Option, sym, refl, ap, ◌∙◌, arith, length-append}
use lib.ListN.{length-map}
use Rattle.std.specs.List.{flat_map}
use Rattle.std.proofs.lemmas.Bool.{and_left, and_right, and_from, le-leb, lt-leb}
use Rattle.format.specs.Layout.{digest_len, max_commands, head_len, max_block_len}
use Rattle.format.specs.Outcomes.{Refused, Passed, refusal, check, ◌>>◌}
use Rattle.format.specs.Bytes.{head_bytes, bytes_of}
use Rattle.format.specs.Rules.{head_allowed, block_allowed}
use Rattle.format.specs.Meaning.{command_value, block_value}
use Rattle.format.specs.Values.{BlockValue}
use Rattle.format.specs.Writing.{Wrote}
use Rattle.format.specs.Composing.{encoded, composed}
use Rattle.format.specs.declared.block.Block.{Block}
use Rattle.format.proofs.Commands.{allowed, joined_map}
use Rattle.format.proofs.Lengths.{length_head, length_commands, few_commands}
use Rattle.format.proofs.Writes.{wrote_then, wrote_as}

-- what the length of the commands tells, where they have one
pub some_len : (t : Bool) (n m : ℕ) → ◌≡◌ {A = Option ℕ} (Some n) (cond t (Some m) None) → (t ≡ true) × (n ≡ m)
some_len true n m e = (refl, cc)
some_len false n m e = let z : ◌≡◌ {A = ℕ} 0 1 = cc in absurd (omega arith)

pub no_len : (t : Bool) (m : ℕ) → ◌≡◌ {A = Option ℕ} None (cond t (Some m) None) → t ≡ false
no_len true m e = let z : ◌≡◌ {A = ℕ} 0 1 = cc in absurd (omega arith)
no_len false m e = refl

passed_is : (s t : Bool) (m n : ℕ) → (check s (refusal 25) >> (check t (refusal 24) >> Passed m)) ≡ Passed n → m ≡ n
passed_is true true m n e = cc
passed_is true false m n e = let z : ◌≡◌ {A = ℕ} 0 1 = cc in absurd (omega arith)
passed_is false t m n e = let z : ◌≡◌ {A = ℕ} 0 1 = cc in absurd (omega arith)

-- what is answered is the block's length
pub composed_length : (b : BlockValue) (room n : ℕ) → composed b room ≡ Passed n → length (bytes_of b) ≡ n
composed_length b room n e = passed_is (block_allowed b) (leb (length (bytes_of b)) room) (length (bytes_of b)) n e

module _ (b : Block) where
  abbrev pub head_keeps : Bool
  head_keeps = head_allowed b.height.0 b.previous.bytes (length b.commands.now)

  pub few : true ≡ head_keeps → length b.commands.now ≤ max_commands
  few e = few_commands _ _ _ (sym e)

  same_head : head_allowed b.height.0 b.previous.bytes (length (map command_value b.commands.now)) ≡ head_keeps
  same_head = ap (head_allowed b.height.0 b.previous.bytes) (length-map b.commands.now command_value)

  pub bytes_length : length b.previous.bytes ≡ digest_len → length (bytes_of (block_value b)) ≡ head_len + length (flat_map encoded b.commands.now)
  unfolding bytes_of
  bytes_length e =
      length-append (head_bytes (block_value b)) _ ∙ (λ i. length_head (block_value b) e i + length (joined_map b.commands.now i))

  pub short_block : true ≡ head_keeps → head_len + length (flat_map encoded b.commands.now) ≤ max_block_len
  short_block e =
      let n = ap length (joined_map b.commands.now) in
      omega (arith, n, length_commands (map command_value b.commands.now), length-map b.commands.now command_value, few e)

  module _ (room : ℕ) where
    outside : block_allowed (block_value b) ≡ false → Refused (refusal 25) ≡ composed (block_value b) room
    outside e = ap (λ t. check t (refusal 25) >> (check (leb (length (bytes_of (block_value b))) room) (refusal 24) >> Passed (length (bytes_of (block_value b))))) (sym e)

    pub outside_head : false ≡ head_keeps → Refused (refusal 25) ≡ composed (block_value b) room
    outside_head e = outside (and_left _ _ (same_head ∙ sym e))

    pub outside_commands : allowed b.commands.now ≡ false → Refused (refusal 25) ≡ composed (block_value b) room
    outside_commands e = outside (and_right _ _ e)

    module _ (long : length b.previous.bytes ≡ digest_len) (h : true ≡ head_keeps) (k : allowed b.commands.now ≡ true) where
      inside : (check (leb (length (bytes_of (block_value b))) room) (refusal 24) >> Passed (length (bytes_of (block_value b)))) ≡ composed (block_value b) room
      inside =
          ap (λ t. check t (refusal 25) >> (check (leb (length (bytes_of (block_value b))) room) (refusal 24) >> Passed (length (bytes_of (block_value b)))))
          (sym (and_from _ _ (same_head ∙ sym h) k))

      at_room : (t : Bool) → leb (length (bytes_of (block_value b))) room ≡ t → (check t (refusal 24) >> Passed (length (bytes_of (block_value b)))) ≡ composed (block_value b) room
      at_room t e = ap (λ s. check s (refusal 24) >> Passed (length (bytes_of (block_value b)))) (sym e) ∙ inside

      pub too_short : room < head_len + length (flat_map encoded b.commands.now) → Refused (refusal 24) ≡ composed (block_value b) room
      too_short l = at_room false (lt-leb _ room (omega (arith, bytes_length long)))

      pub long_enough : head_len + length (flat_map encoded b.commands.now) ≤ room → Passed (length (bytes_of (block_value b))) ≡ composed (block_value b) room
      long_enough l = at_room true (le-leb _ room (omega (arith, bytes_length long)))

  -- head and commands, written one behind the other
  pub wrote_block : {d d₁ d₂ : List ℕ} {a n : ℕ} → Wrote d 0 (head_bytes (block_value b)) d₁ a → Wrote d₁ a (flat_map encoded b.commands.now) d₂ n → Wrote d 0 (bytes_of (block_value b)) d₂ n
  unfolding bytes_of
  wrote_block p q = wrote_then p (wrote_as q (sym (joined_map b.commands.now)))
