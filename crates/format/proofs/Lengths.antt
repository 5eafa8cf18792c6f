-- How many bytes the parts of a block have.
use Rattle.std.proofs.Common.{◌≡◌, ℕ, ◌+◌, ◌*◌, ◌≤◌, true, ◌||◌, ltb, leb, List, [], ◌∷◌, length, ℤ, refl, ap, ◌∙◌, arith, length-append, w64, of_z}
use Rattle.std.proofs.lemmas.Bool.{and_parts, leb-true}
use Rattle.std.specs.List.{flat_map}
use Rattle.std.specs.Str.{bytes_eq}
use Rattle.format.specs.Layout.{number_len, height_len, digest_len, value_len, max_depth, max_height, identifier_len, name_len, receive_len, head_len, max_commands, command_byte_len}
use Rattle.format.specs.Numbers.{to_bytes, signed_bytes}
use Rattle.format.specs.Identifiers.{padded}
use Rattle.format.specs.Values.{IdentifierValue, NameValue, MessageValue, CommandValue, opens, changes, closes, executes, receives, BlockValue}
use Rattle.format.specs.Bytes.{identifier_bytes, name_bytes, message_bytes, command_bytes, operands_len, head_bytes, bytes_of}
use Rattle.format.specs.Composing.{BlockLengths}
use Rattle.format.specs.Rules.{head_allowed, zero_digest}
use Rattle.format.proofs.Identifiers.{length_padded}
use Rattle.format.proofs.Numbers.{length_of_bytes, length_joined}

pub length_signed : (z : ℤ) → length (signed_bytes z) ≡ value_len
length_signed z = length_of_bytes value_len (of_z w64 z)

pub length_identifier : (c : IdentifierValue) → length (identifier_bytes c) ≡ identifier_len
unfolding identifier_bytes
length_identifier c =
    let numbers : length (flat_map (to_bytes number_len) (padded c)) ≡ max_depth * number_len
    = length_joined (to_bytes number_len) number_len (length_of_bytes number_len) (padded c) ∙ ap (λ k. k * number_len) (length_padded c) in
    omega arith

pub length_name : (n : NameValue) → length (name_bytes n) ≡ name_len
unfolding name_bytes
length_name n =
    let sender = length_identifier n.sender in
    let height = length_of_bytes height_len n.height in
    simp length-append (omega arith)

pub length_message : (m : MessageValue) → length (message_bytes m) ≡ receive_len
unfolding message_bytes
length_message m =
    let name = length_name m.name in
    let value = length_signed m.value in
    simp length-append (omega arith)

pub length_command : (c : CommandValue) → length (command_bytes c) ≡ command_byte_len + operands_len c
length_command (opens child key) = let i = length_identifier child in simp length-append (omega arith)
length_command (changes key) = refl
length_command closes = refl
length_command (executes code argument target) = let i = length_identifier target in simp length-append (omega arith)
length_command (receives message) = let m = length_message message in omega arith

pub longest_command : (c : CommandValue) → length (command_bytes c) ≤ command_byte_len + receive_len
longest_command (opens child key) = let n = length_command (opens child key) in omega arith
longest_command (changes key) = let n = length_command (changes key) in omega arith
longest_command closes = omega arith
longest_command (executes code argument target) = let n = length_command (executes code argument target) in omega arith
longest_command (receives message) = let n = length_command (receives message) in omega arith

pub length_head : (b : BlockValue) → length b.previous ≡ digest_len → length (head_bytes b) ≡ head_len
unfolding head_bytes
length_head b e = let i = length_identifier b.chain in simp length-append (omega arith)

pub length_commands : (cs : List CommandValue) → length (flat_map command_bytes cs) ≤ (command_byte_len + receive_len) * length cs
length_commands [] = omega arith
length_commands (c ∷ cs) = omega (arith, length_commands cs, longest_command c, length-append (command_bytes c) (flat_map command_bytes cs))

pub few_commands : (h : ℕ) (p : List ℕ) (n : ℕ) → head_allowed h p n ≡ true → n ≤ max_commands
unfolding head_allowed
few_commands h p n e =
    let rest = (and_parts (leb h max_height) _ e).1 in
    leb-true n max_commands (and_parts (ltb 0 h || bytes_eq p zero_digest) _ rest).1

pub block_lengths : BlockLengths
unfolding bytes_of
block_lengths b long e =
    let few = few_commands b.height b.previous (length b.commands) (and_parts (head_allowed b.height b.previous (length b.commands)) _ e).0 in
    let n = length-append (head_bytes b) (flat_map command_bytes b.commands) in
    (omega (arith, n, length_head b long), omega (arith, n, few, length_head b long, length_commands b.commands))
