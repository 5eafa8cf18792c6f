-- The bytes of a block within the rules read as that block.
use Rattle.std.proofs.Common.{◌≡◌, ℕ, zero, suc, ◌+◌, ◌-◌, ◌^◌, ◌<◌, true, leb, List, [], ◌∷◌, ◌++◌, length, get_or, take, drop, replicate, ℤ, Some, None, sym, refl, ap, ◌∙◌, append_assoc, one-add, arith, lit<, length-append, take-take, w64, SFits, to_z, of_z}
use mir.Facts.{Fits-of_z}
use Rattle.std.proofs.ByRecursion.{All-append, All-take}
use Rattle.std.proofs.lemmas.List.{take_at, drop_at, get_or_at, drop-take, take-replicate, drop-drop, get_or-drop}
use Rattle.std.proofs.lemmas.Int.{to_z-of_z}
use Rattle.std.proofs.lemmas.Bool.{cond-true, and_from, and_parts, leb-true, eq-eqb}
use Rattle.std.specs.List.{flat_map, AllByRecursion}
use Rattle.std.specs.Option.{option_map}
use Rattle.format.specs.Layout.{number_len, height_len, digest_len, key_len, code_len, value_len, max_depth, max_height, max_index, identifier_len, name_len, head_len, open_len, execute_len, receive_len}
use Rattle.format.specs.Numbers.{to_bytes, signed_bytes, from_bytes, signed_number}
use Rattle.format.specs.Identifiers.{all_zero, identified, padded}
use Rattle.format.specs.Values.{IdentifierValue, NameValue, MessageValue, CommandValue, opens, changes, closes, executes, receives, BlockValue}
use Rattle.format.specs.Bytes.{identifier_bytes, name_bytes, message_bytes, command_bytes, head_bytes, bytes_of}
use Rattle.format.specs.Rules.{name_allowed, command_allowed, commands_allowed, head_allowed}
use Rattle.format.specs.Outcomes.{Passed, ◌>>=◌, given}
use Rattle.format.proofs.Identifiers.{length_padded, well_formed_at}
use Rattle.format.proofs.Lengths.{length_identifier, length_name, length_message, length_signed, length_head}
use Rattle.format.proofs.Numbers.{length_of_bytes, number_back}
use Rattle.reading.specs.Fields.{numbers_in, identifier_in, name_height, name_index, name_in, message_in}
use Rattle.reading.specs.Commands.{open_in, change_in, execute_in, operands_len_of, operands_in, command_in, command_len}
use Rattle.reading.specs.Blocks.{HeadValue, height_at, previous_at, head_height, head_previous, head_count, head_of_chain, head_in, head_of, block_refusal, command_refusal, commands_in, block_of, block_in}
use Rattle.reading.specs.RoundTrip.{Identifies, CommandFits, Within}
use Rattle.reading.proofs.Fronts.{with_byte}
use Rattle.reading.proofs.Heads.{head_read}

-- numbers of a width, one behind the other
numbers_back : (xs : List ℕ) → AllByRecursion (λ n. n < 256 ^ number_len) xs → numbers_in (length xs) (flat_map (to_bytes number_len) xs) ≡ xs
numbers_back [] low = refl
numbers_back (x ∷ xs) low =
    let front = take_at (to_bytes number_len x) (flat_map (to_bytes number_len) xs) number_len (length_of_bytes number_len x) in
    let rest = drop_at (to_bytes number_len x) (flat_map (to_bytes number_len) xs) number_len (length_of_bytes number_len x) in
    (λ i. from_bytes (front i) ∷ numbers_in (length xs) (rest i))
    ∙ (λ i. number_back number_len x low.0 i ∷ numbers_back xs low.1 i)

zeros_zero : (n : ℕ) → all_zero (replicate n 0) ≡ true
zeros_zero zero = refl
zeros_zero (suc n) = zeros_zero n

low_zeros : (n : ℕ) → AllByRecursion (λ x. x < 256 ^ number_len) (replicate n 0)
low_zeros zero = tt
low_zeros (suc n) = (lit< tt, low_zeros n)

module _ (c : IdentifierValue) (k : Identifies c) where
  padded_low : AllByRecursion (λ n. n < 256 ^ number_len) (padded c)
  padded_low =
      All-take (λ n. n < 256 ^ number_len) max_depth (c ++ replicate max_depth 0)
      (All-append (λ n. n < 256 ^ number_len) c (replicate max_depth 0) k.fit (low_zeros max_depth))

  used : take (length c) (padded c) ≡ c
  used = take-take (length c) max_depth (c ++ replicate max_depth 0) k.few ∙ take_at c (replicate max_depth 0) (length c) refl

  unused : drop (length c) (padded c) ≡ replicate (max_depth - length c) 0
  unused =
      let few = k.few in
      let n : length c + (max_depth - length c) ≡ max_depth = omega arith in
      ap (λ m. drop (length c) (take m (c ++ replicate max_depth 0))) (sym n)
      ∙ drop-take (length c) (max_depth - length c) (c ++ replicate max_depth 0)
      ∙ ap (take (max_depth - length c)) (drop_at c (replicate max_depth 0) (length c) refl)
      ∙ take-replicate (max_depth - length c) max_depth 0 (omega arith)

  identified_back : identified (length c) (padded c) ≡ Some c
  identified_back =
      cond-true _ _ _ (well_formed_at (length c) (padded c) k.some k.few ∙ ap all_zero unused ∙ zeros_zero (max_depth - length c))
      ∙ ap Some used

  pub identifier_back : identifier_in (identifier_bytes c) ≡ Some c
  unfolding identifier_in identifier_bytes
  identifier_back =
      let numbers : numbers_in max_depth (flat_map (to_bytes number_len) (padded c)) ≡ padded c
      = ap (λ n. numbers_in n (flat_map (to_bytes number_len) (padded c))) (sym (length_padded c)) ∙ numbers_back (padded c) padded_low in
      cond-true _ (identified (length c) (numbers_in max_depth (flat_map (to_bytes number_len) (padded c)))) None (eq-eqb _ identifier_len (length_identifier c))
      ∙ ap (identified (length c)) numbers
      ∙ identified_back

pub signed_back : (z : ℤ) → SFits w64 z → signed_number (signed_bytes z) ≡ z
signed_back z f = ap (to_z w64) (number_back value_len (of_z w64 z) (Fits-of_z f).fits) ∙ to_z-of_z w64 z f

low_height : (h : ℕ) → leb h max_height ≡ true → h < 256 ^ height_len
low_height h e = let l = leb-true h max_height e in omega arith

module _ (n : NameValue) (k : Identifies n.sender) (l : name_allowed n ≡ true) where
  abbrev bs : List ℕ
  bs = identifier_bytes n.sender ++ (to_bytes height_len n.height ++ (n.index ∷ []))

  allowed : (leb n.height max_height ≡ true) × (leb n.index max_index ≡ true)
  allowed = and_parts (leb n.height max_height) (leb n.index max_index) l

  behind : drop identifier_len bs ≡ to_bytes height_len n.height ++ (n.index ∷ [])
  behind = drop_at (identifier_bytes n.sender) (to_bytes height_len n.height ++ (n.index ∷ [])) identifier_len (length_identifier n.sender)

  sender_is : take identifier_len bs ≡ identifier_bytes n.sender
  sender_is = take_at (identifier_bytes n.sender) (to_bytes height_len n.height ++ (n.index ∷ [])) identifier_len (length_identifier n.sender)

  height_is : name_height bs ≡ n.height
  height_is =
      ap (λ z. from_bytes (take height_len z)) behind
      ∙ ap from_bytes (take_at (to_bytes height_len n.height) (n.index ∷ []) height_len (length_of_bytes height_len n.height))
      ∙ number_back height_len n.height (low_height n.height allowed.0)

  index_is : name_index bs ≡ n.index
  index_is =
      ap (λ z. get_or z (identifier_len + height_len) 0) (sym (append_assoc (identifier_bytes n.sender) (to_bytes height_len n.height) (n.index ∷ [])))
      ∙ get_or_at (identifier_bytes n.sender ++ to_bytes height_len n.height) n.index [] 0 (identifier_len + height_len)
      (length-append (identifier_bytes n.sender) (to_bytes height_len n.height) ∙ ap (λ j. j + height_len) (length_identifier n.sender))

  pub name_back : name_in (name_bytes n) ≡ Some n
  unfolding name_in name_bytes
  name_back =
      cond-true _ _ _
      (and_from _ _ (eq-eqb _ name_len (length_name n))
      (and_from _ _ (ap (λ h. leb h max_height) height_is ∙ allowed.0) (ap (λ j. leb j max_index) index_is ∙ allowed.1)))
      ∙ ap (option_map (λ s. record { sender = s; height = name_height bs; index = name_index bs })) (ap identifier_in sender_is ∙ identifier_back n.sender k)
      ∙ (λ i. Some (record { sender = n.sender; height = height_is i; index = index_is i }))

module _ (m : MessageValue) (k : Identifies m.name.sender) (l : name_allowed m.name ≡ true) (f : SFits w64 m.value) where
  abbrev ms : List ℕ
  ms = name_bytes m.name ++ (m.code ∷ signed_bytes m.value)

  name_is : take name_len ms ≡ name_bytes m.name
  name_is = take_at (name_bytes m.name) (m.code ∷ signed_bytes m.value) name_len (length_name m.name)

  code_is : get_or ms name_len 0 ≡ m.code
  code_is = get_or_at (name_bytes m.name) m.code (signed_bytes m.value) 0 name_len (length_name m.name)

  value_is : signed_number (drop (name_len + code_len) ms) ≡ m.value
  value_is =
      ap (λ z. signed_number (drop (name_len + code_len) z)) (sym (append_assoc (name_bytes m.name) (m.code ∷ []) (signed_bytes m.value)))
      ∙ ap signed_number (drop_at (name_bytes m.name ++ (m.code ∷ [])) (signed_bytes m.value) (name_len + code_len)
      (length-append (name_bytes m.name) (m.code ∷ []) ∙ ap (λ j. j + code_len) (length_name m.name)))
      ∙ signed_back m.value f

  pub message_back : message_in (message_bytes m) ≡ Some m
  unfolding message_in message_bytes
  message_back =
      cond-true _ _ _ (eq-eqb _ receive_len (length_message m))
      ∙ ap (option_map (λ n. record { name = n; code = get_or ms name_len 0; value = signed_number (drop (name_len + code_len) ms) })) (ap name_in name_is ∙ name_back m.name k l)
      ∙ (λ i. Some (record { name = m.name; code = code_is i; value = value_is i }))

open_back : (c : IdentifierValue) (key : ℕ) → Identifies c → key < 256 ^ key_len → open_in (identifier_bytes c ++ to_bytes key_len key) ≡ Some (opens c key)
unfolding open_in
open_back c key k h =
    let child = take_at (identifier_bytes c) (to_bytes key_len key) identifier_len (length_identifier c) in
    let rest = drop_at (identifier_bytes c) (to_bytes key_len key) identifier_len (length_identifier c) in
    cond-true _ _ _ (eq-eqb _ open_len (length-append (identifier_bytes c) (to_bytes key_len key) ∙ ap (λ j. j + key_len) (length_identifier c)))
    ∙ (λ i. option_map (λ d. opens d (from_bytes (rest i))) (identifier_in (child i)))
    ∙ ap (option_map (λ d. opens d (from_bytes (to_bytes key_len key)))) (identifier_back c k)
    ∙ ap (λ j. Some (opens c j)) (number_back key_len key h)

change_back : (key : ℕ) → key < 256 ^ key_len → change_in (to_bytes key_len key) ≡ Some (changes key)
unfolding change_in
change_back key h = ap (λ j. Some (changes j)) (number_back key_len key h)

execute_back : (code : ℕ) (a : ℤ) (t : IdentifierValue) → SFits w64 a → Identifies t → execute_in (code ∷ (signed_bytes a ++ identifier_bytes t)) ≡ Some (executes code a t)
unfolding execute_in
execute_back code a t f k =
    let argument = take_at (signed_bytes a) (identifier_bytes t) value_len (length_signed a) in
    let target = drop_at (signed_bytes a) (identifier_bytes t) value_len (length_signed a) in
    cond-true _ _ _ (eq-eqb _ execute_len (ap suc (length-append (signed_bytes a) (identifier_bytes t) ∙ ap (λ j. value_len + j) (length_identifier t))))
    ∙ (λ i. option_map (λ d. executes code (signed_number (argument i)) d) (identifier_in (target i)))
    ∙ ap (option_map (λ d. executes code (signed_number (signed_bytes a)) d)) (identifier_back t k)
    ∙ ap (λ z. Some (executes code z t)) (signed_back a f)

-- a byte and operands with more behind them
fronted : (byte : ℕ) (xs rest : List ℕ) (o : CommandValue) → length xs ≡ operands_len_of byte → operands_in byte xs ≡ Some o → command_in (byte ∷ (xs ++ rest)) ≡ Some o
fronted byte xs rest o n e =
    with_byte (byte ∷ (xs ++ rest)) (omega arith) ∙ ap (operands_in byte) (take_at xs rest (operands_len_of byte) n) ∙ e

pub command_back : (o : CommandValue) (rest : List ℕ) → CommandFits o → command_allowed o ≡ true → command_in (command_bytes o ++ rest) ≡ Some o
command_back (opens c key) rest f l = fronted _ (identifier_bytes c ++ to_bytes key_len key) rest _ (let n = length_identifier c in simp length-append (omega arith)) (open_back c key f.0 f.1)
command_back (changes key) rest f l = fronted _ (to_bytes key_len key) rest _ refl (change_back key f)
command_back closes rest f l = fronted _ [] rest _ refl refl
command_back (executes code a t) rest f l = fronted _ (code ∷ (signed_bytes a ++ identifier_bytes t)) rest _ (let n = length_identifier t in simp length-append (omega arith)) (execute_back code a t f.1 f.2)
command_back (receives m) rest f l = fronted _ (message_bytes m) rest _ (length_message m) (ap (option_map receives) (message_back m f.0 l f.2))

-- the bytes behind a command
front_rest : (byte : ℕ) (xs rest : List ℕ) → length xs ≡ operands_len_of byte → drop (command_len (byte ∷ (xs ++ rest))) (byte ∷ (xs ++ rest)) ≡ rest
unfolding command_len
front_rest byte xs rest n = ap (λ j. drop j (byte ∷ (xs ++ rest))) (one-add (operands_len_of byte)) ∙ drop_at xs rest (operands_len_of byte) n

pub command_rest : (o : CommandValue) (rest : List ℕ) → drop (command_len (command_bytes o ++ rest)) (command_bytes o ++ rest) ≡ rest
command_rest (opens c key) rest = front_rest _ (identifier_bytes c ++ to_bytes key_len key) rest (let n = length_identifier c in simp length-append (omega arith))
command_rest (changes key) rest = front_rest _ (to_bytes key_len key) rest refl
command_rest closes rest = front_rest _ [] rest refl
command_rest (executes code a t) rest = front_rest _ (code ∷ (signed_bytes a ++ identifier_bytes t)) rest (let n = length_identifier t in simp length-append (omega arith))
command_rest (receives m) rest = front_rest _ (message_bytes m) rest (length_message m)

pub commands_back : (cs : List CommandValue) (k : ℕ) → AllByRecursion CommandFits cs → commands_allowed cs ≡ true → commands_in (length cs) k (flat_map command_bytes cs) ≡ Passed cs
commands_back [] k f l = refl
commands_back (c ∷ cs) k f l =
    let p = and_parts (command_allowed c) (commands_allowed cs) l in
    let rest = flat_map command_bytes cs in
    ap (λ x. given x (command_refusal k) >>= λ d. commands_in (length cs) (k + 1) (drop (command_len (command_bytes c ++ rest)) (command_bytes c ++ rest)) >>= λ ds. Passed (d ∷ ds)) (command_back c rest f.0 p.0)
    ∙ ap (λ y. commands_in (length cs) (k + 1) y >>= λ ds. Passed (c ∷ ds)) (command_rest c rest)
    ∙ ap (λ r. r >>= λ ds. Passed (c ∷ ds)) (commands_back cs (k + 1) f.1 p.1)

module _ (b : BlockValue) (w : Within b) where
  abbrev rest : List ℕ
  rest = flat_map command_bytes b.commands

  abbrev whole : List ℕ
  whole = head_bytes b ++ rest

  parts : (head_allowed b.height b.previous (length b.commands) ≡ true) × (commands_allowed b.commands ≡ true)
  parts = and_parts (head_allowed b.height b.previous (length b.commands)) (commands_allowed b.commands) w.allowed

  -- the whole, from each field of the head on
  head_length : length (head_bytes b) ≡ head_len
  head_length = length_head b w.digest

  fields : whole ≡ identifier_bytes b.chain ++ (to_bytes height_len b.height ++ (b.previous ++ (length b.commands ∷ rest)))
  unfolding head_bytes
  fields =
      append_assoc (identifier_bytes b.chain) _ rest
      ∙ ap (λ z. identifier_bytes b.chain ++ z) (append_assoc (to_bytes height_len b.height) _ rest ∙ ap (λ z. to_bytes height_len b.height ++ z) (append_assoc b.previous (length b.commands ∷ []) rest))

  from_height : drop height_at whole ≡ to_bytes height_len b.height ++ (b.previous ++ (length b.commands ∷ rest))
  from_height = ap (drop height_at) fields ∙ drop_at (identifier_bytes b.chain) _ height_at (length_identifier b.chain)

  from_previous : drop previous_at whole ≡ b.previous ++ (length b.commands ∷ rest)
  from_previous =
      sym (drop-drop height_len height_at whole) ∙ ap (drop height_len) from_height
      ∙ drop_at (to_bytes height_len b.height) _ height_len (length_of_bytes height_len b.height)

  chain_is : take identifier_len whole ≡ identifier_bytes b.chain
  chain_is = ap (take identifier_len) fields ∙ take_at (identifier_bytes b.chain) _ identifier_len (length_identifier b.chain)

  height_in_is : head_height whole ≡ b.height
  unfolding head_allowed
  height_in_is =
      ap (λ z. from_bytes (take height_len z)) from_height
      ∙ ap from_bytes (take_at (to_bytes height_len b.height) (b.previous ++ (length b.commands ∷ rest)) height_len (length_of_bytes height_len b.height))
      ∙ number_back height_len b.height (low_height b.height (and_parts (leb b.height max_height) _ parts.0).0)

  previous_is : head_previous whole ≡ b.previous
  previous_is = ap (take digest_len) from_previous ∙ take_at b.previous _ digest_len w.digest

  count_is : head_count whole ≡ length b.commands
  count_is =
      sym (get_or-drop previous_at whole digest_len 0) ∙ ap (λ z. get_or z digest_len 0) from_previous
      ∙ get_or_at b.previous (length b.commands) rest 0 digest_len w.digest

  abbrev h : HeadValue
  h = head_of b

  head_back : head_in whole ≡ Some h
  head_back =
      sym (head_read whole (omega (arith, head_length, length-append (head_bytes b) rest)) ((λ i. head_allowed (height_in_is i) (previous_is i) (count_is i)) ∙ parts.0))
      ∙ ap (option_map (head_of_chain whole)) (ap identifier_in chain_is ∙ identifier_back b.chain w.chain)
      ∙ (λ i. Some (record { chain = b.chain; height = height_in_is i; previous = previous_is i; count = count_is i }))

  pub block_back : block_in (bytes_of b) ≡ Passed b
  unfolding block_in bytes_of
  block_back =
      ap (λ x. given x block_refusal >>= λ h. commands_in h.count 0 (drop head_len whole) >>= λ cs. Passed (block_of h cs)) head_back
      ∙ ap (λ z. commands_in (length b.commands) 0 z >>= λ cs. Passed (block_of h cs)) (drop_at (head_bytes b) rest head_len head_length)
      ∙ ap (λ r. r >>= λ cs. Passed (block_of h cs)) (commands_back b.commands 0 w.commands parts.1)
