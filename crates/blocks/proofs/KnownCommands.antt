-- What the commands that were read keep to.
use Rattle.std.proofs.Common.{◌≡◌, ℕ, ◌+◌, ◌≤◌, cond, eqb, leb, List, length, get_or, take, drop, Some, None, Option, sym, refl, ap, ◌∙◌, subst, ⊎_elim, arith}
use Rattle.std.proofs.lemmas.Bool.{and_parts, cond-true, cond-false, leb-true}
use Rattle.std.proofs.lemmas.Bool.Decides.{eqb_tells}
use Rattle.std.specs.Option.{option_map}
use Rattle.format.specs.Layout.{identifier_len, open_len, change_len, execute_len, name_len, code_len, value_len, max_height, max_index, open_byte, change_byte, close_byte, execute_byte, receive_byte}
use Rattle.format.specs.Numbers.{from_bytes, signed_number}
use Rattle.format.specs.Values.{IdentifierValue, NameValue, MessageValue, CommandValue, opens, changes, closes, executes, receives}
use Rattle.reading.specs.Fields.{identifier_in, name_height, name_index, name_in, message_in}
use Rattle.reading.specs.Commands.{open_in, change_in, execute_in, operands_in}
use Rattle.reading.proofs.OnlyBytes.{some_cond, mapped_some}
use Rattle.blocks.specs.Running.{byte_of, index_of}

-- the byte of the command, and an index within its limit
pub record Known (byte : ℕ) (x : CommandValue) : Type 0 where
  pub byte_is : byte_of x ≡ byte
  pub index_is : index_of x ≤ max_index

name_index_low : (bs : List ℕ) (n : NameValue) → name_in bs ≡ Some n → n.index ≤ max_index
unfolding name_in
name_index_low bs n e =
    let p = some_cond _ _ n e in
    let q = mapped_some _ _ n p.1 in
    let limits = and_parts (leb (name_height bs) max_height) _ (and_parts (eqb (length bs) name_len) _ p.0).1 in
    subst (λ (z : NameValue). z.index ≤ max_index) (sym q.2) (leb-true (name_index bs) max_index limits.1)

known_open : (bs : List ℕ) (x : CommandValue) → open_in bs ≡ Some x → Known open_byte x
unfolding open_in
known_open bs x e =
    let command = λ (c : IdentifierValue). opens c (from_bytes (drop identifier_len bs)) in
    let child = identifier_in (take identifier_len bs) in
    let q = mapped_some command child x (some_cond (eqb (length bs) open_len) (option_map command child) x e).1 in
    subst (Known open_byte) (sym q.2) (record { byte_is = refl; index_is = omega arith })

known_change : (bs : List ℕ) (x : CommandValue) → change_in bs ≡ Some x → Known change_byte x
unfolding change_in
known_change bs x e =
    let q : changes (from_bytes bs) ≡ x = cc_some (some_cond (eqb (length bs) change_len) (Some (changes (from_bytes bs))) x e).1 in
    subst (Known change_byte) q (record { byte_is = refl; index_is = omega arith })
  where
    or_it : CommandValue → Option CommandValue → CommandValue
    or_it d None = d
    or_it d (Some z) = z

    cc_some : Some (changes (from_bytes bs)) ≡ Some x → changes (from_bytes bs) ≡ x
    cc_some p = ap (or_it x) p

known_execute : (bs : List ℕ) (x : CommandValue) → execute_in bs ≡ Some x → Known execute_byte x
unfolding execute_in
known_execute bs x e =
    let command = λ (t : IdentifierValue). executes (get_or bs 0 0) (signed_number (take value_len (drop code_len bs))) t in
    let target = identifier_in (drop (code_len + value_len) bs) in
    let q = mapped_some command target x (some_cond (eqb (length bs) execute_len) (option_map command target) x e).1 in
    subst (Known execute_byte) (sym q.2) (record { byte_is = refl; index_is = omega arith })

message_index : (bs : List ℕ) (m : MessageValue) → message_in bs ≡ Some m → m.name.index ≤ max_index
unfolding message_in
message_index bs m e =
    let q = mapped_some _ _ m (some_cond _ _ m e).1 in
    subst (λ (z : MessageValue). z.name.index ≤ max_index) (sym q.2) (name_index_low (take name_len bs) q.0 q.1)

known_receive : (bs : List ℕ) (x : CommandValue) → option_map receives (message_in bs) ≡ Some x → Known receive_byte x
known_receive bs x e =
    let q = mapped_some receives (message_in bs) x e in
    subst (Known receive_byte) (sym q.2) (record { byte_is = refl; index_is = message_index bs q.0 q.1 })

-- a test on the byte, and what is read then or else
by_byte : (byte b : ℕ) (x : CommandValue) (here there : Option CommandValue) → cond (eqb byte b) here there ≡ Some x
    → (here ≡ Some x → Known b x) → (there ≡ Some x → Known byte x) → Known byte x
by_byte byte b x here there e f g = ⊎_elim
    (λ p. subst (λ z. Known z x) (sym p.1) (f (sym (cond-true _ here there p.0) ∙ e)))
    (λ p. g (sym (cond-false _ here there p.0) ∙ e))
    (eqb_tells byte b)

pub known : (byte : ℕ) (bs : List ℕ) (x : CommandValue) → operands_in byte bs ≡ Some x → Known byte x
known byte bs x e =
    by_byte byte open_byte x _ _ e (known_open bs x)
    (λ e1. by_byte byte change_byte x _ _ e1 (known_change bs x)
    (λ e2. by_byte byte close_byte x _ _ e2 (λ p. subst (Known close_byte) (some_of p) (record { byte_is = refl; index_is = omega arith }))
    (λ e3. by_byte byte execute_byte x _ _ e3 (known_execute bs x)
    (λ e4. by_byte byte receive_byte x _ None e4 (known_receive bs x) (λ p. absurd (none_some p))))))
  where
    or_it : CommandValue → Option CommandValue → CommandValue
    or_it d None = d
    or_it d (Some z) = z

    some_of : Some closes ≡ Some x → closes ≡ x
    some_of p = ap (or_it x) p

    none_some : ◌≡◌ {A = Option CommandValue} None (Some x) → ⊥
    none_some p = let z : ◌≡◌ {A = ℕ} 0 1 = cc in omega arith
