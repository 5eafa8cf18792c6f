-- The command at the front of bytes.
use Rattle.std.proofs.Common.{◌≡◌, ℕ, ◌+◌, ◌-◌, ◌<◌, ◌≤◌, Bool, true, false, cond, eqb, List, length, take, drop, Some, None, Option, refl, ap, ◌∙◌, ⊎_elim, arith, length-drop, length-take}
use Rattle.std.proofs.lemmas.Bool.{cond-true, cond-false, lt-leb, le-leb, ne_eqb, cases_lt}
use Rattle.std.specs.Option.{option_map}
use Rattle.format.specs.Layout.{command_byte_len, open_byte, change_byte, close_byte, execute_byte, receive_byte, open_len, change_len, execute_len, receive_len}
use Rattle.format.specs.Values.{CommandValue, receives}
use Rattle.reading.specs.Fields.{message_in}
use Rattle.reading.specs.Commands.{open_in, change_in, execute_in, receive_in, operands_len_of, operands_in, front_byte, front_operands, command_in, command_len}

-- operands of another length are not read
open_length : (xs : List ℕ) → (length xs ≡ open_len → ⊥) → open_in xs ≡ None
unfolding open_in
open_length xs h = cond-false _ _ _ (ne_eqb _ open_len h)

change_length : (xs : List ℕ) → (length xs ≡ change_len → ⊥) → change_in xs ≡ None
unfolding change_in
change_length xs h = cond-false _ _ _ (ne_eqb _ change_len h)

execute_length : (xs : List ℕ) → (length xs ≡ execute_len → ⊥) → execute_in xs ≡ None
unfolding execute_in
execute_length xs h = cond-false _ _ _ (ne_eqb _ execute_len h)

receive_length : (xs : List ℕ) → (length xs ≡ receive_len → ⊥) → receive_in xs ≡ None
unfolding message_in
receive_length xs h = ap (option_map receives) (cond-false _ _ _ (ne_eqb _ receive_len h))

-- a case that has no value at length l, before cases that have none
pick : (b : Bool) (l m n : ℕ) (x y : Option CommandValue) → (l < m → x ≡ None) → (l < n → y ≡ None) → l < cond b m n → cond b x y ≡ None
pick true l m n x y f g h = f h
pick false l m n x y f g h = g h

-- operands that are cut short are not read
operands_short : (byte : ℕ) (xs : List ℕ) → length xs < operands_len_of byte → operands_in byte xs ≡ None
operands_short byte xs =
    pick (eqb byte open_byte) _ _ _ _ _ (λ h. open_length xs (λ e. omega arith))
    (pick (eqb byte change_byte) _ _ _ _ _ (λ h. change_length xs (λ e. omega arith))
    (pick (eqb byte close_byte) _ _ _ _ _ (λ h. absurd (omega arith))
    (pick (eqb byte execute_byte) _ _ _ _ _ (λ h. execute_length xs (λ e. omega arith))
    (pick (eqb byte receive_byte) _ _ _ _ _ (λ h. receive_length xs (λ e. omega arith)) (λ h. refl)))))

module _ (bs : List ℕ) where
  pub no_byte : length bs < command_byte_len → command_in bs ≡ None
  unfolding command_in
  no_byte h = cond-false _ _ _ (lt-leb command_byte_len (length bs) h)

  pub with_byte : command_byte_len ≤ length bs → command_in bs ≡ operands_in (front_byte bs) (front_operands bs)
  unfolding command_in
  with_byte h = cond-true _ _ _ (le-leb command_byte_len (length bs) h)

  pub front_short : command_byte_len ≤ length bs → length bs < command_byte_len + operands_len_of (front_byte bs) → command_in bs ≡ None
  front_short h k = with_byte h ∙ operands_short (front_byte bs) (front_operands bs) (simp (length-take, length-drop) (omega arith))

  -- a command that is read stands there whole
  pub front_whole : (o : CommandValue) → command_in bs ≡ Some o → command_len bs ≤ length bs
  unfolding command_len
  front_whole o e =
      ⊎_elim
      (λ (none : length bs < command_byte_len). let n = no_byte none in let z : ◌≡◌ {A = ℕ} 0 1 = cc in absurd (omega arith))
      (λ (some : command_byte_len ≤ length bs).
      ⊎_elim
      (λ (short : length bs < command_byte_len + operands_len_of (front_byte bs)). let n = front_short some short in let z : ◌≡◌ {A = ℕ} 0 1 = cc in absurd (omega arith))
      (λ enough. enough)
      (cases_lt (length bs) (command_byte_len + operands_len_of (front_byte bs))))
      (cases_lt (length bs) command_byte_len)

  -- the operands, as they are cut off
  pub cut_operands : (n : ℕ) → n ≡ operands_len_of (front_byte bs) → take (command_byte_len + n - command_byte_len) (drop command_byte_len bs) ≡ front_operands bs
  cut_operands n e = let m : command_byte_len + n - command_byte_len ≡ operands_len_of (front_byte bs) = omega arith in ap (λ k. take k (drop command_byte_len bs)) m
