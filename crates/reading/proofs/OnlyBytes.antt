-- No other bytes read as a block, and what is read is within the rules.
use Rattle.std.proofs.Common.{◌≡◌, ℕ, zero, suc, ◌+◌, ◌*◌, ◌^◌, ◌<◌, ◌≤◌, Bool, true, false, cond, eqb, leb, List, [], ◌∷◌, ◌++◌, length, get_or, take, drop, Some, None, Option, sym, refl, ap, ◌∙◌, subst, add-mul, one-mul, arith, length-drop, take-append-drop, length-take, w64, Fits, SFits}
use mir.Facts.{sfits_to_z}
use Rattle.std.proofs.ByRecursion.{All-get_or, All-take, All-drop}
use Rattle.std.proofs.lemmas.List.{nil_from_length, drop-drop, drop_more, length-take-le, drop_all}
use Rattle.std.proofs.lemmas.Int.{of_z-to_z}
use Rattle.std.proofs.lemmas.Bool.{and_parts, leb-true, eqb-true}
use Rattle.std.specs.List.{flat_map, AllByRecursion}
use Rattle.std.specs.Option.{option_map}
use Rattle.format.specs.Layout.{number_len, height_len, key_len, code_len, value_len, depth_len, max_depth, identifier_len, name_len, open_len, change_len, execute_len, receive_len, open_byte, change_byte, execute_byte, receive_byte}
use Rattle.format.specs.Numbers.{to_bytes, signed_bytes, from_bytes, signed_number}
use Rattle.format.specs.Identifiers.{well_formed, padded}
use Rattle.format.specs.Values.{IdentifierValue, NameValue, MessageValue, CommandValue, changes, receives}
use Rattle.format.specs.Bytes.{identifier_bytes, name_bytes, message_bytes, command_bytes}
use Rattle.format.specs.Rules.{name_allowed, command_allowed}
use Rattle.format.proofs.Identifiers.{depth_is, depth_low, padded_is}
use Rattle.format.proofs.Numbers.{bytes_back, number_low}
use Rattle.reading.specs.Fields.{numbers_in, identifier_in, name_height, name_index, name_in, message_in}
use Rattle.reading.specs.Commands.{open_in, change_in, execute_in, receive_in}
use Rattle.reading.specs.RoundTrip.{Identifies, CommandFits}

abbrev pub Byte : ℕ → Type 0
Byte b = b < 256

pub some_cond : {A : Type 0} (t : Bool) (x : Option A) (y : A) → cond t x None ≡ Some y → (t ≡ true) × (x ≡ Some y)
some_cond true x y e = (refl, e)
some_cond false x y e = let z : ◌≡◌ {A = ℕ} 0 1 = cc in absurd (omega arith)

pub mapped_some : {A B : Type 0} (f : A → B) (x : Option A) (y : B) → option_map f x ≡ Some y → (a : A) × (x ≡ Some a) × (y ≡ f a)
mapped_some f None y e = let z : ◌≡◌ {A = ℕ} 0 1 = cc in absurd (omega arith)
mapped_some f (Some a) y e = (a, refl, cc)

-- bytes in two parts
pub split : (n : ℕ) (bs : List ℕ) → bs ≡ take n bs ++ drop n bs
split n bs = sym (take-append-drop n bs)

length_numbers : (n : ℕ) (bs : List ℕ) → length (numbers_in n bs) ≡ n
length_numbers zero bs = refl
length_numbers (suc n) bs = ap suc (length_numbers n (drop number_len bs))

-- numbers of a width are written back as the bytes that they were read from
numbers_only : (n : ℕ) (bs : List ℕ) → length bs ≡ n * number_len → AllByRecursion Byte bs → flat_map (to_bytes number_len) (numbers_in n bs) ≡ bs
numbers_only zero bs e low = sym (nil_from_length bs e)
numbers_only (suc n) bs e low =
    let enough : number_len ≤ length bs = omega (arith, e, add-mul 1 n number_len, one-mul number_len) in
    let rest : length (drop number_len bs) ≡ n * number_len = simp length-drop (omega (arith, e, add-mul 1 n number_len, one-mul number_len)) in
    (λ i. bytes_back number_len (take number_len bs) (length-take-le number_len bs enough) (All-take Byte number_len bs low) i ++ numbers_only n (drop number_len bs) rest (All-drop Byte number_len bs low) i)
    ∙ take-append-drop number_len bs

numbers_fit : (n : ℕ) (bs : List ℕ) → length bs ≡ n * number_len → AllByRecursion Byte bs → AllByRecursion (λ x. x < 256 ^ number_len) (numbers_in n bs)
numbers_fit zero bs e low = tt
numbers_fit (suc n) bs e low =
    let enough : number_len ≤ length bs = omega (arith, e, add-mul 1 n number_len, one-mul number_len) in
    let rest : length (drop number_len bs) ≡ n * number_len = simp length-drop (omega (arith, e, add-mul 1 n number_len, one-mul number_len)) in (
      subst (λ w. from_bytes (take number_len bs) < 256 ^ w) (length-take-le number_len bs enough) (number_low (take number_len bs) (All-take Byte number_len bs low)),
      numbers_fit n (drop number_len bs) rest (All-drop Byte number_len bs low),
    )

-- bytes that read as a value are its bytes, and the value is within the rules
pub record Only {A : Type 0} (Rule : A → Type 0) (bytes : A → List ℕ) (bs : List ℕ) (x : A) : Type 0 where
  pub same : bs ≡ bytes x
  pub rule : Rule x

pub identifier_only : (bs : List ℕ) (c : IdentifierValue) → AllByRecursion Byte bs → identifier_in bs ≡ Some c → Only Identifies identifier_bytes bs c
unfolding identifier_in identifier_bytes
identifier_only bs c low e =
    let s = some_cond _ _ c e in
    let long = eqb-true (length bs) identifier_len s.0 in
    let d = get_or bs 0 0 in
    let ns = numbers_in max_depth (drop depth_len bs) in
    let t = some_cond (well_formed d ns) (Some (take d ns)) c s.1 in
    let c_is : take d ns ≡ c = let v = t.1 in cc in
    let four = length_numbers max_depth (drop depth_len bs) in
    let rest : length (drop depth_len bs) ≡ max_depth * number_len = simp length-drop (omega (arith, long)) in
    let low_rest = All-drop Byte depth_len bs low in
    let some = leb-true 1 d (and_parts (leb 1 d) _ t.0).0 in
    let depth = depth_is d ns four t.0 in
    record {
      same =
          drop_more bs 0 0 (omega (arith, long))
          ∙ (λ i. sym depth i ∷ sym (numbers_only max_depth (drop depth_len bs) rest low_rest) i)
          ∙ (λ i. length (take d ns) ∷ flat_map (to_bytes number_len) (sym (padded_is d ns four t.0) i))
          ∙ (λ i. length (c_is i) ∷ flat_map (to_bytes number_len) (padded (c_is i)));
      rule = subst Identifies c_is (record {
        some = omega (arith, depth, some);
        few = omega (arith, depth, depth_low d ns four t.0);
        fit = All-take (λ x. x < 256 ^ number_len) d ns (numbers_fit max_depth (drop depth_len bs) rest low_rest);
      });
    }

module _ (xs : List ℕ) (long : length xs ≡ value_len) (low : AllByRecursion Byte xs) where
  fits : Fits w64 (from_bytes xs)
  fits = record { fits = subst (λ w. from_bytes xs < 256 ^ w) long (number_low xs low) }

  signed_only : signed_bytes (signed_number xs) ≡ xs
  signed_only = ap (to_bytes value_len) (of_z-to_z w64 (from_bytes xs) fits.fits) ∙ bytes_back value_len xs long low

  signed_fits : SFits w64 (signed_number xs)
  signed_fits = sfits_to_z fits

abbrev pub NameRule : NameValue → Type 0
NameRule n = Identifies n.sender × (name_allowed n ≡ true)

pub name_only : (bs : List ℕ) (n : NameValue) → AllByRecursion Byte bs → name_in bs ≡ Some n → Only NameRule name_bytes bs n
unfolding name_in name_bytes
name_only bs n low e =
    let s = some_cond _ _ n e in
    let p = and_parts (eqb (length bs) name_len) _ s.0 in
    let long = eqb-true (length bs) name_len p.0 in
    let t = mapped_some _ (identifier_in (take identifier_len bs)) n s.1 in
    let sender = identifier_only (take identifier_len bs) t.0 (All-take Byte identifier_len bs low) t.1 in
    let hs = take height_len (drop identifier_len bs) in
    let hs_long : length hs ≡ height_len = simp (length-take, length-drop) (omega (arith, long)) in
    let height = bytes_back height_len hs hs_long (All-take Byte height_len (drop identifier_len bs) (All-drop Byte identifier_len bs low)) in
    let last : drop (identifier_len + height_len) bs ≡ name_index bs ∷ []
    = drop_more bs (identifier_len + height_len) 0 (omega (arith, long)) ∙ ap (λ z. name_index bs ∷ z) (drop_all name_len bs (omega (arith, long))) in
    let tail : drop identifier_len bs ≡ to_bytes height_len (name_height bs) ++ (name_index bs ∷ [])
    = split height_len (drop identifier_len bs) ∙ (λ i. sym height i ++ drop height_len (drop identifier_len bs)) ∙ ap (λ z. to_bytes height_len (name_height bs) ++ z) (drop-drop height_len identifier_len bs ∙ last) in
    record {
      same =
          split identifier_len bs ∙ (λ i. sender.same i ++ tail i)
          ∙ ap (λ m. identifier_bytes m.sender ++ (to_bytes height_len m.height ++ (m.index ∷ []))) (sym t.2);
      rule = subst NameRule (sym t.2) (sender.rule, p.1);
    }

abbrev pub MessageRule : MessageValue → Type 0
MessageRule m = Identifies m.name.sender × (m.code < 256) × SFits w64 m.value × (name_allowed m.name ≡ true)

pub message_only : (bs : List ℕ) (m : MessageValue) → AllByRecursion Byte bs → message_in bs ≡ Some m → Only MessageRule message_bytes bs m
unfolding message_in message_bytes
message_only bs m low e =
    let s = some_cond _ _ m e in
    let long = eqb-true (length bs) receive_len s.0 in
    let t = mapped_some _ (name_in (take name_len bs)) m s.1 in
    let name = name_only (take name_len bs) t.0 (All-take Byte name_len bs low) t.1 in
    let vs = drop (name_len + code_len) bs in
    let vs_long : length vs ≡ value_len = simp length-drop (omega (arith, long)) in
    let vs_low = All-drop Byte (name_len + code_len) bs low in
    let tail : drop name_len bs ≡ get_or bs name_len 0 ∷ signed_bytes (signed_number vs)
    = drop_more bs name_len 0 (omega (arith, long)) ∙ ap (λ z. get_or bs name_len 0 ∷ z) (sym (signed_only vs vs_long vs_low)) in
    record {
      same =
          split name_len bs ∙ (λ i. name.same i ++ tail i)
          ∙ ap (λ x. name_bytes x.name ++ (x.code ∷ signed_bytes x.value)) (sym t.2);
      rule = subst MessageRule (sym t.2) (name.rule.0, All-get_or Byte bs name_len 0 (omega (arith, long)) low, signed_fits vs vs_long vs_low, name.rule.1);
    }

-- a command within the widths of its fields and its rules
abbrev pub CommandRule : CommandValue → Type 0
CommandRule o = CommandFits o × (command_allowed o ≡ true)

-- the operands of a command, behind its byte
abbrev pub OnlyBehind : ℕ → List ℕ → CommandValue → Type 0
OnlyBehind byte xs o = (byte ∷ xs ≡ command_bytes o) × CommandRule o

pub open_only : (xs : List ℕ) (o : CommandValue) → AllByRecursion Byte xs → open_in xs ≡ Some o → OnlyBehind open_byte xs o
unfolding open_in
open_only xs o low e =
    let s = some_cond _ _ o e in
    let long = eqb-true (length xs) open_len s.0 in
    let t = mapped_some _ (identifier_in (take identifier_len xs)) o s.1 in
    let child = identifier_only (take identifier_len xs) t.0 (All-take Byte identifier_len xs low) t.1 in
    let ks = drop identifier_len xs in
    let ks_long : length ks ≡ key_len = simp length-drop (omega (arith, long)) in
    let ks_low = All-drop Byte identifier_len xs low in (
      ap (λ z. open_byte ∷ z) (split identifier_len xs ∙ (λ i. child.same i ++ sym (bytes_back key_len ks ks_long ks_low) i)) ∙ ap command_bytes (sym t.2),
      subst CommandRule (sym t.2) ((child.rule, subst (λ w. from_bytes ks < 256 ^ w) ks_long (number_low ks ks_low)), refl),
    )

pub change_only : (xs : List ℕ) (o : CommandValue) → AllByRecursion Byte xs → change_in xs ≡ Some o → OnlyBehind change_byte xs o
unfolding change_in
change_only xs o low e =
    let s = some_cond (eqb (length xs) change_len) (Some (changes (from_bytes xs))) o e in
    let long = eqb-true (length xs) change_len s.0 in
    let t : changes (from_bytes xs) ≡ o = let v = s.1 in cc in (
      ap (λ z. change_byte ∷ z) (sym (bytes_back key_len xs long low)) ∙ ap command_bytes t,
      subst CommandRule t (subst (λ w. from_bytes xs < 256 ^ w) long (number_low xs low), refl),
    )

pub execute_only : (xs : List ℕ) (o : CommandValue) → AllByRecursion Byte xs → execute_in xs ≡ Some o → OnlyBehind execute_byte xs o
unfolding execute_in
execute_only xs o low e =
    let s = some_cond _ _ o e in
    let long = eqb-true (length xs) execute_len s.0 in
    let t = mapped_some _ (identifier_in (drop (code_len + value_len) xs)) o s.1 in
    let target = identifier_only (drop (code_len + value_len) xs) t.0 (All-drop Byte (code_len + value_len) xs low) t.1 in
    let vs = take value_len (drop code_len xs) in
    let vs_long : length vs ≡ value_len = simp (length-take, length-drop) (omega (arith, long)) in
    let vs_low = All-take Byte value_len (drop code_len xs) (All-drop Byte code_len xs low) in
    let tail : drop code_len xs ≡ signed_bytes (signed_number vs) ++ identifier_bytes t.0
    = split value_len (drop code_len xs) ∙ (λ i. sym (signed_only vs vs_long vs_low) i ++ drop-drop value_len code_len xs i) ∙ ap (λ z. signed_bytes (signed_number vs) ++ z) target.same in (
      ap (λ z. execute_byte ∷ z) (drop_more xs 0 0 (omega (arith, long)) ∙ ap (λ z. get_or xs 0 0 ∷ z) tail) ∙ ap command_bytes (sym t.2),
      subst CommandRule (sym t.2) ((All-get_or Byte xs 0 0 (omega (arith, long)) low, signed_fits vs vs_long vs_low, target.rule), refl),
    )

pub receive_only : (xs : List ℕ) (o : CommandValue) → AllByRecursion Byte xs → receive_in xs ≡ Some o → OnlyBehind receive_byte xs o
receive_only xs o low e =
    let t = mapped_some receives (message_in xs) o e in
    let m = message_only xs t.0 low t.1 in (
      ap (λ z. receive_byte ∷ z) m.same ∙ ap command_bytes (sym t.2),
      subst CommandRule (sym t.2) ((m.rule.0, m.rule.1, m.rule.2), m.rule.3),
    )
