-- Fields that lie one behind the other.
use Rattle.std.proofs.Common.{◌≡◌, ℕ, ◌+◌, ◌^◌, ◌<◌, List, [], ◌∷◌, ◌++◌, length, get_or, take, drop, ℤ, Some, None, sym, ap, ◌∙◌, append_assoc, add-zero, w64, SFits}
use Rattle.std.proofs.lemmas.List.{take_at, drop_at, drop-drop, get_or-drop}
use Rattle.std.proofs.lemmas.Bool.{cond-true, eq-eqb}
use Rattle.std.specs.Option.{option_map}
use Rattle.format.specs.Layout.{height_len, value_len, identifier_len}
use Rattle.format.specs.Numbers.{to_bytes, from_bytes, signed_bytes, signed_number}
use Rattle.format.specs.Bytes.{identifier_bytes, name_bytes}
use Rattle.format.specs.Identifiers.{Identifies}
use Rattle.format.specs.Values.{IdentifierValue, NameValue}
use Rattle.format.proofs.Lengths.{length_identifier, length_signed}
use Rattle.format.proofs.Numbers.{length_of_bytes, number_back}
use Rattle.reading.specs.Fields.{identifier_in}
use Rattle.reading.proofs.ReadBacks.{identifier_back, signed_back}
use Rattle.slots.specs.Layout.{slot_len}
use Rattle.slots.specs.Reading.{field, name_at, row_of_kind, kind_of, row_in}
use Rattle.slots.specs.RoundTrip.{NameFits}

-- x lies at a place, and then y
module _ (s : List ℕ) (at : ℕ) (x y : List ℕ) (lies : drop at s ≡ x ++ y) where
  pub field_is : (n : ℕ) → length x ≡ n → field at n s ≡ x
  field_is n l = ap (take n) lies ∙ take_at x y n l

  pub behind : (n : ℕ) → length x ≡ n → drop (at + n) s ≡ y
  behind n l = sym (drop-drop n at s) ∙ ap (drop n) lies ∙ drop_at x y n l

pub byte_is : (s : List ℕ) (at b : ℕ) (y : List ℕ) → drop at s ≡ b ∷ y → get_or s at 0 ≡ b
byte_is s at b y lies = ap (λ n. get_or s n 0) (sym (add-zero at)) ∙ sym (get_or-drop at s 0 0) ∙ ap (λ z. get_or z 0 0) lies

pub number_is : (s : List ℕ) (at w n : ℕ) (y : List ℕ) → drop at s ≡ to_bytes w n ++ y → n < 256 ^ w → from_bytes (field at w s) ≡ n
number_is s at w n y lies low = ap from_bytes (field_is s at (to_bytes w n) y lies w (length_of_bytes w n)) ∙ number_back w n low

pub signed_is : (s : List ℕ) (at : ℕ) (z : ℤ) (y : List ℕ) → drop at s ≡ signed_bytes z ++ y → SFits w64 z → signed_number (field at value_len s) ≡ z
signed_is s at z y lies low = ap signed_number (field_is s at (signed_bytes z) y lies value_len (length_signed z)) ∙ signed_back z low

pub identifier_is : (s : List ℕ) (at : ℕ) (c : IdentifierValue) (y : List ℕ) → drop at s ≡ identifier_bytes c ++ y → Identifies c → identifier_in (field at identifier_len s) ≡ Some c
identifier_is s at c y lies k = ap identifier_in (field_is s at (identifier_bytes c) y lies identifier_len (length_identifier c)) ∙ identifier_back c k

pub name_is : (s : List ℕ) (at : ℕ) (n : NameValue) (y : List ℕ) → drop at s ≡ name_bytes n ++ y → NameFits n → name_at at s ≡ Some n
unfolding name_bytes
name_is s at n y lies k =
    let sender = identifier_bytes n.sender in
    let height = to_bytes height_len n.height in
    let p : drop at s ≡ sender ++ (height ++ (n.index ∷ y))
    = lies ∙ append_assoc sender (height ++ (n.index ∷ [])) y ∙ ap (λ z. sender ++ z) (append_assoc height (n.index ∷ []) y) in
    let q = behind s at sender _ p identifier_len (length_identifier n.sender) in
    let r = behind s (at + identifier_len) height _ q height_len (length_of_bytes height_len n.height) in
    let h = number_is s (at + identifier_len) height_len n.height _ q k.height in
    let i = byte_is s (at + identifier_len + height_len) n.index y r in
    ap (option_map (λ c. record { sender = c; height = from_bytes (field (at + identifier_len) height_len s); index = get_or s (at + identifier_len + height_len) 0 })) (identifier_is s at n.sender _ p k.sender)
    ∙ (λ j. Some (record { sender = n.sender; height = h j; index = i j }))

-- the reading of a whole slot, by its first byte
pub of_kind : (s : List ℕ) (b : ℕ) → length s ≡ slot_len → kind_of s ≡ b → row_in s ≡ row_of_kind b s
unfolding row_in
of_kind s b l e = cond-true _ (row_of_kind (kind_of s) s) None (eq-eqb (length s) slot_len l) ∙ ap (λ k. row_of_kind k s) e
