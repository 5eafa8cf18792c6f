-- The values that the bytes of a field read as. A field is read from exactly its bytes.
use Rattle.std.specs.Prelude.{ℕ, zero, suc, ◌+◌, cond, ◌&&◌, List, [], ◌∷◌, length, take, drop, None, Option, ◌==◌, nat_le, slice_index}
use Rattle.std.specs.Option.{option_map}
use Rattle.format.specs.Layout.{number_len, height_len, depth_len, code_len, max_depth, max_height, max_index, identifier_len, name_len, receive_len}
use Rattle.format.specs.Numbers.{from_bytes, signed_number}
use Rattle.format.specs.Identifiers.{identified}
use Rattle.format.specs.Values.{IdentifierValue, NameValue, MessageValue}

-- n numbers, one after another
abbrev pub numbers_in : ℕ → List ℕ → List ℕ
numbers_in zero bs = []
numbers_in (suc n) bs = from_bytes (take number_len bs) ∷ numbers_in n (drop number_len bs)

-- a depth and four numbers that keep the rule of identifiers
unfoldable pub identifier_in : List ℕ → Option IdentifierValue
identifier_in bs = cond (length bs == identifier_len) (identified (slice_index bs 0) (numbers_in max_depth (drop depth_len bs))) None

abbrev pub name_height : List ℕ → ℕ
name_height bs = from_bytes (take height_len (drop identifier_len bs))

abbrev pub name_index : List ℕ → ℕ
name_index bs = slice_index bs (identifier_len + height_len)

-- sender, height and index, within their limits
unfoldable pub name_in : List ℕ → Option NameValue
name_in bs =
    cond (length bs == name_len && (nat_le (name_height bs) max_height && nat_le (name_index bs) max_index))
    (option_map (λ s. record { sender = s; height = name_height bs; index = name_index bs }) (identifier_in (take identifier_len bs)))
    None

-- name, code and value
unfoldable pub message_in : List ℕ → Option MessageValue
message_in bs =
    cond (length bs == receive_len)
    (option_map (λ n. record { name = n; code = slice_index bs name_len; value = signed_number (drop (name_len + code_len) bs) }) (name_in (take name_len bs)))
    None
