-- What the published examples say of the definitions.
use Rattle.std.specs.Prelude.{◌≡◌, ℕ, ◌≤◌, List, length, take}
use Rattle.hash.specs.Sha256.{sha256_of}
use Rattle.hash.specs.Hmac.{hmac_of}
use Rattle.hex_text.specs.Hex.{from_hex}

-- a digest, in hexadecimal
abbrev pub DigestStands : (message digest : List ℕ) → Type 0
DigestStands message digest = sha256_of message ≡ from_hex digest

-- the fewest bytes of a tag that are published
abbrev pub shortest_tag : ℕ
shortest_tag = 16

-- a tag or its first bytes, all in hexadecimal
abbrev pub TagStands : (key data' tag : List ℕ) → Type 0
TagStands key data' tag =
    (shortest_tag ≤ length (from_hex tag)) × (take (length (from_hex tag)) (hmac_of (from_hex key) (from_hex data')) ≡ from_hex tag)
