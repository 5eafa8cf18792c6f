-- Tag seals: HMAC-SHA-256 of the digest under the key's secret.
use Rattle.std.specs.Prelude.{◌≡◌, ℕ, Bool, true, false, List, length, find, Some, None, Option, ◌==◌}
use Rattle.std.specs.Option.{option_map}
use Rattle.std.proofs.Common.{ap, ◌∙◌, lit≤}
use Rattle.std.proofs.lemmas.Slice.Eq.{bytes_eq-Decides}
use Rattle.std.proofs.lemmas.Bool.{false≢true}
use Rattle.std.specs.Str.{bytes_eq}
use Rattle.hash.specs.Sizes.{digest_len}
use Rattle.hash.specs.Hmac.{hmac_of}
use Rattle.hash.proofs.Laws.{hmac_length}
use Rattle.seals.specs.Meaning.{Holds, Laws}
use Rattle.seals.specs.declared.tags.Secret.{Secret}
use Rattle.seals.specs.declared.tags.Tags.{Tags}

-- the secret of a key: the first that the book has for it
abbrev pub secret_of : List Secret → ℕ → Option (List ℕ)
secret_of book key = option_map (λ s. s.secret) (find (λ s. s.key.0 == key) book)

-- no secret means no
abbrev pub tagged : Option (List ℕ) → List ℕ → List ℕ → Bool
tagged None digest seal = false
tagged (Some secret) digest seal = bytes_eq seal (hmac_of secret digest)

abbrev pub tag_holds : Tags → Holds
tag_holds t key digest seal = tagged (secret_of t.book.now key) digest seal

-- a seal is as long as a digest
abbrev pub tag_width : ℕ
tag_width = digest_len

tagged_length : (s : Option (List ℕ)) (digest seal : List ℕ) → tagged s digest seal ≡ true → length seal ≡ tag_width
tagged_length None digest seal e = absurd (false≢true e)
tagged_length (Some secret) digest seal e = ap length ((bytes_eq-Decides seal (hmac_of secret digest)).0 e) ∙ hmac_length secret digest

pub tag_laws : Laws tag_width tag_holds
tag_laws = record { some = lit≤ tt; few = lit≤ tt; exact = λ t key digest seal e. tagged_length (secret_of t.book.now key) digest seal e }
