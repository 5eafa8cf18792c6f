-- The kind that a byte was found to stand for.
use Rattle.std.proofs.Common.{◌≡◌, ℕ, ◌<◌, Ok, Err, Some, None, Option, Result}
use Rattle.std.specs.Result.{result_ok}
use Rattle.slots.specs.Layout.{message_byte}
use Rattle.slots.specs.Kinds.{kind_byte, Decodes}
use Rattle.slots.specs.declared.kind.Kind.{Kind}
use Rattle.slots.specs.declared.kind.UnknownKind.{UnknownKind}

pub known : (b : ℕ) (r : Result Kind UnknownKind) (k : Kind) → Decodes b r → Some k ≡ result_ok r → kind_byte k ≡ b
known b (Ok x) k d e = let h : k ≡ x = cc in rw h d
known b (Err x) k d e = cc

pub unknown : (b : ℕ) (r : Result Kind UnknownKind) → Decodes b r → ◌≡◌ {A = Option Kind} None (result_ok r) → message_byte < b
unknown b (Ok x) d e = cc
unknown b (Err x) d e = d.1
