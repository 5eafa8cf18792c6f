-- The tests of `specs/Same` are true exactly where the values are equal, and `==` of the code's types answers them.
use Rattle.std.proofs.Common.{◌≡◌, ◌&&◌, eqb, Decides, length, take, sym, ap, ◌∙◌}
use Rattle.std.specs.Str.{bytes_eq}
use Rattle.std.specs.Ordering.{int_eq}
use Rattle.std.proofs.lemmas.Slice.Eq.{bytes_eq-Decides}
use Rattle.std.proofs.lemmas.Bool.Decides.{Decides-and, Decides-eqb, Decides-int_eq, Decides-like, same_from_decides}
use Rattle.format.specs.Values.{IdentifierValue, DigestValue, NameValue, MessageValue}
use Rattle.format.specs.Same.{same_identifier, same_digest, same_name, same_message}
use Rattle.format.specs.Meaning.{identifier_value, name_value, message_value}
use Rattle.format.specs.declared.identifier.Identifier.{Identifier}
use Rattle.format.specs.declared.message.Name.{Name}
use Rattle.format.specs.declared.message.Message.{Message}
use Rattle.format.proofs.Identifiers.{depth_is, padded_is}
use Rattle.format.specs.Identifiers.{padded}

pub identifier_decides : (x y : IdentifierValue) → Decides (same_identifier x y) (x ≡ y)
identifier_decides = bytes_eq-Decides

pub digest_decides : (x y : DigestValue) → Decides (same_digest x y) (x ≡ y)
digest_decides = bytes_eq-Decides

pub name_decides : (x y : NameValue) → Decides (same_name x y) (x ≡ y)
name_decides x y =
    Decides-like (same_name x y)
    (λ p i. record { sender = p.1.0 i; height = p.0 i; index = p.1.1 i })
    (λ e. (ap (λ n. n.height) e, (ap (λ n. n.sender) e, ap (λ n. n.index) e)))
    (Decides-and _ _ (Decides-eqb x.height y.height) (Decides-and _ _ (identifier_decides x.sender y.sender) (Decides-eqb x.index y.index)))

pub message_decides : (x y : MessageValue) → Decides (same_message x y) (x ≡ y)
message_decides x y =
    Decides-like (same_message x y)
    (λ p i. record { name = p.0 i; code = p.1.0 i; value = p.1.1 i })
    (λ e. (ap (λ n. n.name) e, (ap (λ n. n.code) e, ap (λ n. n.value) e)))
    (Decides-and _ _ (name_decides x.name y.name) (Decides-and _ _ (Decides-eqb x.code y.code) (Decides-int_eq x.value y.value)))

-- the numbers in use tell the whole of an identifier
pub identifier_eq : (x y : Identifier) → (bytes_eq x.numbers y.numbers && eqb x.depth y.depth) ≡ same_identifier (identifier_value x) (identifier_value y)
identifier_eq x y =
    same_from_decides _ _ (Decides-and _ _ (bytes_eq-Decides x.numbers y.numbers) (Decides-eqb x.depth y.depth))
    (Decides-like (same_identifier (identifier_value x) (identifier_value y))
    (λ e. (
      sym (padded_is x.depth x.numbers x.full x.ok) ∙ ap padded e ∙ padded_is y.depth y.numbers y.full y.ok,
      sym (depth_is x.depth x.numbers x.full x.ok) ∙ ap length e ∙ depth_is y.depth y.numbers y.full y.ok,
    ))
    (λ p i. take (p.1 i) (p.0 i))
    (identifier_decides (identifier_value x) (identifier_value y)))

pub name_eq : (x y : Name) → (eqb x.height.0 y.height.0 && ((bytes_eq x.sender.numbers y.sender.numbers && eqb x.sender.depth y.sender.depth) && eqb x.index y.index)) ≡ same_name (name_value x) (name_value y)
name_eq x y = ap (λ b. eqb x.height.0 y.height.0 && (b && eqb x.index y.index)) (identifier_eq x.sender y.sender)

pub message_eq : (x y : Message) → ((eqb x.name.height.0 y.name.height.0 && ((bytes_eq x.name.sender.numbers y.name.sender.numbers && eqb x.name.sender.depth y.name.sender.depth) && eqb x.name.index y.name.index)) && (eqb x.code y.code && int_eq x.value y.value)) ≡ same_message (message_value x) (message_value y)
message_eq x y = ap (λ b. b && (eqb x.code y.code && int_eq x.value y.value)) (name_eq x.name y.name)
