use Rattle.std.proofs.Common.{◌≡◌, length, take, sym, ap, ◌∙◌, ap₂, arith}
use Rattle.std.proofs.lemmas.Slice.Eq.{bytes_eq-Decides}
use Rattle.hash.specs.Hmac.{hmac_of}
use Rattle.hex_text.specs.Hex.{from_hex}
use Rattle.checks.proofs.tags.TagExample.agrees.Goals as goal

pub returns : goal.returns
returns c = λ t.
    let key : c.deref.result.now ≡ from_hex c.args.self.now.key.now = c.deref.ensures.value ∙ c.in_ok-key.ensures in
    let text : c.deref-2.result.now ≡ from_hex c.args.self.now.data.now = c.deref-2.ensures.value ∙ c.in_ok-data.ensures in
    let tag : c.deref-3.result.now ≡ from_hex c.args.self.now.tag.now = c.deref-3.ensures.value ∙ c.in_ok-tag.ensures in
    let same = (bytes_eq-Decides _ _).0 (sym c.starts_with.ensures.value ∙ t) in (
      omega (arith, c.deref-3.ensures.len, ap length tag),
      sym (ap₂ take (ap length tag) (c.hmac.ensures.value ∙ ap₂ hmac_of key text)) ∙ sym same ∙ tag,
    )
