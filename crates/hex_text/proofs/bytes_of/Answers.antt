use Rattle.std.proofs.Common.{◌≡◌, ℕ, ◌+◌, ◌*◌, ◌/◌, ◌<◌, List, [], ◌∷◌, ◌++◌, map, length, get_or, take, vec_items, sym, ap, ◌∙◌, ap₂, arith}
use Rattle.std.specs.Char.{digit_value}
use Rattle.std.specs.Simd.{first_chunks}
use Rattle.std.proofs.lemmas.List.{map_more, take_all}
use Rattle.std.proofs.lemmas.Slice.{pushed}
use Rattle.hex_text.specs.Hex.{byte_of}
use Rattle.hex_text.proofs.bytes_of.Goals as goal

-- one more pair of digits
one_more : (pairs : List (List ℕ)) (i h l : ℕ) (bytes : List ℕ) → i < length pairs
    → h ≡ digit_value (get_or (get_or pairs i []) 0 0) → l ≡ digit_value (get_or (get_or pairs i []) 1 0)
    → bytes ≡ map byte_of (take i pairs) ++ (16 * h + l) ∷ [] → bytes ≡ map byte_of (take (i + 1) pairs)
one_more pairs i h l bytes lt eh el b =
    b ∙ ap₂ (λ x y. map byte_of (take i pairs) ++ (16 * x + y) ∷ []) eh el ∙ sym (map_more byte_of pairs i [] lt)

pub loop-high-preserved : goal.loop-high-preserved
loop-high-preserved c =
    one_more c.as_chunks.result.0.now c.loop-high.high-index c.in_ok-high.high c.in_ok-low.low
    (vec_items c.push.new.self) (omega arith) c.in_ok-high.ensures.1 c.in_ok-low.ensures.1
    (pushed {r = c.push.result} ((16 * c.in_ok-high.high + c.in_ok-low.low) ∷ []) c.loop-high.invariant c.in_ok-push.was c.push.ensures.items)

pub returns : goal.returns
returns c =
    c.loop-high.invariant
    ∙ ap (map byte_of)
    (take_all c.loop-high.high-index c.as_chunks.result.0.now (omega arith) ∙ c.as_chunks.ensures.front
    ∙ ap (λ t. first_chunks 2 (length t / 2) t) c.as_bytes.ensures.value)
