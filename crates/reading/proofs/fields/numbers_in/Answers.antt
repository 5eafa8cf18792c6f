use Rattle.std.proofs.Common.{◌≡◌, ℕ, ◌/◌, ◌<◌, List, [], ◌∷◌, map, length, get_or, drop, ap, ◌∙◌, arith, rules, length-drop}
use Rattle.std.proofs.lemmas.List.{take_rest}
use Rattle.std.specs.Simd.{first_chunks}
use Rattle.format.specs.Layout.{depth_len, max_depth, number_len}
use Rattle.format.specs.Numbers.{from_bytes}
use Rattle.format.proofs.Numbers.{chunk_length, map_by_places, number_of_two}
use Rattle.reading.proofs.fields.numbers_in.Goals as goal

pub returns : goal.returns
returns c =
    let items = c.map.ensures.items in
    let chunks : List (List ℕ) = c.unwrap.result.now in
    let numbers : List (List ℕ) = get_or chunks 0 [] ∷ get_or chunks 1 [] ∷ get_or chunks 2 [] ∷ get_or chunks 3 [] ∷ [] in
    let rest = drop depth_len c.args.bytes.now in
    let rest_is = take_rest c.args.bytes.now depth_len in
    let count : length rest / number_len ≡ max_depth = omega (arith, length-drop depth_len c.args.bytes.now, c.requires) in
    let front : c.as_chunks.result.0.now ≡ first_chunks number_len max_depth rest =
    c.as_chunks.ensures.front ∙ (λ i. first_chunks number_len (length (rest_is i) / number_len) (rest_is i)) ∙ ap (λ n. first_chunks number_len n rest) count in
    let taken : chunks ≡ first_chunks number_len max_depth rest = search rules in
    let same : numbers ≡ first_chunks number_len max_depth rest = (λ i. get_or (taken i) 0 [] ∷ get_or (taken i) 1 [] ∷ get_or (taken i) 2 [] ∷ get_or (taken i) 3 [] ∷ []) in
    let long : (k : ℕ) → k < max_depth → length (get_or numbers k []) ≡ number_len =
    λ k h. ap (λ xs. length (get_or xs k [])) same ∙ chunk_length number_len max_depth rest k (omega (arith, length-drop depth_len c.args.bytes.now, c.requires)) h in
    map_by_places from_bytes [] numbers c.map.result (search rules)
    (λ k h. (items.at k [] 0 (search rules)).2.met ∙ number_of_two (get_or numbers k []) (long k (search rules)))
    ∙ ap (map from_bytes) same
