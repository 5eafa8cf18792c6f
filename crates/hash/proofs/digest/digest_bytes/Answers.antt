use Rattle.std.proofs.Common.{◌≡◌, ◌<◌, [], map, length, get_or, sym, ap, ◌∙◌, rules}
use Rattle.std.specs.List.{flat_map}
use Rattle.std.proofs.lemmas.List.{ext_get_or, get_or-map, length-map}
use Rattle.std.proofs.lemmas.List.Folds.{flat_map-map}
use Rattle.hash.specs.Words.{word_bytes}
use Rattle.hash.proofs.Bytes.{word_to_bytes}
use Rattle.hash.proofs.digest.digest_bytes.Goals as goal

pub returns : goal.returns
returns c =
    let items = c.map-words.ensures.items in
    let words = c.args.hash.now in
    let each : c.map-words.result ≡ map word_bytes words =
    ext_get_or [] c.map-words.result (map word_bytes words) (search (rules, length-map))
    (λ k h.
    let in_words : k < length words = search rules in
    (items.at k 0 [] (search rules)).2.met ∙ word_to_bytes (get_or words k 0) ∙ sym (get_or-map word_bytes words k 0 [] in_words)) in
    c.copy_from_slice.ensures.after ∙ c.as_flattened.ensures.value ∙ ap (flat_map (λ x. x)) each ∙ flat_map-map (λ x. x) word_bytes words
