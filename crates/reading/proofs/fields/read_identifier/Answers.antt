use Rattle.std.proofs.Common.{get_or, drop, None, sym, ap, ◌∙◌}
use Rattle.std.proofs.lemmas.Bool.{cond-true, cond-false, eq-eqb, ne_eqb}
use Rattle.std.specs.Option.{option_map}
use Rattle.format.specs.Identifiers.{identified}
use Rattle.format.specs.Layout.{max_depth, depth_len}
use Rattle.format.specs.Meaning.{identifier_value}
use Rattle.reading.specs.Fields.{identifier_in, numbers_in}
use Rattle.reading.proofs.fields.read_identifier.Goals as goal

pub returns-then-bytes-ne-IDENTIFIER_LEN : goal.returns-then-bytes-ne-IDENTIFIER_LEN
unfolding identifier_in
returns-then-bytes-ne-IDENTIFIER_LEN c = sym (cond-false _ _ _ (ne_eqb _ _ c.if-bytes-ne-IDENTIFIER_LEN.true))

pub returns : goal.returns
unfolding identifier_in
returns c =
    let bs = c.args.bytes.now in
    ap (option_map identifier_value) c.ok.ensures.value ∙ c.new.ensures ∙ ap (identified (get_or bs 0 0)) c.numbers_in.ensures
    ∙ sym (cond-true _ (identified (get_or bs 0 0) (numbers_in max_depth (drop depth_len bs))) None (eq-eqb _ _ c.if-bytes-ne-IDENTIFIER_LEN.false))
