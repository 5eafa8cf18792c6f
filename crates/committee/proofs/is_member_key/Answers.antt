use Rattle.std.proofs.Common.{◌==◌, sym, ◌∙◌, rules, tests}
use Rattle.std.proofs.lemmas.Iterator.{YieldsList-from_slice}
use Rattle.std.proofs.lemmas.Iterator.Search.{any_from_yields_List}
use Rattle.committee.proofs.Members.{has_key_of}
use Rattle.committee.proofs.is_member_key.Goals as goal

pub returns : goal.returns
returns c =
    let ms = c.args.members.now in
    any_from_yields_List (λ m. m.key.0 == c.args.key.0) _ _ c.any.result c.any.ensures.ran (YieldsList-from_slice ms cc) (λ x b q k. search (rules, tests))
    ∙ sym (has_key_of ms c.args.key.0)
