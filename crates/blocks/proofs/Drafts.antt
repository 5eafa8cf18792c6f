-- What changes of marks come to.
use Rattle.std.proofs.Common.{◌≡◌, Bool, true, false, cond, not, ◌||◌, List, [], ◌∷◌, refl, sym, ap, ◌∙◌}
use Rattle.std.specs.List.{list_any}
use Rattle.books.specs.Lists.{any}
use Rattle.books.specs.Books.{puts}
use Rattle.blocks.specs.Drafts.{change_value, changes_value}
use Rattle.blocks.specs.declared.draft.Change.{Change}

-- a mark that was not there, after one is put that is the same or not
pub after_put : (r same before : Bool) → r ≡ same → before ≡ false → r ≡ cond same true before
after_put r true before e n = e
after_put r false before e n = e ∙ sym n

-- a mark that was there, after one is removed that is the same or not
pub after_removed : (r same before : Bool) → r ≡ not same → before ≡ true → r ≡ cond same false before
after_removed r true before e y = e
after_removed r false before e y = e ∙ sym y

pub any_put : (cs : List Change) → any puts (changes_value cs) ≡ list_any (λ c. puts (change_value c)) cs
any_put [] = refl
any_put (c ∷ cs) = ap (λ t. puts (change_value c) || t) (any_put cs)
