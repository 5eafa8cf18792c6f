-- The least of two workers' rows.
use Rattle.std.proofs.Common.{◌≡◌, Bool, cond, Some, None, Option, sym, refl, ap, ◌∙◌, subst}
use Rattle.std.specs.Option.{option_map}
use Rattle.std.proofs.lemmas.Bool.{cases_Bool, not-true, not_from_false}
use Rattle.format.specs.Values.{IdentifierValue, NameValue}
use Rattle.format.specs.Same.{first_is_even}
use Rattle.books.specs.Values.{OutgoingValue, EntryValue}
use Rattle.books.specs.Meaning.{entry_value}
use Rattle.books.specs.Sides.{on}
use Rattle.books.specs.Order.{before, Stands, Least, earlier}
use Rattle.books.specs.declared.rows.Outgoing.{Outgoing}
use Rattle.books.specs.declared.side.Side.{Side}
use Rattle.books.specs.declared.side.Side.TheVariants.{All, Even, Odd}
use Rattle.books.proofs.Lists.{split}
use Rattle.books.proofs.Orders.{stays_behind, behind_onward}
use Rattle.split.specs.Joined.{by_chain}

module _ (w v : NameValue → Option OutgoingValue) where
  abbrev both : NameValue → Option OutgoingValue
  both n = by_chain n.sender (w n) (v n)

  -- ---- a row of the two is one of the first's on its side, or of the second's on the other
  first_stands : (x : EntryValue) → Stands w (on Even) x → Stands both (on Even) x
  first_stands x h = record { there = ap (λ b. cond b (w x.name) (v x.name)) h.chosen ∙ h.there; chosen = h.chosen }

  stands_first : (x : EntryValue) → Stands both (on Even) x → Stands w (on Even) x
  stands_first x h = record { there = sym (ap (λ b. cond b (w x.name) (v x.name)) h.chosen) ∙ h.there; chosen = h.chosen }

  second_stands : (x : EntryValue) → Stands v (on Odd) x → Stands both (on Odd) x
  second_stands x h = record { there = ap (λ b. cond b (w x.name) (v x.name)) (not-true _ h.chosen) ∙ h.there; chosen = h.chosen }

  stands_second : (x : EntryValue) → Stands both (on Odd) x → Stands v (on Odd) x
  stands_second x h = record { there = sym (ap (λ b. cond b (w x.name) (v x.name)) (not-true _ h.chosen)) ∙ h.there; chosen = h.chosen }

  -- ---- both sides
  any_stands : {t : IdentifierValue → Bool} (x : EntryValue) → Stands both t x → Stands both (on All) x
  any_stands x h = record { there = h.there; chosen = refl }

  by_side : {P : Type 0} (x : EntryValue) → Stands both (on All) x → (Stands w (on Even) x → P) → (Stands v (on Odd) x → P) → P
  by_side x h f g =
      split (cases_Bool (first_is_even x.name.sender))
      (λ e. f (stands_first x (record { there = h.there; chosen = e })))
      (λ e. g (stands_second x (record { there = h.there; chosen = not_from_false _ e })))

  least_both : (r s : Option Outgoing) → Least w (on Even) (option_map entry_value r) → Least v (on Odd) (option_map entry_value s) → Least both (on All) (option_map entry_value (earlier r s))
  least_both None None h k = λ y d. by_side y d (h y) (k y)
  least_both None (Some y) h k = (any_stands (entry_value y) (second_stands (entry_value y) k.0), λ z d. by_side z d (λ b. absurd (h z b)) (k.1 z))
  least_both (Some x) None h k = (any_stands (entry_value x) (first_stands (entry_value x) h.0), λ z d. by_side z d (h.1 z) (λ b. absurd (k z b)))
  least_both (Some x) (Some y) h k =
      split (cases_Bool (before (entry_value y) (entry_value x)))
      (λ e. rw e (any_stands (entry_value y) (second_stands (entry_value y) k.0), λ z d. by_side z d (λ b. stays_behind z (entry_value x) (entry_value y) e (h.1 z b)) (k.1 z)))
      (λ e. rw e (any_stands (entry_value x) (first_stands (entry_value x) h.0), λ z d. by_side z d (h.1 z) (λ b. behind_onward (entry_value x) (entry_value y) z (k.1 z b) e)))

  pub least_all : (side : Side) (r s q : Option Outgoing) → side ≡ All → q ≡ earlier r s
      → Least w (on Even) (option_map entry_value r) → Least v (on Odd) (option_map entry_value s) → Least both (on side) (option_map entry_value q)
  least_all side r s q d e h k =
      subst (λ t. Least both (on t) (option_map entry_value q)) (sym d) (subst (λ o. Least both (on All) (option_map entry_value o)) (sym e) (least_both r s h k))
