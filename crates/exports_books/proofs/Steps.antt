-- One more row put, and one more lookup.
use Rattle.std.proofs.Common.{◌≡◌, ℕ, suc, ◌+◌, ◌-◌, ◌<◌, ◌≤◌, Bool, sym, ap, ◌∙◌, subst, add-zero, add_assoc, add-one, arith}
use Rattle.books.specs.Books.{BooksValue, Operation, Tried}
use Rattle.exports_books.specs.Lookups.{Filled, place_after, sum_from}

pub one_more_put : (put : ℕ → Operation) (m b m' : BooksValue) (n : ℕ) (r : Bool) → Filled put m n b → Tried b (put n) r m' → Filled put m (n + 1) m'
one_more_put put m b m' n r f t = subst (λ k. Filled put m k m') (sym (add-one n)) (b, r, f, t)

module _ (found : ℕ → ℕ) (rows stride place turn lookups sum total : ℕ) where
  one_left : turn < lookups → lookups - turn ≡ suc (lookups - (turn + 1))
  one_left h = omega arith

  -- what is left, with what was found, is still the whole
  pub one_more_found : turn < lookups → sum + sum_from found rows stride place (lookups - turn) ≡ total
      → (sum + found place) + sum_from found rows stride (place_after rows stride place) (lookups - (turn + 1)) ≡ total
  one_more_found h e =
      add_assoc sum (found place) (sum_from found rows stride (place_after rows stride place) (lookups - (turn + 1)))
      ∙ ap (λ k. sum + sum_from found rows stride place k) (sym (one_left h))
      ∙ e

  none_left : lookups ≤ turn → lookups - turn ≡ 0
  none_left h = omega arith

  pub all_found : lookups ≤ turn → sum + sum_from found rows stride place (lookups - turn) ≡ total → sum ≡ total
  all_found h e = sym (add-zero sum) ∙ ap (λ k. sum + sum_from found rows stride place k) (sym (none_left h)) ∙ e
