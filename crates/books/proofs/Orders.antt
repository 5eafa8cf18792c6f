-- The order of outgoing rows is strict and total, and one row is the least.
use Rattle.std.proofs.Common.{◌≡◌, ℕ, true, false, [], ◌∷◌, Some, None, Ordering, Less, Equal, Greater, sym, refl, ap, ◌∙◌, arith}
use Rattle.std.specs.Cmp.{IsTotalOrder}
use Rattle.std.specs.Ordering.{nat_cmp, is_lt, ordering_then, ordering_reverse}
use Rattle.std.proofs.lemmas.Bool.{both_ways, cases_Bool}
use Rattle.std.proofs.lemmas.Bool.Decides.{nat_tests}
use Rattle.std.proofs.lemmas.Cmp.{alike_right, lists_total, nat_cmp_total, on_total, then_total, tied_itself}
use Rattle.format.specs.Values.{IdentifierValue, NameValue}
use Rattle.format.specs.Order.{order_identifiers, order_names}
use Rattle.books.proofs.Lists.{split}
use Rattle.books.specs.Values.{EntryValue}
use Rattle.books.specs.Order.{order, before, StrictOrder, LeastIsOne}

names_order : IsTotalOrder order_names
names_order =
    then_total (on_total (λ (n : NameValue). n.height) nat_cmp_total)
    (then_total (on_total (λ (n : NameValue). n.sender) (lists_total nat_cmp_total)) (on_total (λ (n : NameValue). n.index) nat_cmp_total))

rows_order : IsTotalOrder order
rows_order = on_total (λ (x : EntryValue). x.name) names_order

-- ---- what is level is the same
then_equal : (o p : Ordering) → ordering_then o p ≡ Equal → (o ≡ Equal) × (p ≡ Equal)
then_equal Less p e = absurd (let z : ◌≡◌ {A = ℕ} 0 1 = cc in omega arith)
then_equal Equal p e = (refl, e)
then_equal Greater p e = absurd (let z : ◌≡◌ {A = ℕ} 0 1 = cc in omega arith)

equal_numbers : (m n : ℕ) → nat_cmp m n ≡ Equal → m ≡ n
equal_numbers m n e = grind (arith, nat_tests)

equal_identifiers : (xs ys : IdentifierValue) → order_identifiers xs ys ≡ Equal → xs ≡ ys
equal_identifiers [] [] e = refl
equal_identifiers [] (y ∷ ys) e = absurd (let z : ◌≡◌ {A = ℕ} 0 1 = cc in omega arith)
equal_identifiers (x ∷ xs) [] e = absurd (let z : ◌≡◌ {A = ℕ} 0 1 = cc in omega arith)
equal_identifiers (x ∷ xs) (y ∷ ys) e =
    let p = then_equal (nat_cmp x y) (order_identifiers xs ys) e in
    λ i. equal_numbers x y p.0 i ∷ equal_identifiers xs ys p.1 i

equal_names : (x y : EntryValue) → order x y ≡ Equal → x.name ≡ y.name
equal_names x y e =
    let p = then_equal (nat_cmp x.name.height y.name.height) _ e in
    let q = then_equal (order_identifiers x.name.sender y.name.sender) (nat_cmp x.name.index y.name.index) p.1 in
    let s = equal_identifiers x.name.sender y.name.sender q.0 in
    let h = equal_numbers x.name.height y.name.height p.0 in
    let k = equal_numbers x.name.index y.name.index q.1 in
    λ i. record { sender = s i; height = h i; index = k i }

less_from : (o : Ordering) → is_lt o ≡ true → o ≡ Less
less_from Less e = refl
less_from Equal e = absurd (let z : ◌≡◌ {A = ℕ} 0 1 = cc in omega arith)
less_from Greater e = absurd (let z : ◌≡◌ {A = ℕ} 0 1 = cc in omega arith)

neither : (o : Ordering) → is_lt o ≡ false → is_lt (ordering_reverse o) ≡ false → o ≡ Equal
neither Less d e = absurd (let z : ◌≡◌ {A = ℕ} 0 1 = cc in omega arith)
neither Equal d e = refl
neither Greater d e = absurd (let z : ◌≡◌ {A = ℕ} 0 1 = cc in omega arith)

pub strict_order : StrictOrder
strict_order = record {
  irreflexive = λ x. ap is_lt (tied_itself rows_order x);
  transitive = λ x y z d e. ap is_lt (rows_order.trans x y z (less_from _ d) (less_from _ e));
  total = λ x y d e. equal_names x y (neither (order x y) d (sym (ap is_lt (rows_order.antisymm y x)) ∙ e));
}

-- what is not before a row is not before an earlier one
pub stays_behind : (x y z : EntryValue) → before z y ≡ true → before x y ≡ false → before x z ≡ false
stays_behind x y z d e = split (cases_Bool (before x z)) (λ h. absurd (both_ways (before x y) e (strict_order.transitive x z y h d))) (λ h. h)

-- what is not before a row is not before a later one, or one that is level with it
pub behind_onward : (x y z : EntryValue) → before z y ≡ false → before y x ≡ false → before z x ≡ false
behind_onward x y z d e =
    split (cases_Bool (before z x))
    (λ h. absurd (both_ways (before z y) d (from (order y x) refl (less_from (order z x) h))))
    (λ h. h)
  where
    from : (o : Ordering) → order y x ≡ o → order z x ≡ Less → before z y ≡ true
    from Less h k = absurd (both_ways (before y x) e (ap is_lt h))
    from Equal h k = ap is_lt (alike_right rows_order y x z h ∙ k)
    from Greater h k = ap is_lt (rows_order.trans z x y k (rows_order.antisymm x y ∙ ap ordering_reverse h))

pub least_is_one : LeastIsOne
least_is_one at test None None d e = refl
least_is_one at test None (Some y) d e = absurd (d y e.0)
least_is_one at test (Some x) None d e = absurd (e x d.0)
least_is_one at test (Some x) (Some y) d e =
    let n : x.name ≡ y.name = strict_order.total x y (e.1 x d.0) (d.1 y e.0) in
    let o : Some x.row ≡ Some y.row = sym d.0.there ∙ ap at n ∙ e.0.there in
    let r : x.row ≡ y.row = cc in
    λ i. Some (record { name = n i; row = r i })
