-- Places that are taken and given, where each count is within its free rows.
use Rattle.std.proofs.Common.{◌≡◌, ℕ, ◌+◌, Bool, true, false, cond, ◌&&◌, ltb, leb, sym, refl, ap, ◌∙◌, subst, add-zero, arith}
use Rattle.std.proofs.lemmas.Bool.{le-leb}
use Rattle.std.proofs.lemmas.Bool.Decides.{nat_tests}
use Rattle.format.specs.Values.{IdentifierValue}
use Rattle.books.specs.Counts.{Counts, none, Fewer, Kind, a_record, a_mark, an_outgoing, more}
use Rattle.books.specs.Books.{Takes, Gives, Places}
use Rattle.tables.specs.Within.{within, within_less, same_counts}

-- the count of a kind
abbrev pub of_kind : Kind → Counts → ℕ
of_kind a_record x = x.records
of_kind a_mark x = x.marks
of_kind an_outgoing x = x.outgoing

leb_step : (x n : ℕ) → leb x n ≡ leb (x + 1) (n + 1)
leb_step x n = grind (arith, nat_tests)

one_more : (k : Kind) (free : Counts) (c : IdentifierValue) (x : Counts) → within free c x ≡ within (more k 1 free) c (more k 1 x)
one_more a_record free c x = ap (λ t. t && (leb x.marks free.marks && leb x.outgoing free.outgoing)) (leb_step x.records free.records)
one_more a_mark free c x = ap (λ t. leb x.records free.records && (t && leb x.outgoing free.outgoing)) (leb_step x.marks free.marks)
one_more an_outgoing free c x = ap (λ t. leb x.records free.records && (leb x.marks free.marks && t)) (leb_step x.outgoing free.outgoing)

more_free : (k : Kind) (free : Counts) → Fewer free (more k 1 free)
more_free a_record free = record { records = omega arith; marks = omega arith; outgoing = omega arith }
more_free a_mark free = record { records = omega arith; marks = omega arith; outgoing = omega arith }
more_free an_outgoing free = record { records = omega arith; marks = omega arith; outgoing = omega arith }

no_more : (k : Kind) (free : Counts) → more k 0 free ≡ free
no_more a_record free = λ i. record { records = add-zero free.records i; marks = free.marks; outgoing = free.outgoing }
no_more a_mark free = λ i. record { records = free.records; marks = add-zero free.marks i; outgoing = free.outgoing }
no_more an_outgoing free = λ i. record { records = free.records; marks = free.marks; outgoing = add-zero free.outgoing i }

takes : (k : Kind) (c : IdentifierValue) (free : Counts) → Takes k c (within (more k 1 free)) (within free)
takes k c free = record { taken = λ _. 1; own = refl; most = λ _. omega arith; after = λ d x. one_more k free d x }

gives : (k : Kind) (c : IdentifierValue) (free : Counts) → Gives k c (within free) (within (more k 1 free))
gives k c free = record {
  own = λ x. sym (one_more k free c x);
  others = λ d x h. within_less free (more k 1 free) (more_free k free) d x x (same_counts x) h;
}

pub put_places : (b : Bool) (k : Kind) (c : IdentifierValue) (free free' : Counts) → free ≡ more k (cond b 0 1) free' → Places true b k c (within free) (within free')
put_places true k c free free' e = ap within (sym (no_more k free')) ∙ ap within (sym e)
put_places false k c free free' e = subst (λ f. Takes k c (within f) (within free')) (sym e) (takes k c free')

pub remove_places : (b : Bool) (k : Kind) (c : IdentifierValue) (free free' : Counts) → free' ≡ more k (cond b 1 0) free → Places false b k c (within free) (within free')
remove_places true k c free free' e = subst (λ f. Gives k c (within free) (within f)) (sym e) (gives k c free)
remove_places false k c free free' e = ap within (e ∙ no_more k free)

and_true : (t : Bool) → (t && true) ≡ t
and_true true = refl
and_true false = refl

-- one more of a kind fits where a row is free
pub one_fits : (k : Kind) (free : Counts) (c : IdentifierValue) → within free c (more k 1 none) ≡ ltb 0 (of_kind k free)
one_fits a_record free c = rw (le-leb 0 free.marks (omega arith), le-leb 0 free.outgoing (omega arith)) (and_true _)
one_fits a_mark free c = rw (le-leb 0 free.records (omega arith), le-leb 0 free.outgoing (omega arith)) (and_true _)
one_fits an_outgoing free c = rw (le-leb 0 free.records (omega arith), le-leb 0 free.marks (omega arith))
