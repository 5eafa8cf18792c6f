-- Books of cells keep the laws of books, and change as the cells do.
use Rattle.std.proofs.Common.{◌≡◌, ℕ, ◌+◌, Bool, true, false, cond, ◌||◌, ltb, leb, [], ◌∷◌, is_some, Some, None, MatchBool, Option, sym, refl, ap, ◌∙◌, subst, inl, inr, arith}
use mathlib.Core.Path.{fun_ext}
use Rattle.std.proofs.lemmas.Bool.{and_from, and_parts, both_ways, cases_Bool, le-leb, leb-true, not_from_false, not-true, false≢true}
use Rattle.std.proofs.lemmas.Bool.Decides.{nat_tests}
use Rattle.std.specs.Option.{option_map}
use Rattle.format.specs.Values.{IdentifierValue, NameValue, MessageValue}
use Rattle.format.specs.Same.{same_identifier, same_name}
use Rattle.format.proofs.Same.{identifier_decides}
use Rattle.books.specs.Values.{RecordValue, minus, MarkValue, marking, OutgoingValue, EntryValue}
use Rattle.books.specs.Same.{same_mark}
use Rattle.books.specs.Counts.{Counts, none, Fewer, Kind, a_record, a_mark, an_outgoing, more}
use Rattle.books.specs.Sides.{on}
use Rattle.books.specs.Lists.{any}
use Rattle.books.specs.Books.{Rows, NoRow, Laws, Operation, put_record, put_mark, put_outgoing, remove_record, remove_mark, remove_outgoing, kind, chain_of, puts, present, updated, apply, Takes, Gives, Places, Step, Tried}
use Rattle.books.specs.declared.side.Side.{Side}
use Rattle.books.proofs.Lists.{split, In, any_in, in_any}
use Rattle.books.specs.SameLemmas.{sign_decides}
use Rattle.slots.specs.Rows.{RowValue, holds_record, holds_mark, holds_outgoing, RowKey, by_identifier, by_mark, by_name, row_key, home, same_key, has_key}
use Rattle.slots.specs.Reading.{record_part, outgoing_part}
use Rattle.slots.specs.Cells.{Cells, look, free, clashes, apart, minus_row, held_and, rows_of, within_free, celled, Edited, Put, Removed}
use Rattle.slots.proofs.Begins.{key_decides}
use Rattle.slots.proofs.Cells.{OfKey}

-- ---- the row that is found
pub look_of : (os : Cells) (k : RowKey) → OfKey k (look os k)
look_of [] k = tt
look_of (None ∷ os) k = look_of os k
look_of (Some v ∷ os) k = split (cases_Bool (same_key (row_key v) k))
    (λ e. rw e ((key_decides (row_key v) k).0 e))
    (λ e. rw e (look_of os k))

pub look_in : (os : Cells) (k : RowKey) (v : RowValue) → look os k ≡ Some v → In (Some v) os
look_in [] k v e = cc
look_in (o ∷ os) k v e = split (cases_Bool (has_key k o))
    (λ t. inl (sym (rw t at e)))
    (λ t. inr (look_in os k v (rw t at e)))

in_look : (os : Cells) (v : RowValue) → In (Some v) os → is_some (look os (row_key v)) ≡ true
in_look [] v m = absurd m
in_look (o ∷ os) v (inl h) = subst (λ z. is_some (cond (has_key (row_key v) z) z (look os (row_key v))) ≡ true) h (rw ((key_decides (row_key v) (row_key v)).1 refl))
in_look (o ∷ os) v (inr h) = split (cases_Bool (has_key (row_key v) o))
    (λ t. rw t (some_cell o t))
    (λ t. rw t (in_look os v h))
  where
    some_cell : (o : Option RowValue) → has_key (row_key v) o ≡ true → is_some o ≡ true
    some_cell None t = absurd (false≢true t)
    some_cell (Some w) t = refl

-- a row by its kind of key
a_mark_row : (v : RowValue) (m : MarkValue) → row_key v ≡ by_mark m → v ≡ holds_mark m
a_mark_row (holds_record c r) m e = cc
a_mark_row (holds_mark k) m e = let h : k ≡ m = cc in ap holds_mark h
a_mark_row (holds_outgoing o) m e = cc

some_record : (c : IdentifierValue) (o : Option RowValue) → OfKey (by_identifier c) o → is_some (option_map (λ x. x.1) (record_part o)) ≡ is_some o
some_record c None h = refl
some_record c (Some (holds_record d r)) h = refl
some_record c (Some (holds_mark m)) h = cc
some_record c (Some (holds_outgoing e)) h = cc

some_outgoing : (n : NameValue) (o : Option RowValue) → OfKey (by_name n) o → is_some (option_map (λ e. e.row) (outgoing_part o)) ≡ is_some o
some_outgoing n None h = refl
some_outgoing n (Some (holds_record d r)) h = cc
some_outgoing n (Some (holds_mark m)) h = cc
some_outgoing n (Some (holds_outgoing e)) h = refl

-- where cells are apart, each row is found under its key
pub look_row : (os : Cells) (v : RowValue) → apart os ≡ true → In (Some v) os → look os (row_key v) ≡ Some v
look_row [] v a m = absurd m
look_row (o ∷ os) v a (inl h) = subst (λ z. cond (has_key (row_key v) z) z (look os (row_key v)) ≡ Some v) h (rw ((key_decides (row_key v) (row_key v)).1 refl))
look_row (o ∷ os) v a (inr h) =
    let p = and_parts _ _ a in
    ap (λ t. cond t o (look os (row_key v))) (other o (not-true _ p.0)) ∙ look_row os v p.1 h
  where
    other : (o : Option RowValue) → clashes o os ≡ false → has_key (row_key v) o ≡ false
    other None e = refl
    other (Some w) e = split (cases_Bool (same_key (row_key w) (row_key v)))
        (λ t. absurd (both_ways _ e (in_any (has_key (row_key w)) os (Some v) h ((key_decides (row_key v) (row_key w)).1 (sym ((key_decides (row_key w) (row_key v)).0 t))))))
        (λ t. t)

-- an outgoing row that is found, with its name
pub found_outgoing : (os : Cells) (e : EntryValue) → (rows_of os).outgoing_at e.name ≡ Some e.row → look os (by_name e.name) ≡ Some (holds_outgoing e)
found_outgoing os e h = at (look os (by_name e.name)) (look_of os (by_name e.name)) h
  where
    at : (o : Option RowValue) → OfKey (by_name e.name) o → option_map (λ x. x.row) (outgoing_part o) ≡ Some e.row → o ≡ Some (holds_outgoing e)
    at None k h = cc
    at (Some (holds_record c r)) k h = cc
    at (Some (holds_mark m)) k h = cc
    at (Some (holds_outgoing x)) k h =
        let n : x.name ≡ e.name = cc in
        let w : x.row ≡ e.row = cc in
        λ i. Some (holds_outgoing (record { name = n i; row = w i }))

none_from : {X : Type 0} (o : Option X) → is_some o ≡ false → o ≡ None
none_from None e = refl
none_from (Some x) e = absurd (false≢true (sym e))

some_from : (o : Option RowValue) → is_some o ≡ true → (v : RowValue) × (o ≡ Some v)
some_from None e = absurd (false≢true e)
some_from (Some v) e = (v, refl)

-- ---- laws
cell_in : (test : RowValue → Bool) (os : Cells) → any (held_and test) os ≡ true → (v : RowValue) × In (Some v) os × (test v ≡ true)
cell_in test os e = let p = any_in (held_and test) os e in at p.0 p.1 p.2
  where
    at : (o : Option RowValue) → In o os → held_and test o ≡ true → (v : RowValue) × In (Some v) os × (test v ≡ true)
    at None m t = absurd (false≢true t)
    at (Some v) m t = (v, m, t)

minus_is : (c : IdentifierValue) (v : RowValue) → minus_row c v ≡ true → (x : MessageValue) × (row_key v ≡ by_mark (marking c x minus))
minus_is c (holds_record d r) t = absurd (false≢true t)
minus_is c (holds_outgoing e) t = absurd (false≢true t)
minus_is c (holds_mark m) t =
    let p = and_parts _ _ t in
    let target = (identifier_decides m.target c).0 p.0 in
    let sign = (sign_decides m.sign minus).0 p.1 in
    (m.message, λ i. by_mark (record { target = target i; message = m.message; sign = sign i }))

is_minus : (c : IdentifierValue) (x : MessageValue) (v : RowValue) → row_key v ≡ by_mark (marking c x minus) → minus_row c v ≡ true
is_minus c x v e = ap (minus_row c) (a_mark_row v (marking c x minus) e) ∙ and_from _ _ ((identifier_decides c c).1 refl) refl

module _ (os : Cells) (s : Side) where
  abbrev test : RowValue → Bool
  test v = on s (home (row_key v))

  not_found : any (held_and test) os ≡ false → (k : RowKey) → on s (home k) ≡ true → is_some (look os k) ≡ false
  not_found e k t = split (cases_Bool (is_some (look os k)))
      (λ h.
      let v = some_from (look os k) h in
      let key : row_key v.0 ≡ k = subst (OfKey k) v.1 (look_of os k) in
      absurd (both_ways _ e (in_any (held_and test) os (Some v.0) (look_in os k v.0 v.1) (ap (λ z. on s (home z)) key ∙ t))))
      (λ h. h)

  no_rows : any (held_and test) os ≡ false → NoRow (rows_of os) (on s)
  no_rows e = record {
    no_record = λ c t. none_from _ (some_record c _ (look_of os (by_identifier c)) ∙ not_found e (by_identifier c) t);
    no_mark = λ m t. not_found e (by_mark m) t;
    no_outgoing = λ n t. none_from _ (some_outgoing n _ (look_of os (by_name n)) ∙ not_found e (by_name n) t);
  }

  missing : NoRow (rows_of os) (on s) → (k : RowKey) → on s (home k) ≡ true → is_some (look os k) ≡ false
  missing w (by_identifier c) t = sym (some_record c _ (look_of os (by_identifier c))) ∙ ap is_some (w.no_record c t)
  missing w (by_mark m) t = w.no_mark m t
  missing w (by_name n) t = sym (some_outgoing n _ (look_of os (by_name n))) ∙ ap is_some (w.no_outgoing n t)

  none_held : NoRow (rows_of os) (on s) → any (held_and test) os ≡ false
  none_held w = split (cases_Bool (any (held_and test) os))
      (λ e. let p = cell_in test os e in absurd (both_ways _ (missing w (row_key p.0) p.2) (in_look os p.0 p.1)))
      (λ e. e)

less : (n : ℕ) (x y : Counts) → Fewer x y → leb (y.records + y.marks + y.outgoing) n ≡ true → leb (x.records + x.marks + x.outgoing) n ≡ true
less n x y h e = let b = leb-true _ n e in le-leb _ n (omega (arith, h.records, h.marks, h.outgoing))

pub celled_laws : (os : Cells) → Laws (celled os)
celled_laws os = record {
  zeros_fit = λ c. le-leb _ (free os) (omega arith);
  less_fits = λ c x y h e. less (free os) x y h e;
  owes = λ c x e.
      let v = some_from (look os (by_mark (marking c x minus))) e in
      let key : row_key v.0 ≡ by_mark (marking c x minus) = subst (OfKey (by_mark (marking c x minus))) v.1 (look_of os (by_mark (marking c x minus))) in
      in_any (held_and (minus_row c)) os (Some v.0) (look_in os (by_mark (marking c x minus)) v.0 v.1) (is_minus c x v.0 key);
  owed = λ c e.
      let p = cell_in (minus_row c) os e in
      let m = minus_is c p.0 p.2 in
      (m.0, subst (λ z. is_some (look os z) ≡ true) m.1 (in_look os p.0 p.1));
  blank_none = λ s e. no_rows os s (not-true _ e);
  none_blank = λ s w. not_from_false _ (none_held os s w);
}

-- ---- changes
-- the key and the new row of a change
abbrev pub key_of : Operation → RowKey
key_of (put_record c r) = by_identifier c
key_of (put_mark m) = by_mark m
key_of (put_outgoing n o) = by_name n
key_of (remove_record c) = by_identifier c
key_of (remove_mark m) = by_mark m
key_of (remove_outgoing n) = by_name n

abbrev pub row_of : Operation → Option RowValue
row_of (put_record c r) = Some (holds_record c r)
row_of (put_mark m) = Some (holds_mark m)
row_of (put_outgoing n o) = Some (holds_outgoing (record { name = n; row = o }))
row_of (remove_record c) = None
row_of (remove_mark m) = None
row_of (remove_outgoing n) = None

ap_cond : {X Y : Type 0} (f : X → Y) (t : Bool) (x y : X) → f (cond t x y) ≡ cond t (f x) (f y)
ap_cond f true x y = refl
ap_cond f false x y = refl

abbrev as_record : Option RowValue → Option RecordValue
as_record o = option_map (λ x. x.1) (record_part o)

abbrev as_outgoing : Option RowValue → Option OutgoingValue
as_outgoing o = option_map (λ e. e.row) (outgoing_part o)

module _ (os os' : Cells) where
  same_records : ((c : IdentifierValue) → look os' (by_identifier c) ≡ look os (by_identifier c)) → (rows_of os').record_at ≡ (rows_of os).record_at
  same_records h = fun_ext (λ c. ap as_record (h c))

  same_marks : ((m : MarkValue) → look os' (by_mark m) ≡ look os (by_mark m)) → (rows_of os').marked ≡ (rows_of os).marked
  same_marks h = fun_ext (λ m. ap is_some (h m))

  same_outgoing : ((n : NameValue) → look os' (by_name n) ≡ look os (by_name n)) → (rows_of os').outgoing_at ≡ (rows_of os).outgoing_at
  same_outgoing h = fun_ext (λ n. ap as_outgoing (h n))

  records_to : (c : IdentifierValue) (w : Option RowValue) → ((q : IdentifierValue) → look os' (by_identifier q) ≡ cond (same_identifier c q) w (look os (by_identifier q))) → (rows_of os').record_at ≡ updated same_identifier c (as_record w) (rows_of os).record_at
  records_to c w h = fun_ext (λ q. ap as_record (h q) ∙ ap_cond as_record (same_identifier c q) w (look os (by_identifier q)))

  marks_to : (m : MarkValue) (w : Option RowValue) → ((q : MarkValue) → look os' (by_mark q) ≡ cond (same_mark m q) w (look os (by_mark q))) → (rows_of os').marked ≡ updated same_mark m (is_some w) (rows_of os).marked
  marks_to m w h = fun_ext (λ q. ap is_some (h q) ∙ ap_cond is_some (same_mark m q) w (look os (by_mark q)))

  outgoing_to : (n : NameValue) (w : Option RowValue) → ((q : NameValue) → look os' (by_name q) ≡ cond (same_name n q) w (look os (by_name q))) → (rows_of os').outgoing_at ≡ updated same_name n (as_outgoing w) (rows_of os).outgoing_at
  outgoing_to n w h = fun_ext (λ q. ap as_outgoing (h q) ∙ ap_cond as_outgoing (same_name n q) w (look os (by_name q)))

  three : {a a' : IdentifierValue → Option RecordValue} {b b' : MarkValue → Bool} {d d' : NameValue → Option OutgoingValue} → a ≡ a' → b ≡ b' → d ≡ d'
      → ◌≡◌ {A = Rows} (record { record_at = a; marked = b; outgoing_at = d }) (record { record_at = a'; marked = b'; outgoing_at = d' })
  three p q r = λ i. record { record_at = p i; marked = q i; outgoing_at = r i }

  rows_changed : (o : Operation) → Edited os (key_of o) (row_of o) os' → rows_of os' ≡ apply o (rows_of os)
  rows_changed (put_record c r) h = three (records_to c (Some (holds_record c r)) (λ q. h (by_identifier q))) (same_marks (λ m. h (by_mark m))) (same_outgoing (λ n. h (by_name n)))
  rows_changed (put_mark k) h = three (same_records (λ c. h (by_identifier c))) (marks_to k (Some (holds_mark k)) (λ q. h (by_mark q))) (same_outgoing (λ n. h (by_name n)))
  rows_changed (put_outgoing n o) h = three (same_records (λ c. h (by_identifier c))) (same_marks (λ m. h (by_mark m))) (outgoing_to n (Some (holds_outgoing (record { name = n; row = o }))) (λ q. h (by_name q)))
  rows_changed (remove_record c) h = three (records_to c None (λ q. h (by_identifier q))) (same_marks (λ m. h (by_mark m))) (same_outgoing (λ n. h (by_name n)))
  rows_changed (remove_mark k) h = three (same_records (λ c. h (by_identifier c))) (marks_to k None (λ q. h (by_mark q))) (same_outgoing (λ n. h (by_name n)))
  rows_changed (remove_outgoing n) h = three (same_records (λ c. h (by_identifier c))) (same_marks (λ m. h (by_mark m))) (outgoing_to n None (λ q. h (by_name q)))

there : (os : Cells) (o : Operation) → present (rows_of os) o ≡ is_some (look os (key_of o))
there os (put_record c r) = some_record c _ (look_of os (by_identifier c))
there os (put_mark m) = refl
there os (put_outgoing n o) = some_outgoing n _ (look_of os (by_name n))
there os (remove_record c) = some_record c _ (look_of os (by_identifier c))
there os (remove_mark m) = refl
there os (remove_outgoing n) = some_outgoing n _ (look_of os (by_name n))

-- ---- places
one_more : (k : Kind) (n : ℕ) (c : IdentifierValue) (x : Counts) → within_free n c x ≡ within_free (n + 1) c (more k 1 x)
one_more a_record n c x = grind (arith, nat_tests)
one_more a_mark n c x = grind (arith, nat_tests)
one_more an_outgoing n c x = grind (arith, nat_tests)

one_fits : (k : Kind) (n : ℕ) (c : IdentifierValue) → within_free n c (more k 1 none) ≡ ltb 0 n
one_fits a_record n c = grind (arith, nat_tests)
one_fits a_mark n c = grind (arith, nat_tests)
one_fits an_outgoing n c = grind (arith, nat_tests)

put_places : (b : Bool) (k : Kind) (c : IdentifierValue) (n n' : ℕ) → n ≡ n' + cond b 0 1 → Places true b k c (within_free n) (within_free n')
put_places true k c n n' e = let h : n' ≡ n = omega arith in ap within_free h
put_places false k c n n' e = subst (λ z. Takes k c (within_free z) (within_free n')) (sym e) (record { taken = λ _. 1; own = refl; most = λ _. omega arith; after = λ d x. one_more k n' d x })

remove_places : (b : Bool) (k : Kind) (c : IdentifierValue) (n n' : ℕ) → n' ≡ n + cond b 1 0 → Places false b k c (within_free n) (within_free n')
remove_places true k c n n' e =
    subst (λ z. Gives k c (within_free n) (within_free z)) (sym e)
    (record { own = λ x. sym (one_more k n c x); others = λ d x h. let b = leb-true _ n h in le-leb _ (n + 1) (omega arith) })
remove_places false k c n n' e = let h : n' ≡ n = omega arith in ap within_free h

-- what is promised where a row goes in, and where it does not
either : (r : Bool) {A B C D : Type 0} → (A → C) → (B → D) → MatchBool r A B → MatchBool r C D
either true f g h = f h
either false f g h = g h

-- a row put into the cells
put_is : (o : Operation) → puts o ≡ true → (v : RowValue) → row_of o ≡ Some v → row_key v ≡ key_of o → (os : Cells) (r : Bool) (os' : Cells) → Put os v r os' → Tried (celled os) o r (celled os')
put_is o p v e k os r os' h = record {
  answer =
      h.answer
      ∙ (λ i. is_some (look os (k i)) || sym (one_fits (kind o) (free os) (chain_of o)) i)
      ∙ ap (λ t. t || within_free (free os) (chain_of o) (more (kind o) 1 none)) (sym (there os o));
  change = either r
      (λ d. record {
        rows = rows_changed os os' o (λ q. d.0 q ∙ (λ i. updated same_key (k i) (sym e i) (look os) q));
        places =
            subst (λ t. Places t (present (rows_of os) o) (kind o) (chain_of o) (within_free (free os)) (within_free (free os'))) (sym p)
            (put_places (present (rows_of os) o) (kind o) (chain_of o) (free os) (free os')
            (d.1 ∙ (λ i. free os' + cond (is_some (look os (k i))) 0 1) ∙ ap (λ t. free os' + cond t 0 1) (sym (there os o))));
      })
      (ap celled)
      h.change;
}

pub record_put : (c : IdentifierValue) (x : RecordValue) (os : Cells) (r : Bool) (os' : Cells) → Put os (holds_record c x) r os' → Tried (celled os) (put_record c x) r (celled os')
record_put c x = put_is (put_record c x) refl (holds_record c x) refl refl

pub mark_put : (m : MarkValue) (os : Cells) (r : Bool) (os' : Cells) → Put os (holds_mark m) r os' → Tried (celled os) (put_mark m) r (celled os')
mark_put m = put_is (put_mark m) refl (holds_mark m) refl refl

pub outgoing_put : (e : EntryValue) (os : Cells) (r : Bool) (os' : Cells) → Put os (holds_outgoing e) r os' → Tried (celled os) (put_outgoing e.name e.row) r (celled os')
outgoing_put e = put_is (put_outgoing e.name e.row) refl (holds_outgoing e) refl refl

-- a row removed from them
removed_is : (o : Operation) → puts o ≡ false → row_of o ≡ None → (os os' : Cells) → Removed os (key_of o) os' → Step (celled os) o (celled os')
removed_is o p e os os' h = record {
  rows = rows_changed os os' o (λ q. h.rows q ∙ (λ i. updated same_key (key_of o) (sym e i) (look os) q));
  places =
      subst (λ t. Places t (present (rows_of os) o) (kind o) (chain_of o) (within_free (free os)) (within_free (free os'))) (sym p)
      (remove_places (present (rows_of os) o) (kind o) (chain_of o) (free os) (free os') (h.places ∙ ap (λ t. free os + cond t 1 0) (sym (there os o))));
}

pub record_removed : (c : IdentifierValue) (os os' : Cells) → Removed os (by_identifier c) os' → Step (celled os) (remove_record c) (celled os')
record_removed c = removed_is (remove_record c) refl refl

pub mark_removed : (m : MarkValue) (os os' : Cells) → Removed os (by_mark m) os' → Step (celled os) (remove_mark m) (celled os')
mark_removed m = removed_is (remove_mark m) refl refl

pub outgoing_removed : (n : NameValue) (os os' : Cells) → Removed os (by_name n) os' → Step (celled os) (remove_outgoing n) (celled os')
outgoing_removed n = removed_is (remove_outgoing n) refl refl
