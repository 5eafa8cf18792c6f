-- A slot that holds a row begins with the row's key.
use Rattle.std.proofs.Common.{◌≡◌, ℕ, ◌≤◌, Bool, true, false, cond, not, eqb, leb, ◌≢◌, List, ◌++◌, length, drop, replicate, is_some, Some, None, Decides, Option, sym, refl, ap, ◌∙◌, subst, append_assoc, arith, take-append-drop}
use Rattle.std.proofs.lemmas.Bool.{and_parts, and_from, eqb-true, eq-eqb, leb-true, le-leb, cases_Bool, cases_eq, not_from_false, cond-true, ne_eqb, false≢true}
use Rattle.std.specs.Option.{option_map}
use Rattle.format.specs.Layout.{identifier_len}
use Rattle.format.specs.Bytes.{identifier_bytes, message_bytes}
use Rattle.format.specs.Identifiers.{Identifies}
use Rattle.format.specs.Values.{IdentifierValue, NameValue}
use Rattle.format.proofs.Same.{identifier_decides, name_decides}
use Rattle.books.specs.Values.{RecordValue, SignValue, plus, minus, MarkValue, LoadValue, opening, sent}
use Rattle.books.specs.Same.{minus_of}
use Rattle.books.proofs.Lists.{split}
use Rattle.books.specs.SameLemmas.{mark_decides, sign_decides}
use Rattle.slots.specs.Layout.{slot_len, free_byte, record_byte, plus_byte, minus_byte, opening_byte, message_byte, chain_at, message_at, target_at}
use Rattle.slots.specs.Rows.{RowValue, holds_record, holds_mark, holds_outgoing, RowKey, by_identifier, by_mark, by_name, row_key, home, same_key, has_key}
use Rattle.slots.specs.Bytes.{sign_byte, load_byte, record_bytes, mark_bytes, outgoing_bytes, filled, row_bytes, slot_bytes}
use Rattle.slots.specs.Reading.{field, both, chain_in, name_at, record_fields, mark_fields, opening_in, sent_in, row_of_kind, kind_of, row_in, home_in}
use Rattle.slots.specs.RoundTrip.{KeyFits, Exact}
use Rattle.slots.specs.Prefixes.{PrefixValue, begins, key_prefix, minus_prefix, free_prefix}
use Rattle.slots.specs.Cells.{minus_row, held_and}
use Rattle.slots.proofs.Fields.{field_is, identifier_is, name_is, of_kind}
use Rattle.reading.specs.Fields.{identifier_in}
use Rattle.slots.proofs.Backs.{zeros, record_lies, mark_lies, outgoing_lies, kind_of_record, kind_of_mark, kind_of_outgoing, of_sign, mark_is}
use Rattle.slots.proofs.Readings.{row_short}

-- two tests that follow from each other
both_hold : (x y : Bool) → (x ≡ true → y ≡ true) → (y ≡ true → x ≡ true) → x ≡ y
both_hold true true f g = refl
both_hold true false f g = sym (f refl)
both_hold false true f g = g refl
both_hold false false f g = refl

none≢some : {X : Type 0} {x : X} → ◌≡◌ {A = Option X} None (Some x) → ⊥
none≢some e = cc

pub key_decides : (x y : RowKey) → Decides (same_key x y) (x ≡ y)
key_decides (by_identifier c) (by_identifier d) = (λ e. ap by_identifier ((identifier_decides c d).0 e), λ e. (identifier_decides c d).1 (let h : c ≡ d = cc in h))
key_decides (by_identifier c) (by_mark m) = (λ e. absurd (false≢true e), λ e. cc)
key_decides (by_identifier c) (by_name n) = (λ e. absurd (false≢true e), λ e. cc)
key_decides (by_mark m) (by_identifier d) = (λ e. absurd (false≢true e), λ e. cc)
key_decides (by_mark m) (by_mark k) = (λ e. ap by_mark ((mark_decides m k).0 e), λ e. (mark_decides m k).1 (let h : m ≡ k = cc in h))
key_decides (by_mark m) (by_name n) = (λ e. absurd (false≢true e), λ e. cc)
key_decides (by_name n) (by_identifier d) = (λ e. absurd (false≢true e), λ e. cc)
key_decides (by_name n) (by_mark m) = (λ e. absurd (false≢true e), λ e. cc)
key_decides (by_name n) (by_name k) = (λ e. ap by_name ((name_decides n k).0 e), λ e. (name_decides n k).1 (let h : n ≡ k = cc in h))

-- ---- what it means to begin with a prefix
pub record Begins (p : PrefixValue) (s : List ℕ) : Type 0 where
  pub whole : length s ≡ slot_len
  pub low : p.first ≤ kind_of s
  pub high : kind_of s ≤ p.last
  pub lies : drop chain_at s ≡ p.bytes ++ drop (length p.bytes) (drop chain_at s)

begins_parts : (p : PrefixValue) (s : List ℕ) → begins p s ≡ true → Begins p s
begins_parts p s e =
    let a = and_parts (eqb (length s) slot_len) _ e in
    let b = and_parts (leb p.first (kind_of s)) _ a.1 in
    let d = and_parts (leb (kind_of s) p.last) _ b.1 in
    record {
      whole = eqb-true (length s) slot_len a.0;
      low = leb-true p.first (kind_of s) b.0;
      high = leb-true (kind_of s) p.last d.0;
      lies =
          sym (take-append-drop (length p.bytes) (drop chain_at s))
          ∙ ap (λ z. z ++ drop (length p.bytes) (drop chain_at s)) ((identifier_decides (field chain_at (length p.bytes) s) p.bytes).0 d.1);
    }

begins_from : (p : PrefixValue) (s y : List ℕ) → length s ≡ slot_len → p.first ≤ kind_of s → kind_of s ≤ p.last → drop chain_at s ≡ p.bytes ++ y → begins p s ≡ true
begins_from p s y l a b lies =
    and_from _ _ (eq-eqb (length s) slot_len l)
    (and_from _ _ (le-leb p.first (kind_of s) a)
    (and_from _ _ (le-leb (kind_of s) p.last b)
    ((identifier_decides (field chain_at (length p.bytes) s) p.bytes).1 (field_is s chain_at p.bytes y lies (length p.bytes) refl))))

-- a slot that reads as a row has the length of a slot
row_long : (s : List ℕ) (v : RowValue) → row_in s ≡ Some v → length s ≡ slot_len
row_long s v e = split (cases_eq (length s) slot_len) (λ h. h) (λ n. absurd (none≢some (sym (row_short s n) ∙ e)))

-- a free slot
module _ (s : List ℕ) (e : Exact s) (none : row_in s ≡ None) where
  zeros_are : s ≡ replicate slot_len 0
  zeros_are = sym e ∙ ap slot_bytes none

  no_prefix : (p : PrefixValue) → 1 ≤ p.first → begins p s ≡ false
  no_prefix p h = split (cases_Bool (begins p s))
      (λ t. let b = begins_parts p s t in let low : p.first ≤ 0 = subst (λ z. p.first ≤ kind_of z) zeros_are b.low in absurd (omega arith))
      (λ t. t)

-- a slot that begins with a key and holds a row holds the row with that key
outgoing_named : (load : LoadValue) (n : NameValue) (x : Option IdentifierValue) (v : RowValue)
    → option_map holds_outgoing (both (λ n t. record { name = n; row = record { target = t; load = load } }) (Some n) x) ≡ Some v
    → row_key v ≡ by_name n
outgoing_named load n None v e = absurd (none≢some e)
outgoing_named load n (Some t) v e = let h : v ≡ holds_outgoing (record { name = n; row = record { target = t; load = load } }) = cc in ap row_key h

sign_kind : (g : SignValue) (b : ℕ) → sign_byte g ≤ b → b ≤ sign_byte g → b ≡ sign_byte g
sign_kind g b l h = omega arith

key_of : (k : RowKey) → KeyFits k → (s : List ℕ) (v : RowValue) → row_in s ≡ Some v → Begins (key_prefix k) s → row_key v ≡ k
key_of (by_identifier c) fits s v e b =
    let low = b.low in
    let high = b.high in
    let kind : kind_of s ≡ record_byte = omega arith in
    let read = of_kind s record_byte b.whole kind ∙ ap (option_map (λ c. holds_record c (record_fields s))) (identifier_is s chain_at c _ b.lies fits) in
    let h : Some v ≡ Some (holds_record c (record_fields s)) = sym e ∙ read in
    let g : v ≡ holds_record c (record_fields s) = cc in
    ap row_key g
key_of (by_mark m) fits s v e b =
    let kind = sign_kind m.sign (kind_of s) b.low b.high in
    let lies = b.lies ∙ append_assoc (identifier_bytes m.target) (message_bytes m.message) _ in
    let read = of_kind s (sign_byte m.sign) b.whole kind ∙ of_sign m.sign s ∙ mark_is s m _ fits lies in
    let h : Some v ≡ Some (holds_mark m) = sym e ∙ read in
    let g : v ≡ holds_mark m = cc in
    ap row_key g
key_of (by_name n) fits s v e b =
    let name = name_is s chain_at n _ b.lies fits in
    let target = identifier_in (field target_at identifier_len s) in
    let of_load = λ (load : LoadValue). ap (λ z. option_map holds_outgoing (both (λ n t. record { name = n; row = record { target = t; load = load } }) z target)) (sym name) in
    split (cases_eq (kind_of s) opening_byte)
    (λ kind. outgoing_named (opening_in s) n target v (of_load (opening_in s) ∙ sym (of_kind s opening_byte b.whole kind) ∙ e))
    (λ ne.
    let low = b.low in
    let high = b.high in
    let kind : kind_of s ≡ message_byte = omega arith in
    outgoing_named (sent_in s) n target v (of_load (sent_in s) ∙ sym (of_kind s message_byte b.whole kind) ∙ e))

-- a row's bytes begin with its key
own_key : (v : RowValue) → length (row_bytes v) ≡ slot_len → begins (key_prefix (row_key v)) (row_bytes v) ≡ true
own_key (holds_record c r) l =
    let kind = kind_of_record c r in
    begins_from (key_prefix (by_identifier c)) (filled (record_bytes c r)) _ l (omega arith) (omega arith) (record_lies c r)
own_key (holds_mark m) l =
    let kind = kind_of_mark m in
    begins_from (key_prefix (by_mark m)) (filled (mark_bytes m)) (zeros (mark_bytes m)) l (omega arith) (omega arith)
    (mark_lies m ∙ sym (append_assoc (identifier_bytes m.target) (message_bytes m.message) (zeros (mark_bytes m))))
own_key (holds_outgoing e) l =
    let kind = kind_of_outgoing e in
    let some = load_kind e.row.load in
    begins_from (key_prefix (by_name e.name)) (filled (outgoing_bytes e)) _ l (omega (arith, some.0)) (omega (arith, some.1)) (outgoing_lies e)
  where
    load_kind : (l : LoadValue) → (opening_byte ≤ load_byte l) × (load_byte l ≤ message_byte)
    load_kind (opening key) = (omega arith, omega arith)
    load_kind (sent code value) = (omega arith, omega arith)

pub key_begins : (k : RowKey) → KeyFits k → (s : List ℕ) → Exact s → begins (key_prefix k) s ≡ has_key k (row_in s)
key_begins k fits s e = at (row_in s) refl
  where
    first_some : (k : RowKey) → 1 ≤ (key_prefix k).first
    first_some (by_identifier c) = omega arith
    first_some (by_mark m) = signs m.sign
      where
        signs : (g : SignValue) → 1 ≤ sign_byte g
        signs plus = omega arith
        signs minus = omega arith
    first_some (by_name n) = omega arith

    at : (o : Option RowValue) → row_in s ≡ o → begins (key_prefix k) s ≡ has_key k o
    at None h = no_prefix s e h (key_prefix k) (first_some k)
    at (Some v) h =
        let same : s ≡ row_bytes v = sym e ∙ ap slot_bytes h in
        both_hold _ _
        (λ t. (key_decides (row_key v) k).1 (key_of k fits s v h (begins_parts (key_prefix k) s t)))
        (λ t.
        subst (λ z. begins (key_prefix z) s ≡ true) ((key_decides (row_key v) k).0 t)
        (subst (λ z. begins (key_prefix (row_key v)) z ≡ true) (sym same) (own_key v (ap length (sym same) ∙ row_long s v h))))

-- ---- minus marks of a chain
minus_parts : (c : IdentifierValue) (m : MarkValue) → minus_of c m ≡ true → (m.target ≡ c) × (m.sign ≡ minus)
minus_parts c m t = let p = and_parts _ _ t in ((identifier_decides m.target c).0 p.0, (sign_decides m.sign minus).0 p.1)

read_minus : (f : IdentifierValue → NameValue → MarkValue) → ((t : IdentifierValue) (n : NameValue) → ((f t n).target ≡ t) × ((f t n).sign ≡ minus)) → (c : IdentifierValue) (y : Option NameValue) (v : RowValue) → both (λ t n. holds_mark (f t n)) (Some c) y ≡ Some v → minus_row c v ≡ true
read_minus f h c None v e = absurd (none≢some e)
read_minus f h c (Some n) v e =
    let g : v ≡ holds_mark (f c n) = cc in
    ap (minus_row c) g ∙ and_from _ _ ((identifier_decides (f c n).target c).1 (h c n).0) ((sign_decides (f c n).sign minus).1 (h c n).1)

pub minus_begins : (c : IdentifierValue) → Identifies c → (s : List ℕ) → Exact s → begins (minus_prefix c) s ≡ held_and (minus_row c) (row_in s)
minus_begins c fits s e = at (row_in s) refl
  where
    there : (v : RowValue) → row_in s ≡ Some v → Begins (minus_prefix c) s → minus_row c v ≡ true
    there v h b =
        let low = b.low in
        let high = b.high in
        let kind : kind_of s ≡ minus_byte = omega arith in
        let chain = identifier_is s chain_at c _ b.lies fits in
        read_minus (mark_fields minus s) (λ t n. (refl, refl)) c (name_at message_at s) v
        (ap (λ z. both (λ t n. holds_mark (mark_fields minus s t n)) z (name_at message_at s)) (sym chain) ∙ sym (of_kind s minus_byte b.whole kind) ∙ h)

    back : (v : RowValue) → length (row_bytes v) ≡ slot_len → minus_row c v ≡ true → begins (minus_prefix c) (row_bytes v) ≡ true
    back (holds_record d r) l t = absurd (false≢true t)
    back (holds_outgoing o) l t = absurd (false≢true t)
    back (holds_mark m) l t =
        let p = minus_parts c m t in
        let kind : kind_of (filled (mark_bytes m)) ≡ minus_byte = kind_of_mark m ∙ ap sign_byte p.1 in
        begins_from (minus_prefix c) (filled (mark_bytes m)) (message_bytes m.message ++ zeros (mark_bytes m)) l (omega arith) (omega arith)
        (mark_lies m ∙ ap (λ z. identifier_bytes z ++ (message_bytes m.message ++ zeros (mark_bytes m))) p.0)

    at : (o : Option RowValue) → row_in s ≡ o → begins (minus_prefix c) s ≡ held_and (minus_row c) o
    at None h = no_prefix s e h (minus_prefix c) (omega arith)
    at (Some v) h =
        let same : s ≡ row_bytes v = sym e ∙ ap slot_bytes h in
        both_hold _ _
        (λ t. there v h (begins_parts (minus_prefix c) s t))
        (λ t. subst (λ z. begins (minus_prefix c) z ≡ true) (sym same) (back v (ap length (sym same) ∙ row_long s v h) t))

-- ---- free slots
-- a slot that holds a row does not begin as a free one
row_kind : (s : List ℕ) (v : RowValue) → row_in s ≡ Some v → kind_of s ≢ free_byte
row_kind s v h kind = none≢some (sym (of_kind s free_byte (row_long s v h) kind) ∙ h)

pub free_begins : (s : List ℕ) → Exact s → begins free_prefix s ≡ not (is_some (row_in s))
free_begins s e = at (row_in s) refl
  where
    at : (o : Option RowValue) → row_in s ≡ o → begins free_prefix s ≡ not (is_some o)
    at None h = ap (begins free_prefix) (zeros_are s e h)
    at (Some v) h = split (cases_Bool (begins free_prefix s))
        (λ t. let high = (begins_parts free_prefix s t).high in let kind : kind_of s ≡ free_byte = omega arith in absurd (row_kind s v h kind))
        (λ t. t)

-- ---- the chain of a row
module _ (v : RowValue) (x : Option IdentifierValue) where
  abbrev Home : Type 0
  Home = x ≡ Some (home (row_key v))

  home_cases : (t : Bool) (y z : Option RowValue) → (y ≡ Some v → Home) → (z ≡ Some v → Home) → cond t y z ≡ Some v → Home
  home_cases true y z f g e = f e
  home_cases false y z f g e = g e

home_record : (f : RecordValue) (x : Option IdentifierValue) (v : RowValue) → option_map (λ c. holds_record c f) x ≡ Some v → x ≡ Some (home (row_key v))
home_record f None v e = absurd (none≢some e)
home_record f (Some c) v e = let h : v ≡ holds_record c f = cc in ap (λ z. Some (home (row_key z))) (sym h)

home_mark : (f : IdentifierValue → NameValue → MarkValue) → ((t : IdentifierValue) (n : NameValue) → (f t n).target ≡ t) → (x : Option IdentifierValue) (y : Option NameValue) (v : RowValue) → both (λ t n. holds_mark (f t n)) x y ≡ Some v → x ≡ Some (home (row_key v))
home_mark f k None y v e = absurd (none≢some e)
home_mark f k (Some c) None v e = absurd (none≢some e)
home_mark f k (Some c) (Some n) v e = let h : v ≡ holds_mark (f c n) = cc in ap Some (sym (k c n)) ∙ ap (λ z. Some (home (row_key z))) (sym h)

home_outgoing : (f : IdentifierValue → NameValue) → ((c : IdentifierValue) → (f c).sender ≡ c) → (load : LoadValue) (x y : Option IdentifierValue) (v : RowValue) → option_map holds_outgoing (both (λ n t. record { name = n; row = record { target = t; load = load } }) (option_map f x) y) ≡ Some v → x ≡ Some (home (row_key v))
home_outgoing f k load None y v e = absurd (none≢some e)
home_outgoing f k load (Some c) None v e = absurd (none≢some e)
home_outgoing f k load (Some c) (Some t) v e = let h : v ≡ holds_outgoing (record { name = f c; row = record { target = t; load = load } }) = cc in ap Some (sym (k c)) ∙ ap (λ z. Some (home (row_key z))) (sym h)

home_of_kind : (b : ℕ) (s : List ℕ) (v : RowValue) → row_of_kind b s ≡ Some v → chain_in s ≡ Some (home (row_key v))
home_of_kind b s v =
    let x = chain_in s in
    let target = identifier_in (field target_at identifier_len s) in
    home_cases v x (eqb b record_byte) _ _ (home_record (record_fields s) x v)
    (home_cases v x (eqb b plus_byte) _ _ (home_mark (mark_fields plus s) (λ t n. refl) x (name_at message_at s) v)
    (home_cases v x (eqb b minus_byte) _ _ (home_mark (mark_fields minus s) (λ t n. refl) x (name_at message_at s) v)
    (home_cases v x (eqb b opening_byte) _ _ (home_outgoing _ (λ c. refl) (opening_in s) x target v)
    (home_cases v x (eqb b message_byte) _ _ (home_outgoing _ (λ c. refl) (sent_in s) x target v)
    (λ e. absurd (none≢some e))))))

pub home_is : (s : List ℕ) → Exact s → home_in s ≡ option_map (λ v. home (row_key v)) (row_in s)
unfolding home_in
home_is s e = at (row_in s) refl
  where
    at : (o : Option RowValue) → row_in s ≡ o → home_in s ≡ option_map (λ v. home (row_key v)) o
    at None h = ap home_in (zeros_are s e h)
    at (Some v) h =
        let l = row_long s v h in
        cond-true _ (chain_in s) None (and_from _ _ (eq-eqb (length s) slot_len l) (not_from_false _ (ne_eqb (kind_of s) free_byte (row_kind s v h))))
        ∙ home_of_kind (kind_of s) s v (sym (of_kind s (kind_of s) l refl) ∙ h)
