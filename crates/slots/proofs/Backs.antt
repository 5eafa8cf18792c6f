-- A row's bytes read as that row.
use Rattle.std.proofs.Common.{◌≡◌, ℕ, ◌+◌, ◌-◌, ◌≤◌, cond, eqb, List, [], ◌∷◌, ◌++◌, length, drop, replicate, Some, None, Option, refl, ap, ◌∙◌, append_assoc, arith, length-append}
use Rattle.std.specs.Option.{option_map}
use Rattle.format.specs.Layout.{height_len, digest_len, key_len, code_len, value_len, identifier_len, name_len, receive_len}
use Rattle.format.specs.Numbers.{to_bytes, signed_bytes}
use Rattle.format.specs.Bytes.{identifier_bytes, name_bytes, message_bytes}
use Rattle.format.specs.Values.{IdentifierValue, DigestValue}
use Rattle.format.proofs.Lengths.{length_identifier, length_name, length_message, length_signed}
use Rattle.format.proofs.Numbers.{length_of_bytes}
use Rattle.books.specs.Values.{RecordValue, SignValue, plus, minus, MarkValue, LoadValue, opening, sent, EntryValue}
use Rattle.slots.specs.Layout.{kind_len, slot_len, vote_byte_len, record_byte, voted_byte, chain_at, owner_at, next_at, last_at, a_at, b_at, vote_at, voted_at, message_at, mark_code_at, mark_value_at, target_at, load_at, sent_value_at}
use Rattle.slots.specs.Rows.{holds_record, holds_mark, holds_outgoing}
use Rattle.slots.specs.Bytes.{vote_bytes, sign_byte, load_byte, load_bytes, record_bytes, mark_bytes, outgoing_bytes, filled}
use Rattle.slots.specs.Reading.{field, both, vote_in, record_fields, mark_in, opening_in, sent_in, outgoing_in, row_of_kind, kind_of, row_in}
use Rattle.slots.specs.RoundTrip.{VoteFits, RecordFits, MarkFits, LoadFits, EntryFits, RowsReadBack}
use Rattle.slots.proofs.Filled.{length_filled}
use Rattle.slots.proofs.Fields.{field_is, behind, byte_is, number_is, signed_is, identifier_is, name_is, of_kind}

-- ---- a record
length_vote : (v : Option DigestValue) → VoteFits v → length (vote_bytes v) ≡ vote_byte_len + digest_len
length_vote None k = refl
length_vote (Some d) k = omega (arith, k)

pub length_record : (c : IdentifierValue) (r : RecordValue) → RecordFits c r → length (record_bytes c r) ≡ slot_len
unfolding record_bytes
length_record c r k =
    let i = length_identifier c in
    let v = length_vote r.vote k.vote in
    let d = k.last in
    simp length-append (omega arith)

vote_is : (s : List ℕ) (v : Option DigestValue) (z : List ℕ) → drop vote_at s ≡ vote_bytes v ++ z → VoteFits v → vote_in s ≡ v
vote_is s None z lies k = ap (λ b. cond (eqb b voted_byte) (Some (field voted_at digest_len s)) None) (byte_is s vote_at 0 _ lies)
vote_is s (Some d) z lies k =
    ap (λ b. cond (eqb b voted_byte) (Some (field voted_at digest_len s)) None) (byte_is s vote_at voted_byte _ lies)
    ∙ ap Some (field_is s voted_at d z (behind s vote_at (voted_byte ∷ []) (d ++ z) lies vote_byte_len refl) digest_len k)

fields_are : (s : List ℕ) (c : IdentifierValue) (r : RecordValue) (z : List ℕ) → RecordFits c r
    → drop owner_at s ≡ to_bytes key_len r.chain.owner ++ (to_bytes height_len r.chain.next ++ (r.chain.digest ++ (signed_bytes r.chain.a ++ (signed_bytes r.chain.b ++ (vote_bytes r.vote ++ z)))))
    → record_fields s ≡ r
unfolding record_fields
fields_are s c r z k lies =
    let p₂ = behind s owner_at (to_bytes key_len r.chain.owner) _ lies key_len (length_of_bytes key_len r.chain.owner) in
    let p₃ = behind s next_at (to_bytes height_len r.chain.next) _ p₂ height_len (length_of_bytes height_len r.chain.next) in
    let p₄ = behind s last_at r.chain.digest _ p₃ digest_len k.last in
    let p₅ = behind s a_at (signed_bytes r.chain.a) _ p₄ value_len (length_signed r.chain.a) in
    let p₆ = behind s b_at (signed_bytes r.chain.b) _ p₅ value_len (length_signed r.chain.b) in
    let owner = number_is s owner_at key_len r.chain.owner _ lies k.owner in
    let height = number_is s next_at height_len r.chain.next _ p₂ k.next in
    let last = field_is s last_at r.chain.digest _ p₃ digest_len k.last in
    let a = signed_is s a_at r.chain.a _ p₄ k.a in
    let b = signed_is s b_at r.chain.b _ p₅ k.b in
    let vote = vote_is s r.vote z p₆ k.vote in
    λ i. record { chain = record { owner = owner i; next = height i; digest = last i; a = a i; b = b i }; vote = vote i }

-- the zeros behind fields
abbrev pub zeros : List ℕ → List ℕ
zeros bs = replicate (slot_len - length bs) 0

pub record_lies : (c : IdentifierValue) (r : RecordValue) → drop chain_at (filled (record_bytes c r))
    ≡ identifier_bytes c ++ (to_bytes key_len r.chain.owner ++ (to_bytes height_len r.chain.next ++ (r.chain.digest ++ (signed_bytes r.chain.a ++ (signed_bytes r.chain.b ++ (vote_bytes r.vote ++ zeros (record_bytes c r)))))))
unfolding record_bytes
record_lies c r = simp append_assoc

pub kind_of_record : (c : IdentifierValue) (r : RecordValue) → kind_of (filled (record_bytes c r)) ≡ record_byte
unfolding record_bytes
kind_of_record c r = refl

pub record_back : (c : IdentifierValue) (r : RecordValue) → RecordFits c r → row_in (filled (record_bytes c r)) ≡ Some (holds_record c r)
unfolding record_bytes
record_back c r k =
    let s = filled (record_bytes c r) in
    let lies = record_lies c r in
    of_kind s record_byte (length_filled (record_bytes c r) (omega (arith, length_record c r k))) refl
    ∙ ap (option_map (λ d. holds_record d (record_fields s))) (identifier_is s chain_at c _ lies k.identifier)
    ∙ ap (λ f. Some (holds_record c f)) (fields_are s c r (zeros (record_bytes c r)) k (behind s chain_at (identifier_bytes c) _ lies identifier_len (length_identifier c)))

-- ---- a mark
pub length_mark : (m : MarkValue) → length (mark_bytes m) ≡ kind_len + identifier_len + receive_len
unfolding mark_bytes
length_mark m =
    let i = length_identifier m.target in
    let n = length_message m.message in
    simp length-append (omega arith)

-- a slot that begins with the bytes of a mark
pub mark_is : (s : List ℕ) (m : MarkValue) (z : List ℕ) → MarkFits m → drop chain_at s ≡ identifier_bytes m.target ++ (message_bytes m.message ++ z) → mark_in m.sign s ≡ Some (holds_mark m)
unfolding message_bytes
mark_is s m z k lies =
    let x = m.message in
    let p = behind s chain_at (identifier_bytes m.target) _ lies identifier_len (length_identifier m.target) in
    let q : drop message_at s ≡ name_bytes x.name ++ (x.code ∷ (signed_bytes x.value ++ z)) = p ∙ append_assoc (name_bytes x.name) (x.code ∷ signed_bytes x.value) z in
    let r = behind s message_at (name_bytes x.name) _ q name_len (length_name x.name) in
    let t = behind s mark_code_at (x.code ∷ []) _ r code_len refl in
    let target = identifier_is s chain_at m.target _ lies k.target in
    let name = name_is s message_at x.name _ q k.message.name in
    let code = byte_is s mark_code_at x.code _ r in
    let value = signed_is s mark_value_at x.value z t k.message.value in
    (λ i. both (λ t n. holds_mark (record { target = t; message = record { name = n; code = code i; value = value i }; sign = m.sign })) (target i) (name i))

pub mark_lies : (m : MarkValue) → drop chain_at (filled (mark_bytes m)) ≡ identifier_bytes m.target ++ (message_bytes m.message ++ zeros (mark_bytes m))
unfolding mark_bytes
mark_lies m = append_assoc (identifier_bytes m.target) (message_bytes m.message) (zeros (mark_bytes m))

pub kind_of_mark : (m : MarkValue) → kind_of (filled (mark_bytes m)) ≡ sign_byte m.sign
unfolding mark_bytes
kind_of_mark m = refl

pub of_sign : (g : SignValue) (s : List ℕ) → row_of_kind (sign_byte g) s ≡ mark_in g s
of_sign plus s = refl
of_sign minus s = refl

pub mark_back : (m : MarkValue) → MarkFits m → row_in (filled (mark_bytes m)) ≡ Some (holds_mark m)
mark_back m k =
    let s = filled (mark_bytes m) in
    of_kind s (sign_byte m.sign) (length_filled (mark_bytes m) (omega (arith, length_mark m))) (kind_of_mark m)
    ∙ of_sign m.sign s ∙ mark_is s m (zeros (mark_bytes m)) k (mark_lies m)

-- ---- an outgoing row
length_load : (l : LoadValue) → length (load_bytes l) ≤ code_len + value_len
length_load (opening key) = omega arith
length_load (sent code value) = omega arith

pub length_outgoing : (e : EntryValue) → length (outgoing_bytes e) ≤ kind_len + name_len + identifier_len + (code_len + value_len)
unfolding outgoing_bytes
length_outgoing e =
    let n = length_name e.name in
    let i = length_identifier e.row.target in
    let l = length_load e.row.load in
    simp length-append (omega arith)

-- what a load reads as
load_in : LoadValue → List ℕ → LoadValue
load_in (opening key) s = opening_in s
load_in (sent code value) s = sent_in s

load_is : (s : List ℕ) (l : LoadValue) (z : List ℕ) → LoadFits l → drop load_at s ≡ load_bytes l ++ z → load_in l s ≡ l
unfolding load_in
load_is s (opening key) z k lies = ap opening (number_is s load_at key_len key z lies k)
load_is s (sent code value) z k lies =
    let t = behind s load_at (code ∷ []) _ lies code_len refl in
    λ i. sent (byte_is s load_at code _ lies i) (signed_is s sent_value_at value z t k i)

of_load : (l : LoadValue) (s : List ℕ) → row_of_kind (load_byte l) s ≡ outgoing_in (load_in l s) s
unfolding load_in
of_load (opening key) s = refl
of_load (sent code value) s = refl

pub outgoing_lies : (e : EntryValue) → drop chain_at (filled (outgoing_bytes e)) ≡ name_bytes e.name ++ (identifier_bytes e.row.target ++ (load_bytes e.row.load ++ zeros (outgoing_bytes e)))
unfolding outgoing_bytes
outgoing_lies e = simp append_assoc

pub kind_of_outgoing : (e : EntryValue) → kind_of (filled (outgoing_bytes e)) ≡ load_byte e.row.load
unfolding outgoing_bytes
kind_of_outgoing e = refl

pub outgoing_back : (e : EntryValue) → EntryFits e → row_in (filled (outgoing_bytes e)) ≡ Some (holds_outgoing e)
outgoing_back e k =
    let s = filled (outgoing_bytes e) in
    let l = e.row.load in
    let lies = outgoing_lies e in
    let p = behind s chain_at (name_bytes e.name) _ lies name_len (length_name e.name) in
    let q = behind s target_at (identifier_bytes e.row.target) _ p identifier_len (length_identifier e.row.target) in
    let name = name_is s chain_at e.name _ lies k.name in
    let target = identifier_is s target_at e.row.target _ p k.target in
    let load = load_is s l (zeros (outgoing_bytes e)) k.load q in
    of_kind s (load_byte l) (length_filled (outgoing_bytes e) (omega (arith, length_outgoing e))) (kind_of_outgoing e)
    ∙ of_load l s
    ∙ (λ i. option_map holds_outgoing (both (λ n t. record { name = n; row = record { target = t; load = load i } }) (name i) (target i)))

pub rows_read_back : RowsReadBack
rows_read_back (holds_record c r) k = (length_filled (record_bytes c r) (omega (arith, length_record c r k)), record_back c r k)
rows_read_back (holds_mark m) k = (length_filled (mark_bytes m) (omega (arith, length_mark m)), mark_back m k)
rows_read_back (holds_outgoing e) k = (length_filled (outgoing_bytes e) (omega (arith, length_outgoing e)), outgoing_back e k)
