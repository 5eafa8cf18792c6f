-- The ledger over its whole history, where it takes every block.
use Rattle.std.proofs.Common.{◌≡◌, ℕ, ◌+◌, ◌<◌, ◌⊎◌, List, [], ◌∷◌, ℤ, Some, None, Decides, Option, sym, refl, ap, ◌∙◌, subst, inl, inr, ⊎_elim, not-suc-le-zero, arith}
use mathlib.Core.List.{cons≢nil, head-eq_of_cons-eq, tail-eq_of_cons-eq}
use native.Mathlib.Decide.{ℕ_discrete}
use Rattle.std.proofs.lemmas.Bool.Decides.{Decides-and, Decides-like}
use Rattle.format.specs.Values.{IdentifierValue, NameValue, MessageValue, BlockValue}
use Rattle.format.proofs.Same.{identifier_decides, message_decides}
use Rattle.books.specs.Values.{ChainValue, LoadValue, opening, sent, EntryValue}
use Rattle.protocol.specs.Reads.{block_digest}
use Rattle.protocol.specs.Execution.{advanced, received}
use Rattle.protocol.specs.Calls.{fresh, message_of}
use Rattle.agreement.specs.Lists.{In, Once}
use Rattle.agreement.specs.Ledger.{Parcel, parcel, same_parcel, later, without, and_then, withdrawn, packed, parcels, sent_by, sends, or_same, TakesAll}
use Rattle.agreement.specs.Runs.{Setting}
use Rattle.agreement.specs.Agreement.{ledger_of}
use Rattle.agreement.proofs.Basics.{some_is, none_some, in_left, in_right, decided, same_cond, other_cond}
use Rattle.agreement.proofs.Growth.{Part, part_either, Grown, grown_trans, Past, Rooted, root_at, Took, took, own, grows, After, new, stepped, kept, afterwards, rooted_after}

-- ---- the pool

pub parcel_decides : (x y : Parcel) → Decides (same_parcel x y) (x ≡ y)
parcel_decides x y =
    Decides-like (same_parcel x y)
    (λ p i. record { target = p.0 i; message = p.1 i })
    (λ e. (ap (λ (p : Parcel). p.target) e, ap (λ (p : Parcel). p.message) e))
    (Decides-and _ _ (identifier_decides x.target y.target) (message_decides x.message y.message))

pub without_found : (x : Parcel) (ps : List Parcel) → In x ps → (rest : List Parcel) × (without x ps ≡ Some rest)
without_found x [] i = absurd i
without_found x (p ∷ ps) i = go (decided parcel_decides p x) i (λ j. without_found x ps j)
  where
    go : Dec (p ≡ x) → In x (p ∷ ps) → (In x ps → (rest : List Parcel) × (without x ps ≡ Some rest)) → (rest : List Parcel) × (without x (p ∷ ps) ≡ Some rest)
    go (yes e) j ih = (ps, same_cond (parcel_decides p x) e (Some ps) (later p (without x ps)))
    go (no n) (inl e) ih = absurd (n (sym e))
    go (no n) (inr j) ih = (p ∷ (ih j).0, other_cond (parcel_decides p x) n (Some ps) (later p (without x ps)) ∙ ap (later p) (ih j).1)

pub without_keeps : (x : Parcel) (ps rest : List Parcel) → without x ps ≡ Some rest → (y : Parcel) → In y ps → ¬ (y ≡ x) → In y rest
without_keeps x [] rest e y i n = absurd i
without_keeps x (p ∷ ps) rest e y i n = go (decided parcel_decides p x) i (without x ps) refl (λ r f j. without_keeps x ps r f y j n)
  where
    go : Dec (p ≡ x) → In y (p ∷ ps) → (o : Option (List Parcel)) → without x ps ≡ o → ((r : List Parcel) → without x ps ≡ Some r → In y ps → In y r) → In y rest
    go (yes q) (inl j) o f ih = absurd (n (j ∙ q))
    go (yes q) (inr j) o f ih =
        let g : ps ≡ rest = some_is (sym (same_cond (parcel_decides p x) q (Some ps) (later p (without x ps))) ∙ e) in
        subst (λ l. In y l) g j
    go (no q) j None f ih = absurd (none_some (sym (other_cond (parcel_decides p x) q (Some ps) (later p (without x ps)) ∙ ap (later p) f) ∙ e))
    go (no q) j (Some r) f ih =
        let g : p ∷ r ≡ rest = some_is (sym (other_cond (parcel_decides p x) q (Some ps) (later p (without x ps)) ∙ ap (later p) f) ∙ e) in
        let k : In y (p ∷ r) = ⊎_elim (λ a. inl a) (λ a. inr (ih r f a)) j in
        subst (λ l. In y l) g k

message_differs : (c : IdentifierValue) (m m' : MessageValue) → parcel c m ≡ parcel c m' → m ≡ m'
message_differs c m m' e = ap (λ (p : Parcel). p.message) e

pub withdrawn_found : (c : IdentifierValue) (ms : List MessageValue) (pool : List Parcel) → Once ms → ((m : MessageValue) → In m ms → In (parcel c m) pool)
    → (rest : List Parcel) × (withdrawn c ms pool ≡ Some rest)
withdrawn_found c [] pool o h = (pool, refl)
withdrawn_found c (m ∷ ms) pool o h =
    let f = without_found (parcel c m) pool (h m (inl refl)) in
    let r = withdrawn_found c ms f.0 o.1 (λ m' i. without_keeps (parcel c m) pool f.0 f.1 (parcel c m') (h m' (inr i))
    (λ e. o.0 (subst (λ z. In z ms) (message_differs c m' m e) i))) in
    (r.0, ap (λ p. and_then p (withdrawn c ms)) f.1 ∙ r.1)

pub withdrawn_keeps : (c : IdentifierValue) (ms : List MessageValue) (pool rest : List Parcel) → withdrawn c ms pool ≡ Some rest
    → (y : Parcel) → In y pool → ((m : MessageValue) → In m ms → ¬ (y ≡ parcel c m)) → In y rest
withdrawn_keeps c [] pool rest e y i h = subst (λ l. In y l) (some_is e) i
withdrawn_keeps c (m ∷ ms) pool rest e y i h =
    go (without (parcel c m) pool) refl e (λ r f g. withdrawn_keeps c ms r rest g y (without_keeps (parcel c m) pool r f y i (h m (inl refl))) (λ m' j. h m' (inr j)))
  where
    go : (o : Option (List Parcel)) → without (parcel c m) pool ≡ o → and_then o (withdrawn c ms) ≡ Some rest
        → ((r : List Parcel) → without (parcel c m) pool ≡ Some r → withdrawn c ms r ≡ Some rest → In y rest) → In y rest
    go None f g k = absurd (none_some g)
    go (Some r) f g k = k r f g

pub parcel_there : (rs : List EntryValue) (r : EntryValue) (code : ℕ) (v : ℤ) → In r rs → r.row.load ≡ sent code v
    → In (parcel r.row.target (message_of r.name code v)) (parcels rs)
parcel_there [] r code v i e = absurd i
parcel_there (x ∷ rs) r code v (inl p) e =
    rw p (first x.name x.row.target x.row.load (sym (ap (λ (z : EntryValue). z.row.load) p) ∙ e))
  where
    first : (n : NameValue) (t : IdentifierValue) (l : LoadValue) → l ≡ sent code v → In (parcel t (message_of n code v)) (packed n t l (parcels rs))
    first n t l q = let P : LoadValue → Type 0 = λ z. In (parcel t (message_of n code v)) (packed n t z (parcels rs)) in subst P (sym q) (inl refl)
parcel_there (x ∷ rs) r code v (inr i) e = next x.name x.row.target x.row.load (parcel_there rs r code v i e)
  where
    next : (n : NameValue) (t : IdentifierValue) (l : LoadValue) → In (parcel r.row.target (message_of r.name code v)) (parcels rs)
        → In (parcel r.row.target (message_of r.name code v)) (packed n t l (parcels rs))
    next n t (opening k) j = j
    next n t (sent a b) j = inr j

-- ---- the history

module _ (w : Setting) where
  abbrev pub Takes : List BlockValue → Type 0
  Takes bs = TakesAll w.committee w.application w.roots bs

  -- the ledger's record of chain c was x, at some time
  abbrev pub At : List BlockValue → IdentifierValue → ChainValue → Type 0
  At bs c x = (e : List BlockValue) × Part e bs × ((ledger_of w e).chains c ≡ Some x)

  -- message m was sent to chain c
  abbrev pub SentIn : List BlockValue → IdentifierValue → MessageValue → Type 0
  SentIn bs c m = (s : BlockValue) × ((e : List BlockValue) × (Part (s ∷ e) bs × In (parcel c m) (sends w.committee w.application (ledger_of w e) s)))

  pub step : (b : BlockValue) (bs : List BlockValue) → Takes (b ∷ bs) → Took w.committee w.application (ledger_of w bs) b (ledger_of w (b ∷ bs))
  step b bs t =
      took w.committee w.application (ledger_of w bs) b (ledger_of w (b ∷ bs))
      (t.0.1 ∙ ap Some (sym (ap (or_same (ledger_of w bs)) t.0.1)))

  pub rooted_all : (bs : List BlockValue) → Takes bs → Rooted (ledger_of w bs)
  rooted_all [] t c x e = ⊎_elim (λ p. absurd (none_some p)) (λ p. inl (p.0, p.1.1.0)) (root_at w.application 0 w.roots (λ d. None) c x e)
  rooted_all (b ∷ bs) t c x e =
      rooted_after w.committee w.application (ledger_of w bs) b (ledger_of w (b ∷ bs)) (step b bs t) (rooted_all bs t.1) c x e

  pub takes_part : (e bs : List BlockValue) → Part e bs → Takes bs → Takes e
  takes_part e [] p t = subst Takes (sym p) t
  takes_part e (b ∷ bs) (inl p) t = subst Takes (sym p) t
  takes_part e (b ∷ bs) (inr p) t = takes_part e bs p t.1

  pub grown_part : (e bs : List BlockValue) → Part e bs → Takes bs → (c : IdentifierValue) (x : ChainValue) → (ledger_of w e).chains c ≡ Some x
      → (y : ChainValue) × ((ledger_of w bs).chains c ≡ Some y) × Grown x y
  grown_part e [] p t c x h = (x, ap (λ l. (ledger_of w l).chains c) (sym p) ∙ h, inl refl)
  grown_part e (b ∷ bs) (inl p) t c x h = (x, ap (λ l. (ledger_of w l).chains c) (sym p) ∙ h, inl refl)
  grown_part e (b ∷ bs) (inr p) t c x h =
      let r = grown_part e bs p t.1 c x h in
      let g = grows w.committee w.application (ledger_of w bs) b (ledger_of w (b ∷ bs)) (step b bs t) (rooted_all bs t.1) c r.0 r.1 in
      (g.0, g.1, grown_trans x r.0 g.0 r.2 g.2)

  same_grown : (x y : ChainValue) → Grown x y → x.next ≡ y.next → x ≡ y
  same_grown x y (inl p) e = p
  same_grown x y (inr l) e = absurd (impossible l e)
    where
      impossible : x.next < y.next → x.next ≡ y.next → ⊥
      impossible l' e' = omega arith

  -- at one next height the ledger had one record of a chain
  pub at_one : (bs : List BlockValue) → Takes bs → (c : IdentifierValue) (x y : ChainValue) → At bs c x → At bs c y → x.next ≡ y.next → x ≡ y
  at_one bs t c x y a a' e = go (part_either a.0 a'.0 bs a.1 a'.1)
    where
      go : Part a.0 a'.0 ⊎ Part a'.0 a.0 → x ≡ y
      go (inl p) =
          let g = grown_part a.0 a'.0 p (takes_part a'.0 bs a'.1 t) c x a.2 in
          same_grown x y (subst (Grown x) (some_is (sym g.1 ∙ a'.2)) g.2) e
      go (inr p) =
          let g = grown_part a'.0 a.0 p (takes_part a.0 bs a.1 t) c y a'.2 in
          sym (same_grown y x (subst (Grown y) (some_is (sym g.1 ∙ a.2)) g.2) (sym e))

  -- the ledger's record now, where it was x once
  pub at_now : (bs : List BlockValue) → Takes bs → (c : IdentifierValue) (x : ChainValue) → At bs c x → (y : ChainValue) × ((ledger_of w bs).chains c ≡ Some y) × Grown x y
  at_now bs t c x a = grown_part a.0 bs a.1 t c x a.2

  pub at_more : (b : BlockValue) (bs : List BlockValue) (c : IdentifierValue) (x : ChainValue) → At bs c x → At (b ∷ bs) c x
  at_more b bs c x a = (a.0, inr a.1, a.2)

  pub sent_more : (b : BlockValue) (bs : List BlockValue) (c : IdentifierValue) (m : MessageValue) → SentIn bs c m → SentIn (b ∷ bs) c m
  sent_more b bs c m s = (s.0, (s.1.0, (inr s.1.1.0, s.1.1.1)))

  module _ (b : BlockValue) (bs : List BlockValue) (t : Takes (b ∷ bs)) where
    abbrev took_it : Took w.committee w.application (ledger_of w bs) b (ledger_of w (b ∷ bs))
    took_it = step b bs t

    past_more : (c : IdentifierValue) (h : ℕ) → Past (ledger_of w bs) c h → Past (ledger_of w (b ∷ bs)) c h
    past_more c h p =
        let g = grows w.committee w.application (ledger_of w bs) b (ledger_of w (b ∷ bs)) took_it (rooted_all bs t.1) c p.0 p.1 in
        (g.0, g.1, further g.0 g.2)
      where
        further : (y : ChainValue) → Grown p.0 y → h < y.next
        further y (inl e) = subst (λ (z : ChainValue). h < z.next) e p.2
        further y (inr l) = let k : h < p.0.next = p.2 in omega arith

    past_own : Past (ledger_of w (b ∷ bs)) b.chain b.height
    past_own =
        let k : b.height ≡ took_it.chain.next = took_it.height in (
          advanced (block_digest b) took_it.chain took_it.ran,
          own w.committee w.application (ledger_of w bs) b (ledger_of w (b ∷ bs)) took_it (rooted_all bs t.1),
          omega arith,
        )

  -- a block of the history stands below its chain's next height
  pub in_past : (bs : List BlockValue) → Takes bs → (b : BlockValue) → In b bs → Past (ledger_of w bs) b.chain b.height
  in_past [] t b i = absurd i
  in_past (x ∷ bs) t b (inl e) = let P : BlockValue → Type 0 = λ z. Past (ledger_of w (x ∷ bs)) z.chain z.height in subst P (sym e) (past_own x bs t)
  in_past (x ∷ bs) t b (inr i) = past_more x bs t b.chain b.height (in_past bs t.1 b i)

  -- and each height below it has a block
  pub past_in : (bs : List BlockValue) → Takes bs → (c : IdentifierValue) (h : ℕ) → Past (ledger_of w bs) c h → (b : BlockValue) × In b bs × (b.chain ≡ c) × (b.height ≡ h)
  past_in [] t c h p =
      absurd (⊎_elim (λ q. none_some q) (λ q. low q.1.0 q.1.1.1) (root_at w.application 0 w.roots (λ d. None) c p.0 p.1))
    where
      low : (o : ℕ) → p.0 ≡ fresh w.application o → ⊥
      low o e = not-suc-le-zero (subst (λ (z : ChainValue). h < z.next) e p.2)
  past_in (x ∷ bs) t c h p =
      go (afterwards w.committee w.application (ledger_of w bs) x (ledger_of w (x ∷ bs)) T (rooted_all bs t.1) c p.0 p.1)
      (λ y e l. past_in bs t.1 c h (y, e, l))
    where
      T : Took w.committee w.application (ledger_of w bs) x (ledger_of w (x ∷ bs))
      T = step x bs t

      Found : Type 0
      Found = (b : BlockValue) × In b (x ∷ bs) × (b.chain ≡ c) × (b.height ≡ h)

      go : After w.committee w.application (ledger_of w bs) x (ledger_of w (x ∷ bs)) T (rooted_all bs t.1) c p.0
          → ((y : ChainValue) → (ledger_of w bs).chains c ≡ Some y → h < y.next → (b : BlockValue) × In b bs × (b.chain ≡ c) × (b.height ≡ h)) → Found
      go (new q key e) ih = absurd (not-suc-le-zero (subst (λ (z : ChainValue). h < z.next) e p.2))
      go (stepped q e) ih = last (ℕ_discrete x.height h)
        where
          last : Dec (x.height ≡ h) → Found
          last (yes f) = (x, inl refl, sym q, f)
          last (no n) =
              let k : x.height ≡ T.chain.next = T.height in
              let l : h < T.chain.next + 1 = subst (λ (z : ChainValue). h < z.next) e p.2 in
              let r = ih T.chain (ap (ledger_of w bs).chains q ∙ T.there) (omega arith) in
              (r.0, inr r.1, r.2, r.3)
      go (kept n e) ih = let r = ih p.0 e p.2 in (r.0, inr r.1, r.2, r.3)

  -- a message that was sent and that no block of its target has received is in the pool
  pub in_pool : (bs : List BlockValue) → Takes bs → (c : IdentifierValue) (m : MessageValue) → SentIn bs c m
      → ((b : BlockValue) → In b bs → b.chain ≡ c → ¬ In m (received b.commands)) → In (parcel c m) (ledger_of w bs).pool
  in_pool [] t c m s n = absurd (cons≢nil s.1.1.0)
  in_pool (b ∷ bs) t c m s n = go s.1.1.0 (λ p. in_pool bs t.1 c m (s.0, (s.1.0, (p, s.1.1.1))) (λ x i. n x (inr i)))
    where
      T : Took w.committee w.application (ledger_of w bs) b (ledger_of w (b ∷ bs))
      T = step b bs t

      go : Part (s.0 ∷ s.1.0) (b ∷ bs) → (Part (s.0 ∷ s.1.0) bs → In (parcel c m) (ledger_of w bs).pool) → In (parcel c m) (ledger_of w (b ∷ bs)).pool
      go (inl e) ih =
          let P : List BlockValue → BlockValue → Type 0 = λ l x. In (parcel c m) (sends w.committee w.application (ledger_of w l) x) in
          let i : In (parcel c m) (sends w.committee w.application (ledger_of w bs) b) =
          subst (λ x. P bs x) (head-eq_of_cons-eq e) (subst (λ l. P l s.0) (tail-eq_of_cons-eq e) s.1.1.1) in
          let j : In (parcel c m) (parcels T.ran.sent) = subst (λ x. In (parcel c m) (sent_by x)) T.admits i in
          subst (λ l. In (parcel c m) l) (sym T.pool_is) (in_right (parcel c m) T.rest (parcels T.ran.sent) j)
      go (inr p) ih =
          subst (λ l. In (parcel c m) l) (sym T.pool_is)
          (in_left (parcel c m) T.rest (parcels T.ran.sent)
          (withdrawn_keeps b.chain (received b.commands) (ledger_of w bs).pool T.rest T.withdraws (parcel c m) (ih p)
          (λ m' i e. n b (inl refl) (sym (ap (λ (q : Parcel). q.target) e)) (subst (λ z. In z (received b.commands)) (sym (ap (λ (q : Parcel). q.message) e)) i))))
