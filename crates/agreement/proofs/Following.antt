-- How a member's rows follow the ledger's history, and that each operation of a call keeps this.
use Rattle.std.proofs.Common.{◌≡◌, ℕ, ◌+◌, ◌<◌, Bool, true, false, ◌⊎◌, List, ◌∷◌, map, ℤ, Some, None, Option, sym, refl, ap, ◌∙◌, subst, inl, inr, ⊎_elim, not-suc-le-zero, arith}
use native.Mathlib.Decide.{ℕ_discrete}
use Rattle.format.specs.Values.{IdentifierValue, NameValue, MessageValue, BlockValue}
use Rattle.format.specs.Same.{same_name}
use Rattle.format.proofs.Same.{identifier_decides, name_decides}
use Rattle.books.specs.Values.{ChainValue, RecordValue, plus, minus, MarkValue, marking, LoadValue, opening, sent, OutgoingValue, EntryValue}
use Rattle.books.specs.SameLemmas.{mark_decides}
use Rattle.books.specs.Books.{Rows, put_record, put_mark, remove_mark, remove_outgoing, updated, apply, apply_all}
use Rattle.protocol.specs.Reads.{block_digest}
use Rattle.protocol.specs.Execution.{Ran, advanced, received}
use Rattle.protocol.specs.Calls.{fresh, with_vote, message_of, receipts, put_entry}
use Rattle.agreement.specs.Lists.{In}
use Rattle.agreement.specs.Blocks.{numbers_discrete}
use Rattle.agreement.specs.Ledger.{parcel, sent_by}
use Rattle.agreement.specs.Runs.{Setting}
use Rattle.agreement.specs.Agreement.{ledger_of}
use Rattle.agreement.proofs.Basics.{true_false, some_is, some_none, none_some, decided, put_same, put_other, put_cases}
use Rattle.agreement.proofs.SentRows.{SentRows, sent_rows}
use Rattle.agreement.proofs.Growth.{Part, Grown, Past, Took, own, opens_child}
use Rattle.agreement.proofs.History.{Takes, At, SentIn, step, rooted_all, takes_part, at_now, at_more, sent_more, parcel_there}
use Rattle.agreement.proofs.Marks.{plus_minus, Receipt, receipt, Posted, posted}

-- height h of chain c is below the member's next height
abbrev pub Below : Rows → IdentifierValue → ℕ → Type 0
Below R c h = (r : RecordValue) × (R.record_at c ≡ Some r) × (h < r.chain.next)

-- the member has accepted the message's block, and the row is no longer outgoing
abbrev pub Gone : Rows → MessageValue → Type 0
Gone R m = (R.outgoing_at m.name ≡ None) × Below R m.name.sender m.name.height

abbrev pub Unreceived : List BlockValue → Rows → IdentifierValue → MessageValue → Type 0
Unreceived bs R c m = (b : BlockValue) → In b bs → b.chain ≡ c → Below R c b.height → ¬ In m (received b.commands)

module _ (w : Setting) where
  abbrev pub Known : List BlockValue → IdentifierValue → ChainValue → Type 0
  Known bs c x = (x ≡ fresh w.application 0) ⊎ At w bs c x

  abbrev pub Carried : List BlockValue → NameValue → IdentifierValue → LoadValue → Type 0
  Carried bs n t (opening k) = At w bs t (fresh w.application k)
  Carried bs n t (sent code v) = SentIn w bs t (message_of n code v)

  -- A member's rows follow the history: each record was the ledger's, or is new and without an owner; a plus mark is of a message that was sent,
  -- has arrived, and that no block of the chain below the member's next height received; a message that such a block received has a minus mark,
  -- or has arrived; an outgoing row was sent by a block below the member's next height.
  pub record Follows (bs : List BlockValue) (R : Rows) : Type 0 where
    pub known : (c : IdentifierValue) (r : RecordValue) → R.record_at c ≡ Some r → Known bs c r.chain
    pub plus_is : (c : IdentifierValue) (m : MessageValue) → R.marked (marking c m plus) ≡ true → SentIn w bs c m × Unreceived bs R c m × Gone R m
    pub minus_is : (c : IdentifierValue) (m : MessageValue) (b : BlockValue) → In b bs → b.chain ≡ c → Below R c b.height → In m (received b.commands)
        → (R.marked (marking c m minus) ≡ true) ⊎ Gone R m
    pub out_is : (n : NameValue) (o : OutgoingValue) → R.outgoing_at n ≡ Some o → Below R n.sender n.height × Carried bs n o.target o.load

  carried_more : (b : BlockValue) (bs : List BlockValue) (n : NameValue) (t : IdentifierValue) (l : LoadValue) → Carried bs n t l → Carried (b ∷ bs) n t l
  carried_more b bs n t (opening k) h = at_more w b bs t (fresh w.application k) h
  carried_more b bs n t (sent code v) h = sent_more w b bs t (message_of n code v) h

  -- a height below a member's is below the ledger's
  pub below_past : (bs : List BlockValue) (R : Rows) → Takes w bs → Follows bs R → (c : IdentifierValue) (h : ℕ) → Below R c h → Past (ledger_of w bs) c h
  below_past bs R t f c h p = ⊎_elim low high (f.known c p.0 p.1)
    where
      low : p.0.chain ≡ fresh w.application 0 → Past (ledger_of w bs) c h
      low e = absurd (not-suc-le-zero (subst (λ (z : ChainValue). h < z.next) e p.2))

      high : At w bs c p.0.chain → Past (ledger_of w bs) c h
      high a = (g.0, g.1, further g.2)
        where
          g : (y : ChainValue) × ((ledger_of w bs).chains c ≡ Some y) × Grown p.0.chain y
          g = at_now w bs t c p.0.chain a

          further : Grown p.0.chain g.0 → h < g.0.next
          further (inl e) = subst (λ (z : ChainValue). h < z.next) e p.2
          further (inr l) = let k : h < p.0.chain.next = p.2 in omega arith

  -- a block that the ledger takes now is not below the next height of any member
  pub not_below : (b : BlockValue) (bs : List BlockValue) (R : Rows) → Takes w (b ∷ bs) → Follows bs R → Below R b.chain b.height → ⊥
  not_below b bs R t f p =
      let T = step w b bs t in
      let q = below_past bs R t.1 f b.chain b.height p in
      let same : q.0 ≡ T.chain = some_is (sym q.1 ∙ T.there) in
      let n : q.0.next ≡ T.chain.next = ap (λ (z : ChainValue). z.next) same in
      let k : b.height ≡ T.chain.next = T.height in
      let l : b.height < q.0.next = q.2 in
      omega arith

  -- one more block of the history, accepted elsewhere
  pub history_more : (b : BlockValue) (bs : List BlockValue) (R : Rows) → Takes w (b ∷ bs) → Follows bs R → Follows (b ∷ bs) R
  history_more b bs R t f =
      record {
        known = λ c r e. ⊎_elim (λ p. inl p) (λ a. inr (at_more w b bs c r.chain a)) (f.known c r e);
        plus_is = λ c m e. let p = f.plus_is c m e in
            (sent_more w b bs c m p.0, (λ x i q l. ⊎_elim (λ u. absurd (is_new c x u q l)) (λ j. p.1 x j q l) i), p.2);
        minus_is = λ c m x i q l r. ⊎_elim (λ u. absurd (is_new c x u q l)) (λ j. f.minus_is c m x j q l r) i;
        out_is = λ n o e. let p = f.out_is n o e in (p.0, carried_more b bs n o.target o.load p.1);
      }
    where
      is_new : (c : IdentifierValue) (x : BlockValue) → x ≡ b → x.chain ≡ c → Below R c x.height → ⊥
      is_new c x u q l =
          let P : BlockValue → Type 0 = λ z. Below R z.chain z.height in
          not_below b bs R t f (subst P u (subst (λ d. Below R d x.height) (sym q) l))

  -- ---- A record put without a change of height

  abbrev pub SameHeight : Option RecordValue → RecordValue → Type 0
  SameHeight None r = r.chain.next ≡ 0
  SameHeight (Some x) r = r.chain.next ≡ x.chain.next

  module _ (R : Rows) (c : IdentifierValue) (r : RecordValue) (same : SameHeight (R.record_at c) r) where
    abbrev R1 : Rows
    R1 = apply (put_record c r) R

    same_of : (o : Option RecordValue) → R.record_at c ≡ o → SameHeight o r
    same_of o e = subst (λ x. SameHeight x r) e same

    pub below_to : (d : IdentifierValue) (h : ℕ) → Below R d h → Below R1 d h
    below_to d h p = go (numbers_discrete d c)
      where
        go : Dec (d ≡ c) → Below R1 d h
        go (no n) = (p.0, put_other identifier_decides c (Some r) R.record_at d n ∙ p.1, p.2)
        go (yes e) =
            let s : r.chain.next ≡ p.0.chain.next = same_of (Some p.0) (ap R.record_at (sym e) ∙ p.1) in
            let l : h < p.0.chain.next = p.2 in
            (r, put_same identifier_decides c (Some r) R.record_at d e, omega arith)

    pub below_from : (d : IdentifierValue) (h : ℕ) → Below R1 d h → Below R d h
    below_from d h p = ⊎_elim (λ q. go (R.record_at c) refl q) (λ q. (p.0, q.1, p.2)) (put_cases identifier_decides c (Some r) R.record_at d (Some p.0) p.1)
      where
        go : (o : Option RecordValue) → R.record_at c ≡ o → (d ≡ c) × (Some r ≡ Some p.0) → Below R d h
        go None e q =
            absurd (not-suc-le-zero (subst (λ n. h < n) (ap (λ (z : RecordValue). z.chain.next) (sym (some_is q.1)) ∙ same_of None e) p.2))
        go (Some x) e q =
            let s : r.chain.next ≡ x.chain.next = same_of (Some x) e in
            let u : r.chain.next ≡ p.0.chain.next = ap (λ (z : RecordValue). z.chain.next) (some_is q.1) in
            let l : h < p.0.chain.next = p.2 in
            (x, ap R.record_at q.0 ∙ e, omega arith)

    pub rerecorded : (bs : List BlockValue) → Known bs c r.chain → Follows bs R → Follows bs R1
    rerecorded bs k f =
        record {
          known = λ d x e. ⊎_elim
              (λ p. let P : IdentifierValue → RecordValue → Type 0 = λ z y. Known bs z y.chain in
              subst (λ z. P z x) (sym p.0) (subst (λ y. P c y) (some_is p.1) k))
              (λ p. f.known d x p.1) (put_cases identifier_decides c (Some r) R.record_at d (Some x) e);
          plus_is = λ d m e. let p = f.plus_is d m e in
              (p.0, (λ b i q l. p.1 b i q (below_from d b.height l)), gone m p.2);
          minus_is = λ d m b i q l x. ⊎_elim (λ u. inl u) (λ u. inr (gone m u)) (f.minus_is d m b i q (below_from d b.height l) x);
          out_is = λ n o e. let p = f.out_is n o e in (below_to n.sender n.height p.0, p.1);
        }
      where
        gone : (m : MessageValue) → Gone R m → Gone R1 m
        gone m g = (g.0, below_to m.name.sender m.name.height g.1)

  -- ---- The arrival of an outgoing row

  module _ (bs : List BlockValue) (R : Rows) (n : NameValue) (o : OutgoingValue) (f : Follows bs R) (there : R.outgoing_at n ≡ Some o) where
    without_row : Rows
    without_row = apply (remove_outgoing n) R

    gone_stays : (m : MessageValue) → R.outgoing_at m.name ≡ None → updated same_name n None R.outgoing_at m.name ≡ None
    gone_stays m e = go (decided name_decides m.name n)
      where
        go : Dec (m.name ≡ n) → updated same_name n None R.outgoing_at m.name ≡ None
        go (yes p) = put_same name_decides n None R.outgoing_at m.name p
        go (no p) = put_other name_decides n None R.outgoing_at m.name p ∙ e

    still_out : (n' : NameValue) (o' : OutgoingValue) → updated same_name n None R.outgoing_at n' ≡ Some o' → R.outgoing_at n' ≡ Some o'
    still_out n' o' e = ⊎_elim (λ p. absurd (none_some p.1)) (λ p. p.1) (put_cases name_decides n None R.outgoing_at n' (Some o') e)

    pub opening_gone : Follows bs (apply (remove_outgoing n) R)
    opening_gone =
        record {
          known = f.known;
          plus_is = λ c m e. let p = f.plus_is c m e in (p.0, p.1, (gone_stays m p.2.0, p.2.1));
          minus_is = λ c m b i q l x. ⊎_elim (λ u. inl u) (λ u. inr (gone_stays m u.0, u.1)) (f.minus_is c m b i q l x);
          out_is = λ n' o' e. f.out_is n' o' (still_out n' o' e);
        }

    module _ (code : ℕ) (v : ℤ) (loaded : o.load ≡ sent code v) where
      abbrev m₀ : MessageValue
      m₀ = message_of n code v

      abbrev t : IdentifierValue
      t = o.target

      now_gone : updated same_name n None R.outgoing_at n ≡ None
      now_gone = put_same name_decides n None R.outgoing_at n refl

      below₀ : Below R n.sender n.height
      below₀ = (f.out_is n o there).0

      sent₀ : SentIn w bs t m₀
      sent₀ = subst (λ l. Carried bs n t l) loaded (f.out_is n o there).1

      pub plus_arrives : R.marked (marking t m₀ minus) ≡ false → Follows bs (apply (remove_outgoing n) (apply (put_mark (marking t m₀ plus)) R))
      plus_arrives none-minus =
          record {
            known = f.known;
            plus_is = λ c m e. ⊎_elim (λ p. fresh_plus c m (ap (λ (k : MarkValue). k.target) p.0) (ap (λ (k : MarkValue). k.message) p.0))
                (λ p. let q = f.plus_is c m p.1 in (q.0, q.1, (gone_stays m q.2.0, q.2.1)))
                (put_cases mark_decides (marking t m₀ plus) true R.marked (marking c m plus) true e);
            minus_is = λ c m b i q l x. ⊎_elim
                (λ u. inl (put_other mark_decides (marking t m₀ plus) true R.marked (marking c m minus) (λ p. plus_minus (sym (ap (λ (k : MarkValue). k.sign) p))) ∙ u))
                (λ u. inr (gone_stays m u.0, u.1)) (f.minus_is c m b i q l x);
            out_is = λ n' o' e. f.out_is n' o' (still_out n' o' e);
          }
        where
          unreceived : Unreceived bs R t m₀
          unreceived b i q l x = ⊎_elim (λ u. true_false (sym u ∙ none-minus)) (λ u. some_none (sym there ∙ u.0)) (f.minus_is t m₀ b i q l x)

          R2 : Rows
          R2 = apply (remove_outgoing n) (apply (put_mark (marking t m₀ plus)) R)

          fresh_plus : (c : IdentifierValue) (m : MessageValue) → c ≡ t → m ≡ m₀ → SentIn w bs c m × Unreceived bs R2 c m × Gone R2 m
          fresh_plus c m p q =
              let P : IdentifierValue → MessageValue → Type 0 = λ d x. SentIn w bs d x × Unreceived bs R2 d x × Gone R2 x in
              subst (λ d. P d m) (sym p) (subst (λ x. P t x) (sym q) (sent₀, unreceived, (now_gone, below₀)))

      pub minus_arrives : Follows bs (apply (remove_outgoing n) (apply (remove_mark (marking t m₀ minus)) R))
      minus_arrives =
          record {
            known = f.known;
            plus_is = λ c m e. ⊎_elim (λ p. absurd (plus_minus (ap (λ (k : MarkValue). k.sign) p.0)))
                (λ p. let q = f.plus_is c m p.1 in (q.0, q.1, (gone_stays m q.2.0, q.2.1)))
                (put_cases mark_decides (marking t m₀ minus) false R.marked (marking c m plus) true e);
            minus_is = λ c m b i q l x. ⊎_elim (λ u. still_minus c m u) (λ u. inr (gone_stays m u.0, u.1)) (f.minus_is c m b i q l x);
            out_is = λ n' o' e. f.out_is n' o' (still_out n' o' e);
          }
        where
          R2 : Rows
          R2 = apply (remove_outgoing n) (apply (remove_mark (marking t m₀ minus)) R)

          still_minus : (c : IdentifierValue) (m : MessageValue) → R.marked (marking c m minus) ≡ true → (R2.marked (marking c m minus) ≡ true) ⊎ Gone R2 m
          still_minus c m u = go (decided mark_decides (marking c m minus) (marking t m₀ minus))
            where
              go : Dec (marking c m minus ≡ marking t m₀ minus) → (R2.marked (marking c m minus) ≡ true) ⊎ Gone R2 m
              go (yes p) = inr (subst (λ x. Gone R2 x) (sym (ap (λ (k : MarkValue). k.message) p)) (now_gone, below₀))
              go (no p) = inl (put_other mark_decides (marking t m₀ minus) false R.marked (marking c m minus) p ∙ u)

  -- ---- An accepted block

  module _ (bs : List BlockValue) (R : Rows) (f : Follows bs R) (takes : Takes w bs) (b : BlockValue) (e : List BlockValue) (part : Part (b ∷ e) bs)
      (row : RecordValue) (there : R.record_at b.chain ≡ Some row) (ran : Ran) (turn : b.height ≡ row.chain.next)
      (chain_is : (step w b e (takes_part w (b ∷ e) bs part takes)).chain ≡ row.chain)
      (ran_is : (step w b e (takes_part w (b ∷ e) bs part takes)).ran ≡ ran)
      (lone : (x : BlockValue) → In x bs → x.chain ≡ b.chain → x.height ≡ b.height → x ≡ b) where
    abbrev c₀ : IdentifierValue
    c₀ = b.chain

    takes_e : Takes w (b ∷ e)
    takes_e = takes_part w (b ∷ e) bs part takes

    T : Took w.committee w.application (ledger_of w e) b (ledger_of w (b ∷ e))
    T = step w b e takes_e

    abbrev after : RecordValue
    after = with_vote (advanced (block_digest b) row.chain ran) None

    abbrev Ra : Rows
    Ra = apply_all (receipts c₀ R.marked (received b.commands)) R

    abbrev Rb : Rows
    Rb = apply_all (map put_entry ran.sent) Ra

    abbrev Rc : Rows
    Rc = apply (put_record c₀ after) Rb

    ra : Receipt c₀ (received b.commands) R Ra
    ra = receipt c₀ (received b.commands) R

    rb : Posted ran.sent Ra Rb
    rb = posted ran.sent Ra

    records_b : Rb.record_at ≡ R.record_at
    records_b = rb.records ∙ ra.records

    at_own : Rc.record_at c₀ ≡ Some after
    at_own = put_same identifier_decides c₀ (Some after) Rb.record_at c₀ refl

    at_other : (d : IdentifierValue) → ¬ (d ≡ c₀) → Rc.record_at d ≡ R.record_at d
    at_other d n = put_other identifier_decides c₀ (Some after) Rb.record_at d n ∙ ap (λ (g : IdentifierValue → Option RecordValue). g d) records_b

    below_up : (d : IdentifierValue) (h : ℕ) → Below R d h → Below Rc d h
    below_up d h p = go (numbers_discrete d c₀)
      where
        go : Dec (d ≡ c₀) → Below Rc d h
        go (no n) = (p.0, at_other d n ∙ p.1, p.2)
        go (yes q) =
            let s : p.0 ≡ row = some_is (sym p.1 ∙ (ap R.record_at q ∙ there)) in
            let u : p.0.chain.next ≡ row.chain.next = ap (λ (z : RecordValue). z.chain.next) s in
            let l : h < p.0.chain.next = p.2 in
            (after, put_same identifier_decides c₀ (Some after) Rb.record_at d q, omega arith)

    below_down : (d : IdentifierValue) (h : ℕ) → Below Rc d h → Below R d h ⊎ ((d ≡ c₀) × (h ≡ b.height))
    below_down d h p = ⊎_elim own_chain (λ q. inl (p.0, sym (ap (λ (g : IdentifierValue → Option RecordValue). g d) records_b) ∙ q.1, p.2))
        (put_cases identifier_decides c₀ (Some after) Rb.record_at d (Some p.0) p.1)
      where
        own_chain : (d ≡ c₀) × (Some after ≡ Some p.0) → Below R d h ⊎ ((d ≡ c₀) × (h ≡ b.height))
        own_chain q = go (ℕ_discrete h b.height)
          where
            u : row.chain.next + 1 ≡ p.0.chain.next
            u = ap (λ (z : RecordValue). z.chain.next) (some_is q.1)

            go : Dec (h ≡ b.height) → Below R d h ⊎ ((d ≡ c₀) × (h ≡ b.height))
            go (yes k) = inr (q.0, k)
            go (no k) = let u' : row.chain.next + 1 ≡ p.0.chain.next = u in let l : h < p.0.chain.next = p.2 in inl (row, ap R.record_at q.0 ∙ there, omega arith)

    rows₀ : SentRows c₀ b.height T.ran
    rows₀ = sent_rows w.committee w.application c₀ b.height _ b.commands T.ran T.runs

    into : (r : EntryValue) → In r ran.sent → In r T.ran.sent
    unfolding T takes_e
    into r i = subst (λ (q : Ran). In r q.sent) (sym ran_is) i

    -- what is gone stays so: the rows put now are named by this height
    gone_up : (m : MessageValue) → Gone R m → Gone Rc m
    gone_up m g = (rb.untouched m.name other ∙ (ap (λ (h : NameValue → Option OutgoingValue). h m.name) ra.outgoing ∙ g.0), below_up m.name.sender m.name.height g.1)
      where
        other : (r : EntryValue) → In r ran.sent → ¬ (m.name ≡ r.name)
        other r i q =
            let good = rows₀.good r (into r i) in
            let s : m.name.sender ≡ c₀ = ap (λ (z : NameValue). z.sender) q ∙ good.sender in
            let h : m.name.height ≡ b.height = ap (λ (z : NameValue). z.height) q ∙ good.height in
            let x : g.1.0 ≡ row = some_is (sym g.1.1 ∙ (ap R.record_at s ∙ there)) in
            let u : g.1.0.chain.next ≡ row.chain.next = ap (λ (z : RecordValue). z.chain.next) x in
            let l : m.name.height < g.1.0.chain.next = g.1.2 in
            let k : b.height ≡ row.chain.next = turn in
            omega arith

    own_at : At w bs c₀ after.chain
    unfolding T takes_e
    own_at = (
      b ∷ e,
      part,
      own w.committee w.application (ledger_of w e) b (ledger_of w (b ∷ e)) T (rooted_all w e takes_e.1)
          ∙ ap Some ((λ i. advanced (block_digest b) (chain_is i) (ran_is i))),
    )

    carried : (r : EntryValue) → In r ran.sent → (l : LoadValue) → r.row.load ≡ l → Carried bs r.name r.row.target l
    carried r i (opening k) q = (
      b ∷ e,
      part,
      opens_child w.committee w.application (ledger_of w e) b (ledger_of w (b ∷ e)) T (rooted_all w e takes_e.1) r k (into r i) q,
    )
    carried r i (sent code v) q =
        (b, (e, (part, subst (λ x. In (parcel r.row.target (message_of r.name code v)) (sent_by x)) (sym T.admits) (parcel_there T.ran.sent r code v (into r i) q))))

    marked_c : (k : MarkValue) → Rc.marked k ≡ Ra.marked k
    marked_c k = ap (λ (g : MarkValue → Bool). g k) rb.marks

    pub accepted_follows : Follows bs Rc
    accepted_follows =
        record {
          known = λ d x q. ⊎_elim
              (λ p. let P : IdentifierValue → RecordValue → Type 0 = λ z y. Known bs z y.chain in
              subst (λ z. P z x) (sym p.0) (subst (λ y. P c₀ y) (some_is p.1) (inr own_at)))
              (λ p. f.known d x (sym (ap (λ (g : IdentifierValue → Option RecordValue). g d) records_b) ∙ p.1))
              (put_cases identifier_decides c₀ (Some after) Rb.record_at d (Some x) q);
          plus_is = λ d m q.
              let u : Ra.marked (marking d m plus) ≡ true = sym (marked_c (marking d m plus)) ∙ q in
              let p = f.plus_is d m (ra.plus_was d m u) in (
                p.0,
                (λ x i y l k. ⊎_elim (λ l'. p.1 x i y l' k)
                    (λ z. ra.plus_not m (subst (λ (v : BlockValue). In m (received v.commands)) (lone x i (y ∙ z.0) z.1) k)
                    (ap (λ g. Ra.marked (marking g m plus)) (sym z.0) ∙ u))
                    (below_down d x.height l)),
                gone_up m p.2,
              );
          minus_is = λ d m x i y l k. ⊎_elim
              (λ l'. ⊎_elim (λ u. inl (marked_c (marking d m minus) ∙ ra.minus_kept d m u)) (λ u. inr (gone_up m u)) (f.minus_is d m x i y l' k))
              (λ z. now_received d m z.0 (subst (λ (v : BlockValue). In m (received v.commands)) (lone x i (y ∙ z.0) z.1) k))
              (below_down d x.height l);
          out_is = λ n o q. ⊎_elim
              (λ p. let g = f.out_is n o (sym (ap (λ (h : NameValue → Option OutgoingValue). h n) ra.outgoing) ∙ p) in (below_up n.sender n.height g.0, g.1))
              (λ p. put_now n o p.0 p.1.0 p.1.1.0 p.1.1.1)
              (rb.was n o q);
        }
      where
        now_received : (d : IdentifierValue) (m : MessageValue) → d ≡ c₀ → In m (received b.commands) → (Rc.marked (marking d m minus) ≡ true) ⊎ Gone Rc m
        now_received d m q i =
            ⊎_elim (λ u. inl (marked_c (marking d m minus) ∙ (ap (λ g. Ra.marked (marking g m minus)) q ∙ u))) (λ u. inr (gone_up m (f.plus_is c₀ m u).2)) (ra.got m i)

        put_now : (n : NameValue) (o : OutgoingValue) (r : EntryValue) → In r ran.sent → n ≡ r.name → o ≡ r.row → Below Rc n.sender n.height × Carried bs n o.target o.load
        put_now n o r i p q =
            let good = rows₀.good r (into r i) in
            let P : NameValue → OutgoingValue → Type 0 = λ y z. Below Rc y.sender y.height × Carried bs y z.target z.load in
            let k : b.height ≡ row.chain.next = turn in
            let s : r.name.height ≡ b.height = good.height in
            subst (λ y. P y o) (sym p) (subst (λ z. P r.name z) (sym q)
            ((after, put_same identifier_decides c₀ (Some after) Rb.record_at r.name.sender good.sender, omega arith), carried r i r.row.load refl))
