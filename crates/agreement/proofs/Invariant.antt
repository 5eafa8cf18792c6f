-- What holds after every list of calls, and the parts of its proof that no one call needs.
use Rattle.std.proofs.Common.{◌≡◌, ℕ, ◌<◌, ◌≤◌, Bool, true, false, List, [], ◌∷◌, ◌++◌, Some, sym, refl, ap, ◌∙◌, subst, inl, inr, ⊎_elim, arith}
use Rattle.format.specs.Values.{IdentifierValue, MessageValue, BlockValue}
use Rattle.format.proofs.Same.{identifier_decides}
use Rattle.committee.specs.Weights.{total_weight, quorum_weight}
use Rattle.books.specs.Values.{ChainValue}
use Rattle.protocol.specs.Execution.{received}
use Rattle.agreement.specs.Lists.{In, Once}
use Rattle.agreement.specs.Blocks.{numbers_discrete, block_discrete}
use Rattle.agreement.specs.Runs.{Setting, weight_where, Grounds, Event, books, stands_in}
use Rattle.agreement.specs.Agreement.{ledger_of, received_by}
use Rattle.agreement.proofs.Basics.{true_false, some_is, in_either, same_cond, other_cond}
use Rattle.agreement.proofs.Quorum.{share}
use Rattle.agreement.proofs.Growth.{Part, part_all, Grown}
use Rattle.agreement.proofs.History.{Takes, SentIn, step, sent_more, grown_part}
use Rattle.agreement.proofs.Following.{Follows}
use Rattle.agreement.proofs.Votes.{Proposed, proposed_more, Voting}

pub received_there : (c : IdentifierValue) (bs : List BlockValue) (m : MessageValue) → In m (received_by c bs) → (b : BlockValue) × In b bs × (b.chain ≡ c) × In m (received b.commands)
received_there c [] m i = absurd i
received_there c (b ∷ bs) m i = go (numbers_discrete b.chain c) (λ j. received_there c bs m j)
  where
    Found : List BlockValue → Type 0
    Found l = (x : BlockValue) × In x l × (x.chain ≡ c) × In m (received x.commands)

    go : Dec (b.chain ≡ c) → (In m (received_by c bs) → Found bs) → Found (b ∷ bs)
    go (yes p) ih =
        let j : In m (received b.commands ++ received_by c bs) =
        subst (λ l. In m l) (same_cond (identifier_decides b.chain c) p (received b.commands ++ received_by c bs) (received_by c bs)) i in
        ⊎_elim (λ k. (b, inl refl, p, k)) (λ k. let r = ih k in (r.0, inr r.1, r.2, r.3)) (in_either m (received b.commands) (received_by c bs) j)
    go (no n) ih =
        let r = ih (subst (λ l. In m l) (other_cond (identifier_decides b.chain c) n (received b.commands ++ received_by c bs) (received_by c bs)) i) in
        (r.0, inr r.1, r.2, r.3)

pub member_in : (b : BlockValue) (bs : List BlockValue) → stands_in b bs ≡ true → In b bs
member_in b [] e = absurd (true_false (sym e))
member_in b (x ∷ bs) e = go (block_discrete b x) refl (λ f. member_in b bs f)
  where
    go : (d : Dec (b ≡ x)) → block_discrete b x ≡ d → (stands_in b bs ≡ true → In b bs) → In b (x ∷ bs)
    go (yes p) q ih = inl p
    go (no n) q ih = let P : Dec (b ≡ x) → Type 0 = λ z. elim z [ yes p ↦ true | no p ↦ stands_in b bs ] ≡ true in inr (ih (subst P q e))

pub member_not : (b : BlockValue) (bs : List BlockValue) → stands_in b bs ≡ false → ¬ In b bs
member_not b [] e i = i
member_not b (x ∷ bs) e i = go (block_discrete b x) refl i (λ f j. member_not b bs f j)
  where
    go : (d : Dec (b ≡ x)) → block_discrete b x ≡ d → In b (x ∷ bs) → (stands_in b bs ≡ false → In b bs → ⊥) → ⊥
    go (yes p) q j ih = let P : Dec (b ≡ x) → Type 0 = λ z. elim z [ yes p ↦ true | no p ↦ stands_in b bs ] ≡ false in true_false (subst P q e)
    go (no n) q (inl p) ih = n p
    go (no n) q (inr j) ih = let P : Dec (b ≡ x) → Type 0 = λ z. elim z [ yes p ↦ true | no p ↦ stands_in b bs ] ≡ false in ih (subst P q e) j

module _ (w : Setting) where
  -- What b receives was sent to its chain and is received by no block below it; the chain has come to its height.
  pub record Justified (bs : List BlockValue) (b : BlockValue) : Type 0 where
    pub once : Once (received b.commands)
    pub sent : (m : MessageValue) → In m (received b.commands) → SentIn w bs b.chain m
    pub new : (m : MessageValue) → In m (received b.commands) → (x : BlockValue) → In x bs → x.chain ≡ b.chain → x.height < b.height → ¬ In m (received x.commands)
    pub reached : (y : ChainValue) × ((ledger_of w bs).chains b.chain ≡ Some y) × (b.height ≤ y.next)

  pub justified_more : (x : BlockValue) (bs : List BlockValue) (b : BlockValue) → Takes w (x ∷ bs) → Justified bs b → Justified (x ∷ bs) b
  justified_more x bs b t j =
      record {
        once = j.once;
        sent = λ m i. sent_more w x bs b.chain m (j.sent m i);
        new = λ m i y k p l. ⊎_elim (λ q. absurd (later y q p l)) (λ k'. j.new m i y k' p l) k;
        reached = let g = grown_part w bs (x ∷ bs) (inr (part_all bs)) t b.chain j.reached.0 j.reached.1 in
            (g.0, g.1, further g.0 g.2);
      }
    where
      further : (y : ChainValue) → Grown j.reached.0 y → b.height ≤ y.next
      further y (inl e) = subst (λ (z : ChainValue). b.height ≤ z.next) e j.reached.2
      further y (inr l) = let k : b.height ≤ j.reached.0.next = j.reached.2 in omega arith

      later : (y : BlockValue) → y ≡ x → y.chain ≡ b.chain → y.height < b.height → ⊥
      later y q p l =
          let T = step w x bs t in
          let same : T.chain ≡ j.reached.0 = some_is (sym T.there ∙ (ap (ledger_of w bs).chains (ap (λ (z : BlockValue). z.chain) (sym q) ∙ p) ∙ j.reached.1)) in
          let n : T.chain.next ≡ j.reached.0.next = ap (λ (z : ChainValue). z.next) same in
          let h : x.height ≡ T.chain.next = T.height in
          let u : y.height ≡ x.height = ap (λ (z : BlockValue). z.height) q in
          let k : b.height ≤ j.reached.0.next = j.reached.2 in
          omega arith

  -- a quorum of which each honest member voted for b
  pub record Backed (es : List Event) (b : BlockValue) : Type 0 where
    pub voters : ℕ → Bool
    pub enough : quorum_weight w.committee ≤ weight_where w.committee voters
    pub voted : (i : ℕ) → voters i ≡ true → w.honest i ≡ true → Proposed w es i b
    pub some_one : 1 ≤ total_weight w.committee

  pub backed_more : (e : Event) (es : List Event) (b : BlockValue) → Backed es b → Backed (e ∷ es) b
  backed_more e es b k =
      record { voters = k.voters; enough = k.enough; voted = λ i p h. proposed_more w e es i b (k.voted i p h); some_one = k.some_one }

  pub record Holds (es : List Event) (bs : List BlockValue) : Type 0 where
    pub takes : Takes w bs
    pub follows : (i : ℕ) → w.honest i ≡ true → Follows w bs (books w es i).rows
    pub justified : (i : ℕ) (b : BlockValue) → w.honest i ≡ true → Proposed w es i b → Justified bs b
    pub backed : (b : BlockValue) → In b bs → Backed es b
    pub sent_earlier : (b : BlockValue) (earlier : List BlockValue) → Part (b ∷ earlier) bs → (m : MessageValue) → In m (received b.commands) → SentIn w earlier b.chain m
    pub received_once : (c : IdentifierValue) → Once (received_by c bs)

  -- two backed blocks of one height are one
  pub backed_one : Grounds w → (es : List Event) → Voting w es → (b b' : BlockValue) → Backed es b → Backed es b'
      → b.chain ≡ b'.chain → b.height ≡ b'.height → b ≡ b'
  backed_one g es v b b' k k' p q =
      let s = share w.committee k.voters k'.voters w.honest k.some_one g.few k.enough k'.enough in
      v.one_vote s.0 b b' s.3 (k.voted s.0 s.1 s.3) (k'.voted s.0 s.2 s.3) p q
