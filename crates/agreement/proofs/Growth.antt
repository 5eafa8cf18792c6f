-- How the ledger grows: a chain's record changes only with its next height, and a child is new.
use Rattle.std.proofs.Common.{◌≡◌, ℕ, ◌+◌, ◌<◌, not, eqb, ◌⊎◌, List, [], ◌∷◌, ◌++◌, Some, None, Option, sym, refl, ap, ◌∙◌, subst, inl, inr, ⊎_elim, arith}
use mathlib.Core.List.{cons≢nil, head-eq_of_cons-eq, tail-eq_of_cons-eq}
use Rattle.format.specs.Values.{IdentifierValue, BlockValue}
use Rattle.format.specs.Same.{same_identifier}
use Rattle.format.proofs.Same.{identifier_decides}
use Rattle.format.specs.Outcomes.{refusal, Outcome, Refused, Passed}
use Rattle.committee.specs.Rules.{CommitteeValue}
use Rattle.books.specs.Values.{ChainValue, LoadValue, opening, sent, EntryValue}
use Rattle.books.specs.Books.{updated}
use Rattle.applications.specs.Steps.{ApplicationValue}
use Rattle.protocol.specs.Reads.{block_digest}
use Rattle.protocol.specs.Execution.{Ran, executed, advanced, received}
use Rattle.protocol.specs.Calls.{owned, in_turn, fresh}
use Rattle.protocol.proofs.Ends.{snoc_is, snoc_longer}
use Rattle.agreement.specs.Lists.{In}
use Rattle.agreement.specs.Blocks.{numbers_discrete}
use Rattle.agreement.specs.Ledger.{Parcel, Ledger, Chains, withdrawn, parcels, with_child, with_children, admitted, settled, taken, root_chains}
use Rattle.agreement.proofs.Basics.{refused_passed, passed_is, bind_passed, then_passed, check_passed, some_is, none_some, put_same, put_other, put_cases}
use Rattle.agreement.proofs.CallFacts.{in_turn_is}
use Rattle.agreement.proofs.SentRows.{SentRows, sent_rows}

-- a suffix of the list: the ledger's history up to some block
abbrev pub Part : List BlockValue → List BlockValue → Type 0
Part e [] = e ≡ []
Part e (b ∷ bs) = (e ≡ b ∷ bs) ⊎ Part e bs

pub part_all : (bs : List BlockValue) → Part bs bs
part_all [] = refl
part_all (b ∷ bs) = inl refl

pub part_tail : (b : BlockValue) (e bs : List BlockValue) → Part (b ∷ e) bs → Part e bs
part_tail b e [] p = absurd (cons≢nil p)
part_tail b e (x ∷ bs) (inl q) = inr (subst (λ l. Part l bs) (sym (tail-eq_of_cons-eq q)) (part_all bs))
part_tail b e (x ∷ bs) (inr p) = inr (part_tail b e bs p)

pub part_head : (b : BlockValue) (e bs : List BlockValue) → Part (b ∷ e) bs → In b bs
part_head b e [] p = absurd (cons≢nil p)
part_head b e (x ∷ bs) (inl q) = inl (head-eq_of_cons-eq q)
part_head b e (x ∷ bs) (inr p) = inr (part_head b e bs p)

pub part_of_in : (b : BlockValue) (bs : List BlockValue) → In b bs → (e : List BlockValue) × Part (b ∷ e) bs
part_of_in b [] i = absurd i
part_of_in b (x ∷ bs) (inl q) = (bs, inl (λ i. q i ∷ bs))
part_of_in b (x ∷ bs) (inr i) = let r = part_of_in b bs i in (r.0, inr r.1)

pub part_split : (e bs : List BlockValue) → Part e bs → (later : List BlockValue) × (bs ≡ later ++ e)
part_split e [] p = ([], sym p)
part_split e (b ∷ bs) (inl q) = ([], sym q)
part_split e (b ∷ bs) (inr p) = let r = part_split e bs p in (b ∷ r.0, ap (λ l. b ∷ l) r.1)

pub split_part : (later e : List BlockValue) → Part e (later ++ e)
split_part [] e = part_all e
split_part (x ∷ l) e = inr (split_part l e)

-- of two suffixes one is a suffix of the other
pub part_either : (e e' bs : List BlockValue) → Part e bs → Part e' bs → Part e e' ⊎ Part e' e
part_either e e' [] p q = inl (subst (λ l. Part e l) (sym q) p)
part_either e e' (b ∷ bs) (inl p) q = inr (subst (λ l. Part e' l) (sym p) q)
part_either e e' (b ∷ bs) (inr p) (inl q) = let r : Part e (b ∷ bs) = inr p in inl (subst (λ l. Part e l) (sym q) r)
part_either e e' (b ∷ bs) (inr p) (inr q) = part_either e e' bs p q

abbrev pub Grown : ChainValue → ChainValue → Type 0
Grown x y = (x ≡ y) ⊎ (x.next < y.next)

pub grown_trans : (x y z : ChainValue) → Grown x y → Grown y z → Grown x z
grown_trans x y z (inl p) q = subst (λ v. Grown v z) (sym p) q
grown_trans x y z (inr p) (inl q) = inr (subst (λ (v : ChainValue). x.next < v.next) q p)
grown_trans x y z (inr p) (inr q) = inr (omega arith)

-- the record of chain c is past height h
abbrev pub Past : Ledger → IdentifierValue → ℕ → Type 0
Past L c h = (y : ChainValue) × (L.chains c ≡ Some y) × (h < y.next)

abbrev pub Stem : Ledger → IdentifierValue → Type 0
Stem L c = ((k : ℕ) × (c ≡ k ∷ [])) ⊎ ((p : IdentifierValue) × ((h : ℕ) × ((c ≡ p ++ (h ∷ [])) × Past L p h)))

-- each chain is a root, or was opened by a block of its parent
abbrev pub Rooted : Ledger → Type 0
Rooted L = (c : IdentifierValue) (x : ChainValue) → L.chains c ≡ Some x → Stem L c

snoc_not_nil : (p : IdentifierValue) (h : ℕ) → p ++ (h ∷ []) ≡ [] → ⊥
snoc_not_nil [] h e = cons≢nil e
snoc_not_nil (x ∷ p) h e = cons≢nil e

stem_not_nil : (L : Ledger) (c : IdentifierValue) → Stem L c → c ≡ [] → ⊥
stem_not_nil L c (inl s) e = cons≢nil (sym s.1 ∙ e)
stem_not_nil L c (inr s) e = snoc_not_nil s.0 s.1.0 (sym s.1.1.0 ∙ e)

-- no chain has the name of a child that its parent has yet to open
pub child_new : (L : Ledger) → Rooted L → (c : IdentifierValue) (r : ChainValue) → L.chains c ≡ Some r → (x : ChainValue) → L.chains (c ++ (r.next ∷ [])) ≡ Some x → ⊥
child_new L rooted c r e x f = go (rooted (c ++ (r.next ∷ [])) x f)
  where
    go : Stem L (c ++ (r.next ∷ [])) → ⊥
    go (inl s) = stem_not_nil L c (rooted c r e) (snoc_is c [] r.next s.0 s.1).0
    go (inr s) =
        let q = snoc_is c s.0 r.next s.1.0 s.1.1.0 in
        let p = s.1.1.1 in
        let same : r ≡ p.0 = some_is (sym e ∙ (ap L.chains q.0 ∙ p.1)) in
        let n : r.next ≡ p.0.next = ap (λ (z : ChainValue). z.next) same in
        let l : s.1.0 < p.0.next = p.2 in
        let k : r.next ≡ s.1.0 = q.1 in
        omega arith

module _ (A : ApplicationValue) where
  -- chains with children
  child_other : (t : IdentifierValue) (l : LoadValue) (f : Chains) (c : IdentifierValue) → ((key : ℕ) → l ≡ opening key → ¬ (c ≡ t)) → with_child A t l f c ≡ f c
  child_other t (opening k) f c h = put_other identifier_decides t (Some (fresh A k)) f c (h k refl)
  child_other t (sent a v) f c h = refl

  pub children_other : (rs : List EntryValue) (f : Chains) (c : IdentifierValue)
      → ((r : EntryValue) → In r rs → (key : ℕ) → r.row.load ≡ opening key → ¬ (c ≡ r.row.target)) → with_children A rs f c ≡ f c
  children_other [] f c h = refl
  children_other (r ∷ rs) f c h =
      children_other rs (with_child A r.row.target r.row.load f) c (λ q i. h q (inr i)) ∙ child_other r.row.target r.row.load f c (h r (inl refl))

  child_at : (t : IdentifierValue) (l : LoadValue) (f : Chains) (c : IdentifierValue) (x : ChainValue) → with_child A t l f c ≡ Some x
      → (f c ≡ Some x) ⊎ ((key : ℕ) × (x ≡ fresh A key))
  child_at t (opening k) f c x e = ⊎_elim (λ p. inr (k, sym (some_is p.1))) (λ p. inl p.1) (put_cases identifier_decides t (Some (fresh A k)) f c (Some x) e)
  child_at t (sent a v) f c x e = inl e

  pub children_at : (rs : List EntryValue) (f : Chains) (c : IdentifierValue) (x : ChainValue) → with_children A rs f c ≡ Some x
      → (f c ≡ Some x) ⊎ ((key : ℕ) × (x ≡ fresh A key))
  children_at [] f c x e = inl e
  children_at (r ∷ rs) f c x e =
      ⊎_elim (λ p. child_at r.row.target r.row.load f c x p) (λ p. inr p) (children_at rs (with_child A r.row.target r.row.load f) c x e)

  child_keeps : (t : IdentifierValue) (l : LoadValue) (f : Chains) (c : IdentifierValue) (key : ℕ) → f c ≡ Some (fresh A key)
      → ((k : ℕ) → l ≡ opening k → k ≡ key) → with_child A t l f c ≡ Some (fresh A key)
  child_keeps t (opening k) f c key e h = go (numbers_discrete c t)
    where
      go : Dec (c ≡ t) → updated same_identifier t (Some (fresh A k)) f c ≡ Some (fresh A key)
      go (yes p) = put_same identifier_decides t (Some (fresh A k)) f c p ∙ ap (λ n. Some (fresh A n)) (h k refl)
      go (no p) = put_other identifier_decides t (Some (fresh A k)) f c p ∙ e
  child_keeps t (sent a v) f c key e h = e

  children_keep : (rs : List EntryValue) (f : Chains) (c : IdentifierValue) (key : ℕ) → f c ≡ Some (fresh A key)
      → ((r : EntryValue) → In r rs → (k : ℕ) → r.row.load ≡ opening k → k ≡ key) → with_children A rs f c ≡ Some (fresh A key)
  children_keep [] f c key e h = e
  children_keep (r ∷ rs) f c key e h =
      children_keep rs (with_child A r.row.target r.row.load f) c key (child_keeps r.row.target r.row.load f c key e (h r (inl refl))) (λ q i. h q (inr i))

  pub children_open : (rs : List EntryValue) (f : Chains) (key : ℕ) (r : EntryValue) → In r rs → r.row.load ≡ opening key
      → ((q : EntryValue) → In q rs → (k : ℕ) → q.row.load ≡ opening k → k ≡ key) → with_children A rs f r.row.target ≡ Some (fresh A key)
  children_open [] f key r i e h = absurd i
  children_open (x ∷ rs) f key r (inl p) e h =
      children_keep rs (with_child A x.row.target x.row.load f) r.row.target key (opened x.row.target x.row.load (sym (ap (λ (z : EntryValue). z.row.load) p) ∙ e) (ap (λ (z : EntryValue). z.row.target) p))
      (λ q i. h q (inr i))
    where
      opened : (t : IdentifierValue) (l : LoadValue) → l ≡ opening key → r.row.target ≡ t → with_child A t l f r.row.target ≡ Some (fresh A key)
      opened t l u v = rw u (put_same identifier_decides t (Some (fresh A key)) f r.row.target v)
  children_open (x ∷ rs) f key r (inr i) e h =
      children_open rs (with_child A x.row.target x.row.load f) key r i e (λ q j. h q (inr j))

  pub root_at : (k : ℕ) (os : List ℕ) (f : Chains) (c : IdentifierValue) (x : ChainValue) → root_chains A k os f c ≡ Some x
      → (f c ≡ Some x) ⊎ ((j : ℕ) × ((o : ℕ) × ((c ≡ j ∷ []) × (x ≡ fresh A o))))
  root_at k [] f c x e = inl e
  root_at k (o ∷ os) f c x e =
      ⊎_elim (λ p. ⊎_elim (λ q. inr (k, (o, (q.0, sym (some_is q.1))))) (λ q. inl q.1) (put_cases identifier_decides (k ∷ []) (Some (fresh A o)) f c (Some x) p))
      (λ p. inr p) (root_at (k + 1) os (updated same_identifier (k ∷ []) (Some (fresh A o)) f) c x e)

module _ (C : CommitteeValue) (A : ApplicationValue) where
  -- a block that the ledger took
  pub record Took (L : Ledger) (b : BlockValue) (L' : Ledger) : Type 0 where
    pub chain : ChainValue
    pub there : L.chains b.chain ≡ Some chain
    pub height : b.height ≡ chain.next
    pub ran : Ran
    pub runs : executed C A chain b ≡ Passed ran
    pub admits : admitted C A L b ≡ Passed ran
    pub rest : List Parcel
    pub withdraws : withdrawn b.chain (received b.commands) L.pool ≡ Some rest
    pub chains_are : L'.chains ≡ with_children A ran.sent (updated same_identifier b.chain (Some (advanced (block_digest b) chain ran)) L.chains)
    pub pool_is : L'.pool ≡ rest ++ parcels ran.sent

  owned_chain : (o : Option ChainValue) (r : ChainValue) → owned o ≡ Passed r → o ≡ Some r
  owned_chain None r e = absurd (refused_passed e)
  owned_chain (Some x) r e = ap Some (passed_is (check_passed (not (eqb x.owner 0)) (refusal 7) (Passed x) r e).1)

  abbrev after_of : Ledger → BlockValue → ChainValue → Ran → List Parcel → Ledger
  after_of L b r e rest =
      record { chains = with_children A e.sent (updated same_identifier b.chain (Some (advanced (block_digest b) r e)) L.chains); pool = rest ++ parcels e.sent }

  settled_is : (L : Ledger) (b : BlockValue) (o : Option ChainValue) (x : Outcome Ran) (p : Option (List Parcel)) (L' : Ledger) → settled A L b o x p ≡ Some L'
      → (r : ChainValue) × ((e : Ran) × ((rest : List Parcel) × ((o ≡ Some r) × (x ≡ Passed e) × (p ≡ Some rest) × (after_of L b r e rest ≡ L'))))
  settled_is L b None x p L' q = absurd (none_some q)
  settled_is L b (Some r) (Refused x) p L' q = absurd (none_some q)
  settled_is L b (Some r) (Passed e) None L' q = absurd (none_some q)
  settled_is L b (Some r) (Passed e) (Some rest) L' q = (r, (e, (rest, (refl, refl, refl, some_is q))))

  pub took : (L : Ledger) (b : BlockValue) (L' : Ledger) → taken C A L b ≡ Some L' → Took L b L'
  took L b L' e =
      let s = settled_is L b (L.chains b.chain) (admitted C A L b) (withdrawn b.chain (received b.commands) L.pool) L' e in
      let f = s.1.1.1 in
      let o = bind_passed (owned (L.chains b.chain)) _ s.1.0 f.1 in
      let t = then_passed (in_turn o.0 b) _ s.1.0 o.2 in
      let same : o.0 ≡ s.0 = some_is (sym (owned_chain (L.chains b.chain) o.0 o.1) ∙ f.0) in
      record {
        chain = s.0;
        there = f.0;
        height = subst (λ (z : ChainValue). b.height ≡ z.next) same (in_turn_is o.0 b t.0.0 t.0.1).0;
        ran = s.1.0;
        runs = subst (λ z. executed C A z b ≡ Passed s.1.0) same t.1;
        admits = f.1;
        rest = s.1.1.0;
        withdraws = f.2;
        chains_are = ap (λ (z : Ledger). z.chains) (sym f.3);
        pool_is = ap (λ (z : Ledger). z.pool) (sym f.3);
      }

  module _ (L : Ledger) (b : BlockValue) (L' : Ledger) (t : Took L b L') (rooted : Rooted L) where
    abbrev child : IdentifierValue
    child = b.chain ++ (b.height ∷ [])

    abbrev base : IdentifierValue → Option ChainValue
    base = updated same_identifier b.chain (Some (advanced (block_digest b) t.chain t.ran)) L.chains

    rows : SentRows b.chain b.height t.ran
    rows = sent_rows C A b.chain b.height _ b.commands t.ran t.runs

    child_absent : (x : ChainValue) → L.chains child ≡ Some x → ⊥
    child_absent x e = child_new L rooted b.chain t.chain t.there x (ap (λ n. L.chains (b.chain ++ (n ∷ []))) (sym t.height) ∙ e)

    away : (c : IdentifierValue) → ¬ (c ≡ child) → L'.chains c ≡ base c
    away c n =
        ap (λ (f : Chains). f c) t.chains_are
        ∙ children_other A t.ran.sent base c (λ r i key e p. n (p ∙ (rows.good r i).child key e))

    pub own : L'.chains b.chain ≡ Some (advanced (block_digest b) t.chain t.ran)
    own = away b.chain (snoc_longer b.chain b.height) ∙ put_same identifier_decides b.chain (Some (advanced (block_digest b) t.chain t.ran)) L.chains b.chain refl

    pub keeps : (c : IdentifierValue) (x : ChainValue) → L.chains c ≡ Some x → ¬ (c ≡ b.chain) → L'.chains c ≡ Some x
    keeps c x e n =
        away c (λ p. child_absent x (ap L.chains (sym p) ∙ e))
        ∙ (put_other identifier_decides b.chain (Some (advanced (block_digest b) t.chain t.ran)) L.chains c n ∙ e)

    pub opens_child : (r : EntryValue) (key : ℕ) → In r t.ran.sent → r.row.load ≡ opening key → L'.chains r.row.target ≡ Some (fresh A key)
    opens_child r key i e =
        ap (λ (f : Chains). f r.row.target) t.chains_are
        ∙ children_open A t.ran.sent base key r i e (λ q j k f. rows.lone q r k key j i f e)

    -- what a chain is afterwards: a new child, the block's own chain, or what it was
    pub data After (c : IdentifierValue) (x : ChainValue) : Type 0 where
      new : c ≡ child → (key : ℕ) → x ≡ fresh A key → After c x
      stepped : c ≡ b.chain → x ≡ advanced (block_digest b) t.chain t.ran → After c x
      kept : ¬ (c ≡ b.chain) → L.chains c ≡ Some x → After c x

    from_base : (c : IdentifierValue) (x : ChainValue) → base c ≡ Some x → After c x
    from_base c x e =
        ⊎_elim (λ p. stepped p.0 (sym (some_is p.1))) (λ p. kept p.0 p.1)
        (put_cases identifier_decides b.chain (Some (advanced (block_digest b) t.chain t.ran)) L.chains c (Some x) e)

    pub afterwards : (c : IdentifierValue) (x : ChainValue) → L'.chains c ≡ Some x → After c x
    afterwards c x e = go (numbers_discrete c child)
      where
        go : Dec (c ≡ child) → After c x
        go (no n) = from_base c x (sym (away c n) ∙ e)
        go (yes p) =
            ⊎_elim (λ q. from_base c x q) (λ q. new p q.0 q.1)
            (children_at A t.ran.sent base c x (sym (ap (λ (f : Chains). f c) t.chains_are) ∙ e))

    pub grows : (c : IdentifierValue) (x : ChainValue) → L.chains c ≡ Some x → (y : ChainValue) × (L'.chains c ≡ Some y) × Grown x y
    grows c x e = go (numbers_discrete c b.chain)
      where
        go : Dec (c ≡ b.chain) → (y : ChainValue) × (L'.chains c ≡ Some y) × Grown x y
        go (no n) = (x, keeps c x e n, inl refl)
        go (yes p) =
            let same : t.chain ≡ x = some_is (sym t.there ∙ (ap L.chains (sym p) ∙ e)) in
            let n : t.chain.next ≡ x.next = ap (λ (z : ChainValue). z.next) same in
            (advanced (block_digest b) t.chain t.ran, ap L'.chains p ∙ own, inr (omega arith))

    past_grows : (c : IdentifierValue) (h : ℕ) → Past L c h → Past L' c h
    past_grows c h p =
        let g = grows c p.0 p.1 in
        (g.0, g.1, further g.2)
      where
        further : Grown p.0 (grows c p.0 p.1).0 → h < (grows c p.0 p.1).0.next
        further (inl e) = subst (λ (z : ChainValue). h < z.next) e p.2
        further (inr l) = let k : h < p.0.next = p.2 in omega arith

    stem_grows : (c : IdentifierValue) → Stem L c → Stem L' c
    stem_grows c (inl s) = inl s
    stem_grows c (inr s) = inr (s.0, (s.1.0, (s.1.1.0, past_grows s.0 s.1.0 s.1.1.1)))

    pub rooted_after : Rooted L'
    rooted_after c x e = go (afterwards c x e)
      where
        go : After c x → Stem L' c
        go (new p key q) =
            let k : b.height ≡ t.chain.next = t.height in
            inr (b.chain, (b.height, (p, (advanced (block_digest b) t.chain t.ran, own, omega arith))))
        go (stepped p q) = stem_grows c (rooted c t.chain (ap L.chains p ∙ t.there))
        go (kept n f) = stem_grows c (rooted c x f)
