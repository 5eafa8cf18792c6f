-- A memory of which one slot is written over: a row is put or removed.
use Rattle.std.proofs.Common.{◌≡◌, ℕ, ◌<◌, Bool, ◌⊎◌, true, false, List, length, get_or, set, replicate, Some, None, Option, sym, refl, ap, ◌∙◌, subst, arith}
use Rattle.books.specs.Lists.{any}
use Rattle.books.proofs.Lists.{split}
use Rattle.slots.specs.Layout.{slot_len}
use Rattle.slots.specs.Rows.{RowValue, RowKey, row_key, has_key}
use Rattle.slots.specs.Bytes.{slot_bytes}
use Rattle.slots.specs.Reading.{row_in}
use Rattle.slots.specs.RoundTrip.{Exact}
use Rattle.slots.specs.Cells.{free, apart, Put, Removed}
use Rattle.slots.proofs.Cells.{put_old, put_new, put_full, remove_old, remove_none}
use Rattle.image.specs.Memory.{usable, slots, cells, Encodes}
use Rattle.image.proofs.Slotted.{Sound, length_cells, cells_are, exact_set}

pub zero_row : row_in (replicate slot_len 0) ≡ None
unfolding row_in
zero_row = refl

module _ (bs : List ℕ) (sound : Sound bs) where
  -- a row in a cell
  abbrev Fills : List ℕ → Bool → List ℕ → Type 0
  Fills x r bs' = (v : RowValue) → row_in x ≡ Some v → Put (cells bs) v r (cells bs')

  key_is : (k : RowKey) (x : List ℕ) → Encodes k x → (v : RowValue) → row_in x ≡ Some v → row_key v ≡ k
  key_is k x h v e =
      let same : Some v ≡ Some h.row.0 = sym e ∙ h.row.1 in
      let g : v ≡ h.row.0 = cc in
      ap row_key g ∙ h.row.2

  module _ (i : ℕ) (bs' : List ℕ) (l : i < usable bs) where
    low : i < length (cells bs)
    low = omega (arith, length_cells bs, l)

    module _ (x : List ℕ) (wrote : slots bs' ≡ set (slots bs) i x) (o : Option RowValue) (e : row_in x ≡ o) (exact : Exact x) where
      now_cells : cells bs' ≡ set (cells bs) i o
      now_cells = cells_are bs i x bs' wrote ∙ ap (set (cells bs) i) e

      now_sound : apart (set (cells bs) i o) ≡ true → Sound bs'
      now_sound a = (exact_set bs i x bs' wrote sound.0 exact, ap apart now_cells ∙ a)

    module _ (k : RowKey) (x : List ℕ) (wrote : slots bs' ≡ set (slots bs) i x) (enc : Encodes k x) where
      abbrev v₀ : RowValue
      v₀ = enc.row.0

      put_there : has_key k (get_or (cells bs) i None) ≡ true → Fills x true bs' × Sound bs'
      put_there h =
          let at = λ (v : RowValue) (e : row_in x ≡ Some v). put_old (cells bs) sound.1 i low v (subst (λ q. has_key q (get_or (cells bs) i None) ≡ true) (sym (key_is k x enc v e)) h) in (
            (λ v e. subst (Put (cells bs) v true) (sym (now_cells x wrote (Some v) e enc.exact)) (at v e).0),
            now_sound x wrote (Some v₀) enc.row.1 enc.exact (at v₀ enc.row.1).1,
          )

      put_free : any (has_key k) (cells bs) ≡ false → get_or (cells bs) i None ≡ None → Fills x true bs' × Sound bs'
      put_free a h =
          let at = λ (v : RowValue) (e : row_in x ≡ Some v). put_new (cells bs) sound.1 i low v (subst (λ q. any (has_key q) (cells bs) ≡ false) (sym (key_is k x enc v e)) a) h in (
            (λ v e. subst (Put (cells bs) v true) (sym (now_cells x wrote (Some v) e enc.exact)) (at v e).0),
            now_sound x wrote (Some v₀) enc.row.1 enc.exact (at v₀ enc.row.1).1,
          )

      -- where the slot for the row was looked for
      pub put_in : (has_key k (get_or (cells bs) i None) ≡ true) ⊎ ((any (has_key k) (cells bs) ≡ false) × (get_or (cells bs) i None ≡ None)) → Fills x true bs' × Sound bs'
      put_in h = split h put_there (λ p. put_free p.0 p.1)

    pub remove_there : (k : RowKey) → slots bs' ≡ set (slots bs) i (replicate slot_len 0) → has_key k (get_or (cells bs) i None) ≡ true → Removed (cells bs) k (cells bs') × Sound bs'
    remove_there k wrote h =
        let r = remove_old (cells bs) sound.1 i low k h in (
          subst (Removed (cells bs) k) (sym (now_cells (replicate slot_len 0) wrote None zero_row zero_exact)) r.0,
          now_sound (replicate slot_len 0) wrote None zero_row zero_exact r.1,
        )
      where
        zero_exact : Exact (replicate slot_len 0)
        zero_exact = ap slot_bytes zero_row

  pub put_nowhere : (k : RowKey) (x : List ℕ) → Encodes k x → any (has_key k) (cells bs) ≡ false → free (cells bs) ≡ 0 → Fills x false bs
  put_nowhere k x enc a e v h = put_full (cells bs) sound.1 v (subst (λ q. any (has_key q) (cells bs) ≡ false) (sym (key_is k x enc v h)) a) e

  pub remove_nothing : (k : RowKey) → any (has_key k) (cells bs) ≡ false → Removed (cells bs) k (cells bs)
  remove_nothing k a = remove_none (cells bs) sound.1 k a
