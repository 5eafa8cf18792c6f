-- Where a cursor begins, and where it is behind a command.
use Rattle.std.proofs.Common.{◌≡◌, ℕ, ◌+◌, ◌-◌, ◌^◌, ◌<◌, ◌≤◌, List, length, take, drop, sym, ◌∙◌}
use Rattle.std.proofs.lemmas.List.{take_rest}
use Rattle.std.proofs.lemmas.Bool.{cond-true, and_from, le-leb, lt-ltb}
use Rattle.format.specs.Layout.{head_len}
use Rattle.reading.specs.Commands.{command_len}
use Rattle.reading.specs.Cursors.{CursorValue, begun, behind}

pub begun_at : (at n : ℕ) (bs : List ℕ) → head_len ≤ length bs → at + length bs < 2 ^ 64
    → ◌≡◌ {A = CursorValue} (record { rest = take (length bs - head_len) (drop head_len bs); at = at + head_len; place = 0; left = n }) (begun at bs n)
begun_at at n bs h k =
    (λ i. record { rest = take_rest bs head_len i; at = at + head_len; place = 0; left = n })
    ∙ sym (cond-true _ _ _ (and_from _ _ (le-leb head_len (length bs) h) (lt-ltb _ _ k)))

pub behind_at : (v : CursorValue) (n : ℕ) → n ≡ command_len v.rest
    → ◌≡◌ {A = CursorValue} (record { rest = take (length v.rest - n) (drop n v.rest); at = v.at + n; place = v.place + 1; left = v.left - 1 }) (behind v)
behind_at v n e =
    (λ i. record { rest = take_rest v.rest n i; at = v.at + n; place = v.place + 1; left = v.left - 1 })
    ∙ (λ i. record { rest = drop (e i) v.rest; at = v.at + e i; place = v.place + 1; left = v.left - 1 })
