-- The widths, limits and letters of frames. Each has one name, the same as in the code.
use Rattle.std.specs.Prelude.{ℕ, ◌+◌, List, codes}

-- four letters, and the block's length in two bytes; in a certificate a count of seals and a member number, a byte each
abbrev pub marker_len : ℕ
marker_len = 4

abbrev pub length_len : ℕ
length_len = 2

abbrev pub block_at : ℕ
block_at = marker_len + length_len

abbrev pub seal_count_len : ℕ
seal_count_len = 1

abbrev pub member_len : ℕ
member_len = 1

abbrev pub max_seals : ℕ
max_seals = 16

abbrev pub request_marker : List ℕ
request_marker = codes "AUTH"

abbrev pub certificate_marker : List ℕ
certificate_marker = codes "CERT"
