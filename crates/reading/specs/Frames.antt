-- What request and certificate frames hold, by place and bytes.
use Rattle.std.specs.Prelude.{ℕ, ◌+◌, ◌*◌, Bool, ◌&&◌, List, map, length, take, drop, Ok, Err, Result, ◌==◌, nat_le, slice_index, slice_index_or}
use Rattle.std.specs.List.{range_with_len}
use Rattle.std.specs.Str.{bytes_eq}
use Rattle.format.specs.Layout.{max_block_len}
use Rattle.format.specs.Numbers.{from_bytes}
use Rattle.format.specs.Outcomes.{Outcome, Refused, Passed, ◌>>◌, check}
use Rattle.reading.specs.FrameLayout.{marker_len, length_len, block_at, seal_count_len, member_len, max_seals, request_marker, certificate_marker}
use Rattle.reading.specs.Blocks.{frame_refusal}
use Rattle.reading.specs.Parts.{Placed, placed, part_of, read_refusal}
use Rattle.reading.specs.declared.part.ReadFault.{ReadFault}
use Rattle.reading.specs.declared.frame.Request.{Request}
use Rattle.reading.specs.declared.certificate.Certificate.{Certificate}
use Rattle.reading.specs.declared.certificate.Vote.{Vote}

-- the length that the frame says the block has
abbrev pub block_len : List ℕ → ℕ
block_len f = from_bytes (take length_len (drop marker_len f))

-- the frame begins with the letters and the length of a block
abbrev pub begins : List ℕ → List ℕ → Bool
begins marker f = bytes_eq (take marker_len f) marker && (nat_le block_at (length f) && nat_le (block_len f) max_block_len)

pub record RequestValue : Type 0 where
  pub block : Placed
  pub seal : Placed

-- the block, and behind it the owner's seal of w bytes
unfoldable pub request_in : ℕ → List ℕ → Outcome RequestValue
request_in w f =
    let end = block_at + block_len f in
    check (begins request_marker f) frame_refusal >>
    (check (length f == end + w) frame_refusal >>
    Passed (record { block = part_of f block_at (block_len f); seal = part_of f end w }))

abbrev pub request_value : Request → RequestValue
request_value r = record { block = placed r.block; seal = placed r.seal }

abbrev pub request_answer : Result Request ReadFault → Outcome RequestValue
request_answer (Ok r) = Passed (request_value r)
request_answer (Err e) = Refused (read_refusal e)

-- a member number and its seal
pub record VoteValue : Type 0 where
  pub member : ℕ
  pub seal : Placed

pub record CertificateValue : Type 0 where
  pub block : Placed
  pub votes : List VoteValue

-- where the vote of that place begins, of those that begin at first
abbrev pub vote_start : ℕ → ℕ → ℕ → ℕ
vote_start w first i = first + i * (member_len + w)

abbrev pub vote_at : ℕ → List ℕ → ℕ → ℕ → VoteValue
vote_at w f first i = record { member = slice_index f (vote_start w first i); seal = part_of f (vote_start w first i + member_len) w }

-- the block, and behind it a count and so many votes
unfoldable pub certificate_in : ℕ → List ℕ → Outcome CertificateValue
certificate_in w f =
    let end = block_at + block_len f in
    let count = slice_index_or f end 0 in
    let first = end + seal_count_len in
    check (begins certificate_marker f) frame_refusal >>
    (check (nat_le first (length f)) frame_refusal >>
    (check (nat_le count max_seals) frame_refusal >>
    (check (length f == first + count * (member_len + w)) frame_refusal >>
    Passed (record { block = part_of f block_at (block_len f); votes = map (vote_at w f first) (range_with_len 0 count) }))))

abbrev pub vote_value : Vote → VoteValue
vote_value v = record { member = v.member; seal = placed v.seal }

-- the vote of that place in a certificate that was read
abbrev pub vote_of : Certificate → ℕ → VoteValue
vote_of c i = vote_at c.width c.frame.now c.first i

abbrev pub certificate_value : Certificate → CertificateValue
certificate_value c = record { block = placed c.block; votes = map (vote_of c) (range_with_len 0 c.count) }

abbrev pub certificate_answer : Result Certificate ReadFault → Outcome CertificateValue
certificate_answer (Ok c) = Passed (certificate_value c)
certificate_answer (Err e) = Refused (read_refusal e)
