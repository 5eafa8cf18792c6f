-- The worked values.
use Rattle.std.proofs.Common.{◌≡◌, ◌+◌, ◌*◌, Bool, true, false, List, [], ◌∷◌, length, refl, ap, ◌∙◌, arith, length-append}
use Rattle.std.specs.List.{flat_map, AllByRecursion}
use Rattle.format.specs.Layout.{command_byte_len, receive_len}
use Rattle.format.specs.Values.{CommandValue, opens, changes, closes, executes, receives}
use Rattle.format.specs.Bytes.{identifier_bytes, command_bytes, head_bytes, bytes_of}
use Rattle.format.proofs.Lengths.{length_command, length_head}
use Rattle.books.specs.Values.{plus, minus, MarkValue, marking}
use Rattle.books.specs.Same.{same_mark}
use Rattle.books.specs.Books.{updated}
use Rattle.books.specs.SameLemmas.{mark_decides}
use Rattle.agreement.proofs.Basics.{decided, put_same, put_other}
use Rattle.agreement.specs.Worked.{WorkedQuorums, WorkedIdentifier, IsReceive, WorkedLengths, WorkedRings, WorkedMarks, WorkedValues}

quorums : WorkedQuorums
quorums = record {
  four_faulty = λ k₀ k₁ k₂ k₃. refl;
  four_quorum = λ k₀ k₁ k₂ k₃. refl;
  three_faulty = λ k₀ k₁ k₂. refl;
  three_quorum = λ k₀ k₁ k₂. refl;
  first_and_last = λ k₀ k₁ k₂ S d x y h h'. rw (h, h') refl;
  last_two = λ k₀ k₁ k₂ S d x y h h'. rw (h, h') refl;
}

identifier : WorkedIdentifier
unfolding identifier_bytes
identifier = record { bytes = refl; child = refl; opens_it = refl }

rings : WorkedRings
rings = record { three = (refl, refl, refl); farthest = (refl, refl, refl); too_far = (λ a b. refl, λ a b. refl, λ a b. refl) }

-- a Receive has 22 bytes
length_receives : (cs : List CommandValue) → AllByRecursion IsReceive cs → length (flat_map command_bytes cs) ≡ (command_byte_len + receive_len) * length cs
length_receives [] a = refl
length_receives (opens child key ∷ cs) a = absurd a.0
length_receives (changes key ∷ cs) a = absurd a.0
length_receives (closes ∷ cs) a = absurd a.0
length_receives (executes code argument target ∷ cs) a = absurd a.0
length_receives (receives m ∷ cs) a =
    omega (arith, length_receives cs a.1, length_command (receives m), length-append (command_bytes (receives m)) (flat_map command_bytes cs))

lengths : WorkedLengths
unfolding bytes_of
lengths = record {
  shortest = λ b d e.
      length-append (head_bytes b) (flat_map command_bytes b.commands) ∙ (ap (λ cs. length (head_bytes b) + length (flat_map command_bytes cs)) e ∙ omega (arith, length_head b d));
  longest = λ b d a n.
      omega (arith, n, length-append (head_bytes b) (flat_map command_bytes b.commands), length_head b d, length_receives b.commands a);
}

-- a mark that is put and then removed is not there, and no other one is either
put_and_removed : (k : MarkValue) (f : MarkValue → Bool) (q : MarkValue) → f q ≡ false → updated same_mark k false (updated same_mark k true f) q ≡ false
put_and_removed k f q e = go (decided mark_decides q k)
  where
    go : Dec (q ≡ k) → updated same_mark k false (updated same_mark k true f) q ≡ false
    go (yes p) = put_same mark_decides k false (updated same_mark k true f) q p
    go (no n) = put_other mark_decides k false (updated same_mark k true f) q n ∙ (put_other mark_decides k true f q n ∙ e)

marks : WorkedMarks
marks = record {
  received_first = λ c r m w h s.
      rw (h plus, put_same mark_decides (marking c m minus) true w.marked (marking c m minus) refl) (put_and_removed (marking c m minus) w.marked (marking c m s) (h s));
  delivered_first = λ c r m w h s.
      rw (h minus, put_same mark_decides (marking c m plus) true w.marked (marking c m plus) refl) (put_and_removed (marking c m plus) w.marked (marking c m s) (h s));
}

pub worked_values : WorkedValues
worked_values = record { quorums = quorums; identifier = identifier; lengths = lengths; rings = rings; marks = marks }
