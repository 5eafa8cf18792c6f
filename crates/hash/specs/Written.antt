-- Bytes that are written over others.
use Rattle.std.specs.Prelude.{ℕ, ◌+◌, List, ◌++◌, length, take, drop}

-- the bytes of a buffer after those of `part` were written from the place `at` on
abbrev pub written : List ℕ → ℕ → List ℕ → List ℕ
written buffer at part = take at buffer ++ (part ++ drop (at + length part) buffer)
