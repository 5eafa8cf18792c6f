use Rattle.std.proofs.Common.{◌^◌, ◌<◌, take}
use Rattle.std.specs.List.{flat_map, AllByRecursion}
use Rattle.format.specs.Layout.{number_len}
use Rattle.format.specs.Numbers.{to_bytes}
use Rattle.format.specs.Writing.{Wrote}
use Rattle.format.proofs.writing.write_numbers.Given as goal

abbrev pub invariant-loop-number : goal.invariant-loop-number
invariant-loop-number l =
    Wrote l.initial.buffer l.from (flat_map (to_bytes number_len) (take l.number-index l.numbers)) l.buffer l.at
    × AllByRecursion (λ n. n < 256 ^ number_len) (take l.number-index l.numbers)
