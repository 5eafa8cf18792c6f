use Rattle.std.proofs.Common.{map, ap, ◌∙◌}
use Rattle.books.specs.Counts.{counts}
use Rattle.books.specs.Listed.{lists, listed}
use Rattle.books.specs.Meaning.{record_row, mark_value, entry_value}
use Rattle.tables.specs.Within.{within}
use Rattle.tables.proofs.Cleared.{map_cleared, new_held, new_room, new_past}
use Rattle.tables.proofs.tables.Tables.new.Goals as goal

pub returns : goal.returns
returns c =
    let x = c.new in
    let y = c.new-2 in
    let z = c.new-3 in
    let rs = c.args.records.now in
    let ms = c.args.marks.now in
    let os = c.args.outgoing.now in
    let b = c.blank.result in
    let d = c.blank-2.result in
    let e = c.blank-3.result in
    record {
      meaning = λ i.
          listed
          (lists (new_held x.result b rs x.ensures.none x.ensures.memory i) (new_held y.result d ms y.ensures.none y.ensures.memory i) (new_held z.result e os z.ensures.none z.ensures.memory i))
          (within (counts (new_room x.result b rs x.ensures.none x.ensures.memory i) (new_room y.result d ms y.ensures.none y.ensures.memory i) (new_room z.result e os z.ensures.none z.ensures.memory i)));
      memory = λ i. record {
        records = (ap (map record_row) x.ensures.memory ∙ map_cleared record_row b _ rs c.blank.ensures) i;
        marks = (ap (map mark_value) y.ensures.memory ∙ map_cleared mark_value d _ ms c.blank-2.ensures) i;
        outgoing = (ap (map entry_value) z.ensures.memory ∙ map_cleared entry_value e _ os c.blank-3.ensures) i;
      };
      rest = λ i. lists (new_past x.result b rs x.ensures.none x.ensures.memory i) (new_past y.result d ms y.ensures.none y.ensures.memory i) (new_past z.result e os z.ensures.none z.ensures.memory i);
    }
