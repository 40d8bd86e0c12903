use Rattle.std.proofs.Common.{◌≡◌, ◌+◌, ◌*◌, ◌++◌, false, length, take, drop}
use Rattle.std.specs.List.{list_any}
use Rattle.ti_words.specs.Spelling.{numbers_of}
use Rattle.ti_words.specs.Widths.{number_size}
use Rattle.ti_draft.specs.EncodeFaults.{is_out_of_range}
use Rattle.ti_draft.specs.Sources.{listed}
use Rattle.ti_draft.proofs.put.put_numbers.Given as goal

abbrev pub invariant-loop-i : goal.invariant-loop-i
invariant-loop-i g l =
    let numbers = (listed (g.S.Source.entry l.source) l.part).numbers in
    record {
      joined : take l.end l.out ++ numbers_of l.width (drop l.i numbers) ≡ take l.at l.initial.out ++ numbers_of l.width numbers;
      counted : l.end + length (drop l.i numbers) * number_size l.width ≡ l.at + length numbers * number_size l.width;
      fit : list_any (is_out_of_range l.width) (drop l.i numbers) ≡ false;
    }
