-- The rows so far go on to all rows, and the last judgement is that on the last text.
use Rattle.std.proofs.Common.{◌≡◌, List, length}
use Rattle.ti_json.specs.Rows.{RowValue, content_value}
use Rattle.ti_words.specs.Items.{items}
use Rattle.ti_tool.specs.Verdicts.{IsJudged, are_sound, written}
use Rattle.ti_tool.proofs.RowsLemmas.{GoesOn}
use Rattle.ti_tool.proofs.command.check.write_verdicts.Given as goal

abbrev pub invariant-items : goal.invariant-items
invariant-items g l = record {
  rows : (rows : List RowValue) × GoesOn (items l.entry) l.items rows × (l.are_sound ≡ are_sound (written l.which rows));
  judged : IsJudged l.last.text.now (content_value l.last.content);
}

abbrev pub decreases-items : goal.decreases-items
decreases-items g l = length l.items
