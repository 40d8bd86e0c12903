use Rattle.std.proofs.Common.{◌≡◌, take, length, ◌≤◌}
use Rattle.ti_line.specs.Params.{Stand}
use Rattle.ti_line.specs.Requests.{texts_of}
use Rattle.ti_line.proofs.params.read_all.Given as goal

abbrev pub invariant-loop-i : goal.invariant-loop-i
invariant-loop-i g l = record {
  stand : Stand g.V.FromWord.means l.fn.missing (texts_of (take l.i l.words)) l.values;
  few : length l.words ≤ 9;
  nine : length l.values ≡ 9;
}
