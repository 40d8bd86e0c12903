use Rattle.std.proofs.Common.{◌≡◌, ◌+◌, drop}
use Rattle.ti_line.specs.Fits.{first_word, first_word_from}
use Rattle.ti_tool.proofs.unfit.first_word.Given as goal

-- the first word is that of the parameters that are left
abbrev pub invariant-loop-i : goal.invariant-loop-i
invariant-loop-i l = first_word l.params ≡ first_word_from (l.i + 1) (drop l.i l.params)
