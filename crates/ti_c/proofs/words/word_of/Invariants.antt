use Rattle.std.proofs.Common.{◌≡◌, map, nat_eq, drop}
use Rattle.std.specs.Map.{lookup}
use Rattle.ti_c.specs.inner.WordRows.{row_of, word_rows}
use Rattle.ti_c.proofs.words.word_of.Given as goal

-- what is left has the word that all have
abbrev pub invariant-loop-row : goal.invariant-loop-row
invariant-loop-row l = lookup (nat_eq l.number) (map row_of (drop l.row-index l.row-items)) ≡ lookup (nat_eq l.number) word_rows
