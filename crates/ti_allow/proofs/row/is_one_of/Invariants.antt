-- None of the names so far is the one that is sought.
use Rattle.std.proofs.Common.{◌≡◌, drop}
use Rattle.ti_allow.specs.Rows.{is_one_of, texts_of}
use Rattle.ti_allow.proofs.row.is_one_of.Given as goal

abbrev pub invariant-names : goal.invariant-names
invariant-names l = is_one_of (texts_of (drop l.known-index l.names)) l.name ≡ is_one_of (texts_of l.names) l.name
