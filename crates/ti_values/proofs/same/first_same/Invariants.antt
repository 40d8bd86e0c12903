-- The map has the texts so far, each with its place.
use Rattle.std.proofs.Common.{nat_cmp}
use Rattle.std.specs.BTreeMap.{get_by}
use Rattle.std.specs.Cmp.Lexicographic.{slice_cmp}
use Rattle.ti_values.specs.Sent.{texts_of}
use Rattle.ti_values.proofs.SameLemmas.{FindsEarlier}
use Rattle.ti_values.proofs.same.first_same.Given as goal

abbrev pub invariant-values : goal.invariant-values
invariant-values g l = FindsEarlier (texts_of l.sent) l.other (λ text. get_by (λ k. slice_cmp nat_cmp text k.now) l.earlier)
