use Rattle.std.proofs.Common.{subst}
use Rattle.ti_expand.proofs.StackHeightLemmas.{taken_path_is_meaning}
use Rattle.ti_expand.proofs.TakenIsPathLemmas.{taken_is_path}
use Rattle.ti_expand.specs.Meaning.{taken_path}
use Rattle.ti_expand.specs.State.{State, start}
use Rattle.ti_parser.specs.Paths.{IsOutputCovered}
use Rattle.ti_parser.proofs.laws.a_cover_covers_expansions.Goals as goal

pub returns : goal.returns
returns c = λ reading bytes ends functions cover tree writes variables parameters numbers texts.
    let s : State = start variables parameters in
    let P : State → Type 0 = λ x. IsOutputCovered reading ends functions x in
    subst P (taken_path_is_meaning tree s writes.formed) (cover tree (taken_path tree s) writes (taken_is_path tree s writes.formed) variables parameters numbers texts)
