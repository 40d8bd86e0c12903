use Rattle.std.proofs.Common.{◌∙◌, List, ap, refl, subst}
use Rattle.std.specs.Prelude.{MatchResult, codes}
use Rattle.clap.specs.Words.{Text, found_of}
use Rattle.ti_line.specs.Params.{AreParams, IsParam}
use Rattle.ti_line.specs.Requests.{MeanNone, texts_of}
use Rattle.ti_line.proofs.AreParamsLemmas.{params_or_none}
use Rattle.ti_line.proofs.MatchesLemmas.{words_read}
use Rattle.ti_line.proofs.matches.parameters.Goals as goal

pub returns : goal.returns
returns c =
    let read = words_read (found_of c.args.given.now) (codes "PARAM") c.get_strs.result _ refl c.get_strs.ensures in
    let P : List Text → Type 0 = λ words. MatchResult c.read_params.result (AreParams words) (MeanNone IsParam AreParams words) in
    subst P (ap (λ s. texts_of s.now) c.unwrap_or.ensures ∙ read)
    (params_or_none _ IsParam _ AreParams c.unwrap_or.result.now c.read_params.result c.read_params.ensures.values c.read_params.ensures.many c.read_params.ensures.bad)
