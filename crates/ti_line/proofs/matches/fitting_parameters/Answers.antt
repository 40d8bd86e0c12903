use Rattle.std.proofs.Common.{◌∙◌, Option, ap, inr, length, refl, subst, sym}
use Rattle.std.specs.Prelude.{codes}
use Rattle.std.proofs.lemmas.List.{length-map}
use Rattle.clap.specs.Words.{found_of}
use Rattle.ti_line.specs.CommandLine.{params_in}
use Rattle.ti_line.specs.Fits.{Fit, IsMisfit}
use Rattle.ti_line.specs.Params.{IsGivenBy}
use Rattle.ti_line.specs.Requests.{texts_of}
use Rattle.ti_line.specs.declared.given.Given.{Given}
use Rattle.ti_line.specs.inner.Matches.{given_rows}
use Rattle.ti_line.proofs.MatchesLemmas.{refused_by, words_read}
use Rattle.ti_line.proofs.matches.fitting_parameters.Goals as goal

pub returns-in_err-fit-in-Some : goal.returns-in_err-fit-in-Some
returns-in_err-fit-in-Some c =
    let words = params_in (given_rows c.args.given.now) in
    let read = ap (λ s. texts_of s.now) c.unwrap_or-words.ensures ∙ words_read (found_of c.args.given.now) (codes "PARAM") c.get_strs.result _ refl c.get_strs.ensures in
    let P : Option Given → Type 0 = λ given. IsGivenBy words given in
    let why = c.in_err-fit-in-Some.field-0.0 in
    refused_by c.from_residual-in_err-fit-in-Some.result _ _ why c.from_residual-in_err-fit-in-Some.ensures.1 (inr (
      c.in-Some.parameters,
      subst P c.in-Some.is c.in_ok-parameters.ensures,
      subst (λ n. IsMisfit c.args.name.now n c.in-Some.parameters.params why) (sym (length-map c.unwrap_or-words.result.now (λ w. w.now)) ∙ ap length read) c.in_err-fit-in-Some.ensures,
    ))

pub returns-in_ok-fit-in-Some : goal.returns-in_ok-fit-in-Some
returns-in_ok-fit-in-Some c =
    let words = params_in (given_rows c.args.given.now) in
    let read = ap (λ s. texts_of s.now) c.unwrap_or-words.ensures ∙ words_read (found_of c.args.given.now) (codes "PARAM") c.get_strs.result _ refl c.get_strs.ensures in
    let P : Option Given → Type 0 = λ given. IsGivenBy words given in (
      subst P c.in-Some.is c.in_ok-parameters.ensures,
      subst (λ n. Fit c.args.name.now n c.in-Some.parameters.params) (sym (length-map c.unwrap_or-words.result.now (λ w. w.now)) ∙ ap length read) c.in_ok-fit-in-Some.ensures,
    )
