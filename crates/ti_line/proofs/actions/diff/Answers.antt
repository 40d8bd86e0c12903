use Rattle.std.proofs.Common.{◌∙◌, ap, is_some, refl, sym}
use Rattle.std.specs.Prelude.{codes, option_map}
use Rattle.clap.specs.Words.{found_of}
use Rattle.ti_line.specs.Options.{comparison_of, likeness_of}
use Rattle.ti_line.specs.Requests.{compared, is_input_twice, is_json, texts_of}
use Rattle.ti_line.specs.inner.Matches.{given_rows}
use Rattle.ti_line.proofs.MatchesLemmas.{words_read}
use Rattle.ti_line.proofs.actions.diff.Goals as goal

pub returns-then-is_input_twice : goal.returns-then-is_input_twice
returns-then-is_input_twice c =
    let read = ap (λ s. texts_of s.now) c.unwrap_or-words.ensures ∙ words_read (found_of c.args.given.now) (codes "FILE") c.get_strs.result _ refl c.get_strs.ensures in
    (ap is_some c.in_ok-color.ensures, ap is_input_twice (sym read) ∙ sym c.is_input_twice.ensures ∙ c.if-is_input_twice.true)

pub returns-in-Some : goal.returns-in-Some
returns-in-Some c =
    let read = ap (λ s. texts_of s.now) c.unwrap_or-words.ensures ∙ words_read (found_of c.args.given.now) (codes "FILE") c.get_strs.result _ refl c.get_strs.ensures in (
      ap is_input_twice (sym read) ∙ sym c.is_input_twice.ensures ∙ c.if-is_input_twice.false,
      (
        c.in-Some.pair,
        refl,
        ap compared (sym read) ∙ sym c.pair.ensures.files ∙ ap (option_map (λ d. (d.file.now, d.other.now))) c.in-Some.is,
        c.in-Some.ensures.likeness ∙ c.likeness_of-likeness.ensures ∙ ap likeness_of c.flag-2.ensures,
        (
          c.in_ok-color.field-0,
          c.in_ok-color.ensures,
          c.in-Some.ensures.form ∙ c.comparison_of-form.ensures ∙ ap (λ json. comparison_of json c.is_terminal.result c.in_ok-color.field-0) c.flag.ensures
              ∙ ap (λ terminal. comparison_of (is_json (given_rows c.args.given.now)) terminal c.in_ok-color.field-0) c.is_terminal.ensures,
        ),
      ),
    )

pub returns-in-None : goal.returns-in-None
returns-in-None c =
    let read = ap (λ s. texts_of s.now) c.unwrap_or-words.ensures ∙ words_read (found_of c.args.given.now) (codes "FILE") c.get_strs.result _ refl c.get_strs.ensures in
    (ap is_some c.in_ok-color.ensures, ap compared (sym read) ∙ sym c.pair.ensures.files ∙ ap (option_map (λ d. (d.file.now, d.other.now))) c.in-None.is)
