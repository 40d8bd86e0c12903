use Rattle.std.proofs.Common.{◌∙◌, ◌++◌, ap, refl, sym}
use Rattle.std.specs.Prelude.{codes}
use Rattle.clap.specs.Words.{found_of}
use Rattle.ti_line.specs.Requests.{texts_of}
use Rattle.ti_line.specs.inner.Matches.{given_rows}
use Rattle.ti_line.proofs.MatchesLemmas.{all_files, all_read, no_files, words_read}
use Rattle.ti_line.proofs.matches.files.Goals.{then-is_input, else-is_input}
use Rattle.ti_line.proofs.matches.files.Goals as goal

pub returns : goal.returns
returns c =
    let entry = ap (λ s. texts_of s.now) c.unwrap_or.ensures ∙ words_read (found_of c.args.given.now) (codes "ENTRY") c.get_strs.result _ refl c.get_strs.ensures in
    let words = ap (λ s. texts_of s.now) c.unwrap_or-2.ensures ∙ words_read (found_of c.args.given.now) (codes "FILE") c.get_strs-2.result _ refl c.get_strs-2.ensures in
    let items = c.in_ok-extend_from_slice-2.ensures.items ∙ ap (λ fs. fs ++ c.unwrap_or-2.result.now) (c.in_ok-extend_from_slice.ensures.items ∙ ap (λ fs. fs ++ c.unwrap_or.result.now) c.new-files.ensures.items) in
    let read = all_read (given_rows c.args.given.now) c.unwrap_or.result.now c.unwrap_or-2.result.now c.extend_from_slice-2.new.self.items items entry words in
    let action = ap texts_of c.as_slice.ensures.value ∙ read in
    elim c.if-is_input.branch [
      | then-is_input w ↦ no_files _ _ _ action (sym c.is_input.ensures ∙ w.if-is_input.true) (ap (λ fs. texts_of fs.items) w.files-is ∙ ap texts_of w.clear.ensures.items)
      | else-is_input w ↦ all_files _ _ _ action (sym c.is_input.ensures ∙ w.if-is_input.false) (ap (λ fs. texts_of fs.items) w.files-is ∙ sym (ap texts_of c.as_slice.ensures.value))
    ]
