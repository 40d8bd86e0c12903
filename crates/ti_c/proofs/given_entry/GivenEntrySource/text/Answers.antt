use Rattle.std.proofs.Common.{get_or, sym, ap, ◌∙◌}
use Rattle.ti_words.specs.Texts.{AbsentText}
use Rattle.ti_c.specs.Entries.{bytes_held}
use Rattle.ti_c.specs.Encoding.{text_given}
use Rattle.ti_c.proofs.GivenEntryLemmas.{given_marks}
use Rattle.ti_c.proofs.given_entry.GivenEntrySource.text.Goals as goal

pub returns-in-Extended : goal.returns-in-Extended
returns-in-Extended c =
    let e = c.self.inside in
    rw (c.in-Extended.is, ← c.self.view_is) (c.text_at-in-Extended.ensures ∙ ap (λ l. get_or l c.args.index AbsentText) (sym (given_marks bytes_held text_given e.text_names.now e.extended_texts.now c.self.invariant.2)))
