use Rattle.std.proofs.Common.{sym, ap, length, ◌∙◌}
use Rattle.std.proofs.lemmas.List.{length-map}
use Rattle.ti_c.specs.Entries.{bytes_held}
use Rattle.ti_c.specs.Encoding.{text_given}
use Rattle.ti_c.proofs.GivenEntryLemmas.{given_marks}
use Rattle.ti_c.proofs.given_entry.GivenEntrySource.text_count.Goals as goal

pub returns-in-Extended : goal.returns-in-Extended
returns-in-Extended c =
    let e = c.self.inside in
    rw (c.in-Extended.is, ← c.self.view_is) (sym (ap length (given_marks bytes_held text_given e.text_names.now e.extended_texts.now c.self.invariant.2) ∙ length-map e.extended_texts.now text_given))
