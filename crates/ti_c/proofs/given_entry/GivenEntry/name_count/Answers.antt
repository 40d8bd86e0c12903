use Rattle.std.proofs.lemmas.List.{length-append, length-map}
use Rattle.ti_c.specs.Entries.{bytes_held}
use Rattle.ti_c.specs.Encoding.{flag_given, number_given, text_given}
use Rattle.ti_c.proofs.GivenEntryLemmas.{given_names}
use Rattle.ti_c.proofs.given_entry.GivenEntry.name_count.Goals as goal

pub returns : goal.returns
returns c =
    let e = c.self.inside in
    let flags = given_names bytes_held flag_given e.flag_names.now e.extended_flags.now c.self.invariant.0 in
    let numbers = given_names bytes_held number_given e.number_names.now e.extended_numbers.now c.self.invariant.1 in
    let texts = given_names bytes_held text_given e.text_names.now e.extended_texts.now c.self.invariant.2 in
    rw (← c.self.view_is, flags, numbers, texts) (simp (length-append, length-map))
