use Rattle.std.proofs.Common.{sym}
use Rattle.ti_c.specs.Entries.{bytes_held}
use Rattle.ti_c.specs.Encoding.{number_given}
use Rattle.ti_c.proofs.GivenEntryLemmas.{given_marks}
use Rattle.ti_c.proofs.given_entry.GivenEntry.numbers_in.Goals as goal

pub returns-in-Extended : goal.returns-in-Extended
returns-in-Extended c =
    let e = c.self.inside in
    rw (c.in-Extended.is, ← c.self.view_is) (sym (given_marks bytes_held number_given e.number_names.now e.extended_numbers.now c.self.invariant.1))
