use Rattle.std.proofs.Common.{sym}
use Rattle.ti_c.specs.Entries.{bytes_held}
use Rattle.ti_c.specs.Encoding.{flag_given}
use Rattle.ti_c.proofs.GivenEntryLemmas.{given_marks}
use Rattle.ti_c.proofs.given_entry.GivenEntry.flags_in.Goals as goal

pub returns-in-Extended : goal.returns-in-Extended
returns-in-Extended c =
    let e = c.self.inside in
    rw (c.in-Extended.is, ← c.self.view_is) (sym (given_marks bytes_held flag_given e.flag_names.now e.extended_flags.now c.self.invariant.0))
