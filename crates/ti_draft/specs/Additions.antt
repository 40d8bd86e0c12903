-- Entries with more capabilities of one kind, after those that they have.
use Rattle.std.specs.Prelude.{ℕ, List, ◌++◌}
use Rattle.ti_words.specs.declared.Flag.{Flag}
use Rattle.ti_words.specs.declared.Number.{Number}
use Rattle.ti_words.specs.Texts.{TextValue}
use Rattle.ti_words.specs.Value.{EntryValue}

-- with more standard ones
abbrev pub with_flags : EntryValue → List Flag → EntryValue
with_flags v flags = record v { standard = record v.standard { flags = v.standard.flags ++ flags } }

abbrev pub with_numbers : EntryValue → List Number → EntryValue
with_numbers v numbers = record v { standard = record v.standard { numbers = v.standard.numbers ++ numbers } }

abbrev pub with_texts : EntryValue → List TextValue → EntryValue
with_texts v texts = record v { standard = record v.standard { texts = v.standard.texts ++ texts } }

-- with more that the entry names itself
abbrev pub with_extended_flags : EntryValue → List (List ℕ × Flag) → EntryValue
with_extended_flags v flags = record v { extended = record v.extended { flags = v.extended.flags ++ flags } }

abbrev pub with_extended_numbers : EntryValue → List (List ℕ × Number) → EntryValue
with_extended_numbers v numbers = record v { extended = record v.extended { numbers = v.extended.numbers ++ numbers } }

abbrev pub with_extended_texts : EntryValue → List (List ℕ × TextValue) → EntryValue
with_extended_texts v texts = record v { extended = record v.extended { texts = v.extended.texts ++ texts } }
