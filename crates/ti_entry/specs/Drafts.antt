-- A draft that grows by the capabilities of an entry.
use Rattle.std.specs.Prelude.{[], ◌∷◌}
use Rattle.ti_words.specs.Items.{ExtendedSubject, FlagItem, Listed, NumberItem, StandardSubject, TextItem}
use Rattle.ti_words.specs.Value.{EntryValue}
use Rattle.ti_draft.specs.Additions.{with_flags, with_numbers, with_extended_flags, with_extended_numbers, with_extended_texts, with_texts}

-- with one capability more, after the others of its kind and part
abbrev pub with_item : EntryValue → Listed → EntryValue
with_item v (StandardSubject kind index, FlagItem flag) = with_flags v (flag ∷ [])
with_item v (StandardSubject kind index, NumberItem number) = with_numbers v (number ∷ [])
with_item v (StandardSubject kind index, TextItem text) = with_texts v (text ∷ [])
with_item v (ExtendedSubject kind name, FlagItem flag) = with_extended_flags v ((name, flag) ∷ [])
with_item v (ExtendedSubject kind name, NumberItem number) = with_extended_numbers v ((name, number) ∷ [])
with_item v (ExtendedSubject kind name, TextItem text) = with_extended_texts v ((name, text) ∷ [])
