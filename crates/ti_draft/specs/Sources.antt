-- The lists of an entry that is to be written: each part, and the names of the extended part, which are written as texts.
use Rattle.std.specs.Prelude.{[], map}
use Rattle.ti_words.specs.Texts.{TextOf}
use Rattle.ti_words.specs.Value.{PartValue, EntryValue}
use Rattle.ti_words.specs.Spelling.{without_names, part_names}
use Rattle.ti_draft.specs.declared.source.Part.{Part}
use Rattle.ti_draft.specs.declared.source.Part.TheVariants.{Standard, Extended, Names}

abbrev pub listed : EntryValue → Part → PartValue
listed v Standard = v.standard
listed v Extended = without_names v.extended
listed v Names = record { flags = []; numbers = []; texts = map TextOf (part_names v.extended) }
