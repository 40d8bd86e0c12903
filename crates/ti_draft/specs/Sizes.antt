-- The sizes of a draft, found once.
-- Only private functions of the crate cite this.
use Rattle.std.specs.Prelude.{◌≡◌, length}
use Rattle.ti_words.specs.Value.{EntryValue}
use Rattle.ti_draft.specs.declared.size.Sizes.{Sizes}
use Rattle.ti_draft.specs.Canonical.{canonical, standard_strings, extended_strings}
use Rattle.ti_draft.specs.Lengths.{capped_count}

-- the sizes of the tables of an entry, and of its canonical bytes
pub record AreSizes (sizes : Sizes) (v : EntryValue) : Type 0 where
  pub table : sizes.table ≡ capped_count (length (standard_strings v).table)
  pub extended_table : sizes.extended_table ≡ capped_count (length (extended_strings v).table)
  pub entry : sizes.entry ≡ capped_count (length (canonical v))
