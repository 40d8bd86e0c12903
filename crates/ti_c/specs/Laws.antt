-- What holds of writing for C.
use Rattle.std.specs.Prelude.{ℕ, List}
use Rattle.ti_draft.specs.EncodeFaults.{IsEncodingOf}
use Rattle.ti_c.specs.declared.entry.Arrays.{Arrays}
use Rattle.ti_c.specs.declared.entry.EntryCounts.{EntryCounts}
use Rattle.ti_c.specs.Encoding.{AreItemsOf, entry_given}
use Rattle.ti_c.specs.Entries.{ForEntry}

-- arrays into which an entry was read are written, with numbers as wide: then they start with the items of what these bytes spell
abbrev pub WrittenIsRead : Type 0
WrittenIsRead = (arrays : Arrays) (counts : EntryCounts) (bytes written : List ℕ)
    → ForEntry bytes (λ v. AreItemsOf arrays counts v → IsEncodingOf (entry_given arrays counts counts.number_bits) written → ForEntry written (AreItemsOf arrays counts))
