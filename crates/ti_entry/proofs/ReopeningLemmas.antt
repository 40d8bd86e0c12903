-- Where the parts of bytes that are an entry lie.
use Rattle.std.proofs.Common.{◌≡◌, ℕ, List, ap, ◌∙◌}
use Rattle.ti_layout.specs.Table.{base_of}
use Rattle.ti_layout.proofs.WordLemmas.{IsBytes}
use Rattle.ti_words.specs.Spelling.{Spells}
use Rattle.ti_words.specs.Value.{EntryValue}
use Rattle.ti_layout.specs.Content.{content, extended}
use Rattle.ti_entry.specs.Reading.{base_of_names}
use Rattle.ti_entry.proofs.NamedItemsLemmas.{base_named}
use Rattle.ti_entry.proofs.SpelledExtendedLemmas.{PartsFit, only}

-- what is known of bytes that spell an entry
pub record IsSpelledBy (bytes : List ℕ) (v : EntryValue) : Type 0 where
  pub parts : PartsFit bytes
  pub base : base_of_names v ≡ base_of bytes (extended bytes)
  pub same : v ≡ content bytes

pub spelled_by : (bytes : List ℕ) (v : EntryValue) → IsBytes bytes → Spells bytes v → IsSpelledBy bytes v
spelled_by bytes v fits s =
    let read = only bytes v s in
    record { parts = read.parts; base = ap base_of_names read.same ∙ base_named bytes (extended bytes); same = read.same }
