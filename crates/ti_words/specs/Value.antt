-- What an entry says, without where its bytes lie.
use Rattle.std.specs.Prelude.{ℕ, List, []}
use Rattle.ti_words.specs.declared.Flag.{Flag}
use Rattle.ti_words.specs.declared.Number.{Number}
use Rattle.ti_words.specs.declared.Width.{Width}
use Rattle.ti_words.specs.Texts.{TextValue}

-- what a part says: its capabilities of each kind, by their index
pub record PartValue : Type 0 where
  pub flags : List Flag
  pub numbers : List Number
  pub texts : List TextValue

-- the same of a part whose capabilities have names of their own
pub record NamedPart : Type 0 where
  pub flags : List (List ℕ × Flag)
  pub numbers : List (List ℕ × Number)
  pub texts : List (List ℕ × TextValue)

-- an entry without an extended part has one without capabilities
pub record EntryValue : Type 0 where
  pub width : Width
  pub names : List ℕ
  pub standard : PartValue
  pub extended : NamedPart

abbrev pub no_values : PartValue
no_values = record { flags = []; numbers = []; texts = [] }

abbrev pub no_named : NamedPart
no_named = record { flags = []; numbers = []; texts = [] }

-- an entry with names and nothing else
abbrev pub bare : Width → List ℕ → EntryValue
bare width names = record { width = width; names = names; standard = no_values; extended = no_named }
