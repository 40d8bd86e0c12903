-- What is known of the streams of a run, and of the files that words name.
use Rattle.std.specs.Prelude.{◌≡◌, ℕ, ◌+◌, Bool, false, List, [], ◌∷◌, ◌++◌, Option, None, IfSome, take}
use Rattle.std.specs.Io.KnownBytes.{Consumes}
use Rattle.ti_base.specs.Limits.{most_entry_bytes}

-- ---- the streams

-- what is known of the bytes that a reader has left, or that a writer holds
abbrev pub Stream : Type 0
Stream = Option (List ℕ)

-- standard input, the results and the lines on faults
pub record Streams : Type 0 where
  pub left : Stream
  pub held : Stream
  pub told : Stream

abbrev pub streams : Stream → Stream → Stream → Streams
streams left held told = record { left = left; held = held; told = told }

-- ---- files

-- a file that is found, and whether the system is known not to give it
pub record FileName : Type 0 where
  pub name : List ℕ
  pub is_refused : Bool

abbrev pub file_name : List ℕ → Bool → FileName
file_name name refused = record { name = name; is_refused = refused }

-- the files that a word names: the one, or those below a folder
pub record Lookup : Type 0 where
  pub is_folder : Bool
  pub files : List FileName

abbrev pub lookup : Bool → List FileName → Lookup
lookup folder files = record { is_folder = folder; files = files }

-- a file of this name
abbrev pub IsOne : List ℕ → Bool → Lookup → Type 0
IsOne word refused found = (found.is_folder ≡ false) × (found.files ≡ file_name word refused ∷ [])

-- what is known of files: which a word names, and what one holds
pub record KnownFiles : Type 0 where
  pub found : List ℕ → Option Lookup
  pub contents : List ℕ → Stream

-- nothing
abbrev pub unknown_files : KnownFiles
unknown_files = record { found = λ word. None; contents = λ name. None }

-- the files are those that are known
abbrev pub AreFound : Option Lookup → Lookup → Type 0
AreFound known found = IfSome known (λ all. (found.is_folder ≡ all.is_folder) × (found.files ≡ all.files))

-- ---- contents

-- one byte more than an entry can have
abbrev pub most_contents : ℕ
most_contents = most_entry_bytes + 1

-- bytes are the contents that are read of a source with these left
abbrev pub AreContents : Stream → List ℕ → Type 0
AreContents left bytes = IfSome left (λ all. bytes ≡ take most_contents all)

-- they are read from a source, which loses them
abbrev pub Gives : Stream → Stream → List ℕ → Type 0
Gives before after bytes = AreContents before bytes × Consumes before after bytes

-- they are appended
abbrev pub AreAppended : (List ℕ → Type 0) → List ℕ → List ℕ → Type 0
AreAppended bytes_are old new = (bytes : List ℕ) × bytes_are bytes × (new ≡ old ++ bytes)
