-- Keys of which one sends the first part of what another one sends.
use Rattle.std.specs.Prelude.{◌==◌, not, ◌≡◌, ◌&&◌, ℕ, Bool, true, false, Option, Some, None, List, [], ◌∷◌, ◌++◌, find, if◌then◌else◌, length, nat_eq, nat_lt}
use Rattle.std.specs.Str.{bytes_eq}
use Rattle.std.specs.Cmp.Lexicographic.{slice_cmp}
use Rattle.std.specs.List.{flat_map, starts_with}
use Rattle.std.specs.List.Sorted.{IsPermutation, IsSorted}
use Rattle.std.specs.Ordering.{nat_cmp, ordering_then}
use Rattle.std.specs.declared.cmp.Ordering.{Ordering}
use Rattle.ti_words.specs.Value.{EntryValue}
use Rattle.ti_names.specs.declared.class.Class.{Class}
use Rattle.ti_names.specs.declared.class.Class.TheVariants as classes
use Rattle.ti_rules.specs.declared.finding.Finding.{Finding}
use Rattle.ti_rules.specs.declared.finding.Finding.TheVariants as findings
use Rattle.ti_rules.specs.Subjects.{KnownText, known_texts}
use Rattle.ti_rules.specs.Remarks.{NoEvidence, OfTwo, Remark, unmarked}

-- what a key sends, and its name; an empty text is reported by itself
abbrev pub Key : Type 0
Key = List ℕ × List ℕ

abbrev pub is_of_key : Class → Bool
is_of_key classes.Key = true
is_of_key class = false

abbrev pub keys_in : KnownText → List Key
keys_in t = if is_of_key t.class && not (length t.text == 0) then (t.text, t.name) ∷ [] else []

-- the keys of an entry, in the order of its capabilities
abbrev pub entry_keys : EntryValue → List Key
entry_keys v = flat_map keys_in (known_texts v)

-- the order of the bytes that they send, and then of their names
abbrev pub key_cmp : Key → Key → Ordering
key_cmp (text, name) (other, its) = ordering_then (slice_cmp nat_cmp text other) (slice_cmp nat_cmp name its)

-- the one is the first part of the other, and shorter
abbrev pub is_first_part : List ℕ → List ℕ → Bool
is_first_part text other = nat_lt (length text) (length other) && starts_with nat_eq other text

abbrev pub on_two : Key → Key → Finding → List Remark
on_two (text, name) (other, its) finding = unmarked (OfTwo name text its other) finding NoEvidence

-- of some keys, the first that sends a text, and the first that sends more and starts with it
abbrev pub alike_key : List ℕ → List Key → Option Key
alike_key text keys = find (λ other. bytes_eq text other.0) keys

abbrev pub longer_key : List ℕ → List Key → Option Key
longer_key text keys = find (λ other. is_first_part text other.0) keys

-- keys that send the same
abbrev pub on_alike : Key → Key → List Remark
on_alike one other = on_two one other findings.AlikeKeys

abbrev pub on_longer : Key → Option Key → List Remark
on_longer one None = []
on_longer one (Some other) = on_two one other findings.KeyPrefix

-- a key beside the next one that sends the same, or else beside the first of all keys that sends more
abbrev pub on_key : List Key → Key → Option Key → List Remark
on_key all one (Some other) = on_alike one other
on_key all one None = on_longer one (longer_key one.0 all)

-- the remarks on some of all keys
abbrev pub on_keys : List Key → List Key → List Remark
on_keys all [] = []
on_keys all (one ∷ rest) = on_key all one (alike_key one.0 rest) ++ on_keys all rest

-- The keys in order. What one sends is told, once, exactly if it is the first part of what another one sends.
pub record AreRemarksOnKeys (keys : List Key) (remarks : List Remark) : Type 0 where
  pub row : List Key
  pub same : IsPermutation keys row
  pub ascends : IsSorted key_cmp row
  pub remarks_are : remarks ≡ on_keys row row

abbrev pub AreKeyRemarks : EntryValue → List Remark → Type 0
AreKeyRemarks v = AreRemarksOnKeys (entry_keys v)
