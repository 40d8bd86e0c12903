-- The texts of an entry: what they are, and what they are called in findings.
use Rattle.std.specs.Prelude.{ℕ, Bool, true, false, List, [], ◌∷◌, Option, Some, None}
use Rattle.std.specs.List.{flat_map}
use Rattle.ti_words.specs.Items.{ExtendedSubject, Listed, StandardSubject, SubjectValue, items, text_in}
use Rattle.ti_words.specs.Value.{EntryValue}
use Rattle.ti_names.specs.declared.class.Class.{Class}
use Rattle.ti_names.specs.NameLists.{class_at}
use Rattle.ti_lint.specs.ExtendedClasses.{extended_class}
use Rattle.ti_rules.specs.Pairs.{standard_label}

-- what a text is: one of terminfo(5) by its index, and another by its name, if it is known
abbrev pub subject_class : SubjectValue → Option Class
subject_class (StandardSubject kind index) = class_at index
subject_class (ExtendedSubject kind name) = extended_class name

abbrev pub subject_name : SubjectValue → List ℕ
subject_name (StandardSubject kind index) = standard_label index
subject_name (ExtendedSubject kind name) = name

abbrev pub is_standard : SubjectValue → Bool
is_standard (StandardSubject kind index) = true
is_standard (ExtendedSubject kind name) = false

-- a text that is there and of which it is known what it is: its name, its bytes, and whether it is one of terminfo(5)
pub record KnownText : Type 0 where
  pub name : List ℕ
  pub text : List ℕ
  pub class : Class
  pub standard : Bool

abbrev pub known_as : SubjectValue → Option Class → Option (List ℕ) → List KnownText
known_as subject (Some class) (Some text) =
    record { name = subject_name subject; text = text; class = class; standard = is_standard subject } ∷ []
known_as subject class text = []

abbrev pub known_text : Listed → List KnownText
known_text (subject, item) = known_as subject (subject_class subject) (text_in item)

-- those of an entry, in the order of its capabilities
abbrev pub known_texts : EntryValue → List KnownText
known_texts v = flat_map known_text (items v)

-- a text that is there and of which it is not known what it is: its name and its bytes
pub record UnknownText : Type 0 where
  pub name : List ℕ
  pub text : List ℕ

abbrev pub unknown_as : SubjectValue → Option Class → Option (List ℕ) → List UnknownText
unknown_as subject None (Some text) = record { name = subject_name subject; text = text } ∷ []
unknown_as subject class text = []

abbrev pub unknown_text : Listed → List UnknownText
unknown_text (subject, item) = unknown_as subject (subject_class subject) (text_in item)

-- those of an entry, in the same order
abbrev pub unknown_texts : EntryValue → List UnknownText
unknown_texts v = flat_map unknown_text (items v)
