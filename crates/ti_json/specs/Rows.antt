-- What is shown of an entry, one row after another. Lines and objects of JSON show the same rows.
use Rattle.std.specs.Prelude.{ℕ, ℤ, Bool, true, false, List, ◌∷◌, codes, map}
use Rattle.ti_words.specs.declared.Flag.TheVariants as flags
use Rattle.ti_words.specs.declared.Kind.{Kind}
use Rattle.ti_words.specs.declared.Kind.TheVariants as kinds
use Rattle.ti_words.specs.declared.Number.TheVariants as numbers
use Rattle.ti_words.specs.declared.Width.{Width}
use Rattle.ti_words.specs.Texts.{AbsentText, CancelledText, TextOf}
use Rattle.ti_words.specs.Items.{FlagItem, ItemValue, Listed, NumberItem, SubjectValue, TextItem, items, subject_value}
use Rattle.ti_words.specs.Value.{EntryValue}
use Rattle.ti_cap.specs.declared.language.CapRefused.{CapRefused}
use Rattle.ti_json.specs.declared.row.Content.{Content}
use Rattle.ti_json.specs.declared.row.Content.TheVariants as contents
use Rattle.ti_json.specs.declared.row.Topic.{Topic}
use Rattle.ti_json.specs.declared.row.Topic.TheVariants as topics
use Rattle.ti_json.specs.declared.row.ValueState.{ValueState}
use Rattle.ti_json.specs.declared.row.ValueState.TheVariants as states

-- what a row is about
pub data TopicValue : Type 0 where
  OfFormat : TopicValue
  OfNames : TopicValue
  OfCapability : SubjectValue → TopicValue

-- what it says of that: a state in place of a value, a value, or what analysis finds of a text
pub data ContentValue : Type 0 where
  InState : ValueState → ContentValue
  IsSet : ContentValue
  HasNumber : ℤ → ContentValue
  HasFormat : Width → ContentValue
  HasNames : List ℕ → ContentValue
  HasText : List ℕ → ContentValue
  HasLimits : ℕ → ℕ → ContentValue
  HasFault : CapRefused → ContentValue

abbrev pub RowValue : Type 0
RowValue = TopicValue × ContentValue

abbrev pub kind_word : Kind → List ℕ
kind_word kinds.Flag = codes "flag"
kind_word kinds.Number = codes "number"
kind_word kinds.Text = codes "text"

abbrev pub state_word : ValueState → List ℕ
state_word states.Absent = codes "absent"
state_word states.Cancelled = codes "cancelled"
state_word states.Missing = codes "missing"

-- what an entry has of a capability
abbrev pub content_of : ItemValue → ContentValue
content_of (FlagItem flags.No) = InState states.Absent
content_of (FlagItem flags.Yes) = IsSet
content_of (FlagItem flags.Cancelled) = InState states.Cancelled
content_of (FlagItem flags.Missing) = InState states.Missing
content_of (NumberItem numbers.Absent) = InState states.Absent
content_of (NumberItem numbers.Cancelled) = InState states.Cancelled
content_of (NumberItem (numbers.Value n)) = HasNumber n
content_of (TextItem AbsentText) = InState states.Absent
content_of (TextItem CancelledText) = InState states.Cancelled
content_of (TextItem (TextOf bytes)) = HasText bytes

-- whether an entry does not have it
abbrev pub is_absent : ContentValue → Bool
is_absent (InState states.Absent) = true
is_absent content = false

abbrev pub capability_row : Listed → RowValue
capability_row (subject, item) = (OfCapability subject, content_of item)

-- the format and the names, and then the capabilities
abbrev pub entry_rows : EntryValue → List RowValue
entry_rows v = (OfFormat, HasFormat v.width) ∷ (OfNames, HasNames v.names) ∷ map capability_row (items v)

-- ---- as a caller sees them

abbrev pub topic_value : Topic → TopicValue
topic_value topics.Format = OfFormat
topic_value topics.Names = OfNames
topic_value (topics.Capability subject) = OfCapability (subject_value subject)

abbrev pub content_value : Content → ContentValue
content_value (contents.State state) = InState state
content_value contents.Set = IsSet
content_value (contents.Number n) = HasNumber n
content_value (contents.Format width) = HasFormat width
content_value (contents.Names names) = HasNames names.now
content_value (contents.Text text) = HasText text.now
content_value (contents.Limits depth bound) = HasLimits depth bound
content_value (contents.Fault refused) = HasFault refused
