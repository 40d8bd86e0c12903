-- What stands in the way of the end of a control sequence: a space or a minus among its numbers.
use Rattle.std.specs.Prelude.{◌==◌, ◌&&◌, ◌||◌, ℕ, Bool, false, List, [], ◌∷◌, codes, drop, if◌then◌else◌}
use Rattle.ti_base.specs.Letters.{letter}
use Rattle.ti_control.specs.Entries.{starts_introducer}
use Rattle.ti_values.specs.Sequences.{after, is_intermediate, is_parameter}
use Rattle.ti_rules.specs.declared.finding.Finding.{Finding}
use Rattle.ti_rules.specs.declared.finding.Finding.TheVariants.{SignedSequence, SignedText, SpacedSequence, SpacedText, UnendedSequence, UnendedText}

-- the bytes start with one
abbrev pub is_first : (ℕ → Bool) → List ℕ → Bool
is_first is [] = false
is_first is (byte ∷ rest) = is byte

-- after the numbers of a control sequence stands the byte, and after intermediate bytes a number again
abbrev pub is_split_by : ℕ → List ℕ → Bool
is_split_by byte bytes =
    is_first (λ b. b == byte) (after is_parameter bytes) && is_first is_parameter (after is_intermediate (after is_parameter bytes))

-- that is so of some `\E[`
unfoldable pub has_split_by : ℕ → List ℕ → Bool
has_split_by byte [] = false
has_split_by byte (first ∷ rest) =
    (starts_introducer (first ∷ rest) && is_split_by byte (drop 2 (first ∷ rest))) || has_split_by byte rest

-- which finding it is of what is sent, by the byte that stands there: a space, or a minus
abbrev pub sequence_finding : List ℕ → Finding
sequence_finding sent =
    if has_split_by (letter (codes " ")) sent then SpacedSequence
    else if has_split_by (letter (codes "-")) sent then SignedSequence else UnendedSequence

-- and of a text that is sent as it stands
abbrev pub text_finding : List ℕ → Finding
text_finding text =
    if has_split_by (letter (codes " ")) text then SpacedText
    else if has_split_by (letter (codes "-")) text then SignedText else UnendedText
