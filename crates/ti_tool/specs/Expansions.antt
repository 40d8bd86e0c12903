-- What a capability writes, expanded and padded.
use Rattle.std.specs.Prelude.{◌≡◌, ◌≤◌, ◌<◌, ℕ, length, List, Result, Ok, Err, pos, replicate}
use Rattle.ti_base.specs.Limits.{most_padded_bytes}
use Rattle.ti_cap.specs.Tree.{Sequence}
use Rattle.ti_cap.specs.Spelling.{Writes}
use Rattle.ti_cap.specs.Refusal.{IsRefusal, IsFaultless}
use Rattle.ti_expand.specs.declared.values.Value.{Value}
use Rattle.ti_expand.specs.State.{start}
use Rattle.ti_expand.specs.Meaning.{meaning}
use Rattle.ti_expand.specs.Expands.{IsFirstTooLong}
use Rattle.ti_pad.specs.Setting.{Setting}
use Rattle.ti_pad.specs.Padded.{padded_text}
use Rattle.ti_line.specs.declared.options.Output.{Output}
use Rattle.ti_line.specs.Options.{output_bytes}
use Rattle.ti_tool.specs.declared.fault.ToolFault.{ToolFault}
use Rattle.ti_tool.specs.declared.fault.ToolFault.TheVariants as fault

-- the bytes that a capability writes with these parameters, if each variable starts as 0
pub record IsExpansion (capability : List ℕ) (parameters : List Value) (out : List ℕ) : Type 0 where
  pub tree : Sequence
  pub writes : Writes tree capability
  pub short : (k : ℕ) → ¬ IsFirstTooLong parameters k
  pub is : out ≡ (meaning tree (start (replicate 52 (pos 0)) parameters)).output

-- why a capability is not expanded
abbrev pub IsUnexpanded : List ℕ → List Value → ToolFault → Type 0
IsUnexpanded capability parameters (fault.Cap refused) = IsRefusal capability refused
IsUnexpanded capability parameters (fault.TextTooLong k) =
    IsFaultless capability × IsFirstTooLong parameters k
IsUnexpanded capability parameters _ = ⊥

-- a text of an entry, expanded and then padded, or the first fault
abbrev pub IsPadded : List ℕ → List Value → Setting → Output → Result (List ℕ) ToolFault → Type 0
IsPadded text parameters setting output (Ok out) =
    (plain : List ℕ) × IsFaultless text × IsExpansion text parameters plain
    × (length (padded_text plain setting) ≤ most_padded_bytes)
    × (out ≡ output_bytes output (padded_text plain setting))
IsPadded text parameters setting output (Err (fault.TooMuch need)) =
    (plain : List ℕ) × IsFaultless text × IsExpansion text parameters plain
    × (need ≡ length (padded_text plain setting)) × (most_padded_bytes < need)
IsPadded text parameters setting output (Err e) = IsUnexpanded text parameters e
