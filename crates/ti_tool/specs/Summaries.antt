-- When the line on how much `lint` looked at is written.
use Rattle.std.specs.Prelude.{◌≡◌, ◌⊎◌, ℕ, Bool, true, List, Option, Some, None}
use Rattle.ti_line.specs.declared.options.Document.TheVariants as documents
use Rattle.ti_line.specs.declared.request.Action.{Action}
use Rattle.ti_line.specs.declared.request.Action.TheVariants.{Entry}
use Rattle.ti_line.specs.declared.request.EntryAction.TheVariants as of_entry
use Rattle.ti_lint.specs.declared.lint_options.LintOptions.{LintOptions}
use Rattle.ti_tool.specs.FaultLines.{Told}
use Rattle.ti_tool.specs.Streams.{Streams}
use Rattle.ti_tool.specs.Voice.{IsPage}

-- `lint` has a summary, also as JSON
abbrev pub summary_of : Bool → Action → Option LintOptions
summary_of true (Entry (of_entry.Lint options color)) = Some options
summary_of true (Entry (of_entry.Json (documents.Findings options))) = Some options
summary_of wanted action = None

-- if it is wanted a page was written after all else, as a fault line is, or nothing
abbrev pub IsSummarized : Option LintOptions → Streams → Streams → Type 0
IsSummarized None before after = after ≡ before
IsSummarized (Some options) before after =
    (after ≡ before)
    ⊎ ((after.left ≡ before.left) × (after.held ≡ before.held)
    × ((page : List ℕ) × IsPage page × Told page before.told after.told))
