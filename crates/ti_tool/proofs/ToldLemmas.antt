-- What a writer took of a text.
use Rattle.std.proofs.Common.{◌<◌, ℕ, inl, inr, List, length, refl, take, Option}
use Rattle.std.specs.Prelude.{None, Some, Result, Ok, Err, IfErr, OnOk}
use Rattle.std.specs.Io.KnownBytes.{Appends}
use Rattle.ti_lint.specs.declared.lint_options.LintOptions.{LintOptions}
use Rattle.ti_tool.specs.FaultLines.{Told}
use Rattle.ti_tool.specs.Streams.{Streams}
use Rattle.ti_tool.specs.Summaries.{IsSummarized}

-- a text is told by writing it, whether or not the writer fails
pub told_by : (text : List ℕ) (a b : Option (List ℕ)) (r : Result (Unit {0}) ℕ) → OnOk r (Appends a b text) → IfErr r (λ gone. gone < length text)
    → IfErr r (λ gone. Appends a b (take gone text)) → Told text a b
told_by text a b (Ok u) whole short part = inl whole
told_by text a b (Err gone) whole short part = inr (gone, short, part)

-- nothing is told of a summary
pub unsummarized : (summary : Option LintOptions) (s : Streams) → IsSummarized summary s s
unsummarized None s = refl
unsummarized (Some options) s = inl refl
