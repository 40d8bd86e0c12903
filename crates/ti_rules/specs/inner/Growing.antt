-- A report as its rules add to it.
use Rattle.std.specs.Prelude.{◌≡◌, ℕ, List, ◌++◌}
use Rattle.ti_words.specs.Value.{EntryValue}
use Rattle.ti_lint.specs.declared.lint_options.LintOptions.{LintOptions}
use Rattle.ti_rules.specs.Lines.{Adds}
use Rattle.ti_rules.specs.Remarks.{Remark}

-- the entry, the bytes that it was read from, and what is looked for
pub record Examined : Type 0 where
  pub bytes : List ℕ
  pub entry : EntryValue
  pub options : LintOptions

-- what the report is on, and the remarks so far
pub record Report : Type 0 where
  pub on : Examined
  pub remarks : List Remark

-- the report on the same has some of a kind more
abbrev pub Gains : (List Remark → Type 0) → Report → Report → Type 0
Gains Are old new = (new.on ≡ old.on) × Adds Are old.remarks new.remarks

-- it has these more
abbrev pub GainsThese : List Remark → Report → Report → Type 0
GainsThese remarks old new = (new.on ≡ old.on) × (new.remarks ≡ old.remarks ++ remarks)
