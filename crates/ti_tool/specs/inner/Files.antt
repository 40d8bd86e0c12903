-- How a file ends, and what is done with each.
use Rattle.std.specs.Prelude.{◌≡◌, ◌≢◌, ◌<◌, ◌≤◌, ℕ, List, []}
use Rattle.ti_tool.specs.FileRuns.{Job}
use Rattle.ti_tool.specs.declared.outcome.Errand.{Errand}

-- without a fault there is no line, and with one no result
abbrev pub IsResultOrLine : ℕ → List ℕ → List ℕ → Type 0
IsResultOrLine status bytes line = (status ≤ 1 → line ≡ []) × (1 < status → bytes ≡ [])

-- and the status is not that of refused words
abbrev pub EndsFile : ℕ → List ℕ → List ℕ → Type 0
EndsFile status bytes line = (status ≢ 2) × IsResultOrLine status bytes line

abbrev pub job_of : Errand → Job
job_of errand =
    record {
      e = errand.of_entry.now;
      are_several = errand.are_several;
      summary = errand.summary;
      has_advice = errand.has_advice;
    }
