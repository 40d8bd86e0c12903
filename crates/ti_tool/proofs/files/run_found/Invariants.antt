use Rattle.std.proofs.Common.{◌≡◌, ◌≤◌, ◌≢◌, map, take}
use Rattle.std.specs.Prelude.{is_some, string_bytes}
use Rattle.ti_tool.specs.Streams.{file_name, streams}
use Rattle.ti_tool.specs.inner.Files.{job_of}
use Rattle.ti_tool.proofs.FileRunsLemmas.{RanSome}
use Rattle.ti_tool.proofs.files.run_found.Given as goal

-- the files so far are done; nothing was reported while the status is one without a line
abbrev pub invariant-loop-found : goal.invariant-loop-found
invariant-loop-found g l = record {
  known : l.greatest ≢ 2;
  silent : l.greatest ≤ 1 → l.errors ≡ l.initial.errors;
  ran : RanSome (g.S.Store.known l.store) (job_of l.errand) (map (λ f. file_name (string_bytes f.name) (is_some f.fault)) (take l.found-index l.files))
      (streams (g.R.Read.remaining l.initial.input) (g.W.Write.contents l.initial.output) (g.E.Write.contents l.initial.errors)) (streams (g.R.Read.remaining l.input) (g.W.Write.contents l.output) (g.E.Write.contents l.errors)) l.greatest;
}
