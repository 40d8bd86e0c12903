use Rattle.std.proofs.Common.{◌+◌, ◌∙◌, List, ap, arith, drop, map, refl, subst, take}
use Rattle.std.specs.Prelude.{None, Some, is_some, string_bytes}
use Rattle.ti_tool.specs.Streams.{FileName, file_name, streams}
use Rattle.ti_tool.specs.inner.Files.{job_of}
use Rattle.ti_tool.proofs.FileRunsLemmas.{RanSome, all_some, did_one, max_low, ran_all, ran_more, ran_none, ran_stops, some_more, some_split}
use Rattle.ti_tool.proofs.files.run_found.Goals as goal

pub loop-found-init : goal.loop-found-init
loop-found-init g c = record {
  known = omega arith;
  silent = λ low. refl;
  ran = ran_none (g.S.Store.known c.args.store.now) (job_of c.args.errand.now) _;
}

pub loop-found-preserved : goal.loop-found-preserved
loop-found-preserved g c =
    let known = g.S.Store.known c.args.store.now in
    let job = job_of c.args.errand.now in
    let file = file_name (string_bytes c.found-item.result.name) (is_some c.found-item.result.fault) in
    let files = map (λ f. file_name (string_bytes f.name) (is_some f.fault)) (take c.loop-found.found-index c.args.files.now) in
    let more = map (λ f. file_name (string_bytes f.name) (is_some f.fault)) (take (c.loop-found.found-index + 1) c.args.files.now) in
    let start = streams (g.R.Read.remaining c.args.input.now) (g.W.Write.contents c.args.output.now) (g.E.Write.contents c.args.errors.now) in
    let before = streams (g.R.Read.remaining c.loop-found.input) (g.W.Write.contents c.loop-found.output) (g.E.Write.contents c.loop-found.errors) in
    let after = streams (g.R.Read.remaining c.outcome_of_found-outcome.new.input) (g.W.Write.contents c.deliver_outcome.new.output) (g.E.Write.contents c.deliver_outcome.new.errors) in
    let one = did_one known job (λ o. o.bytes.items) (λ o. o.line.items) (λ o. o.status) before after (Some c.in-Some.status) file c.outcome_of_found-outcome.result
    (λ other. ap g.R.Read.remaining (c.outcome_of_found-outcome.ensures.kept other)) c.outcome_of_found-outcome.ensures.led c.in-Some.ensures.delivered in
    record {
      known = c.greater-greatest.ensures.known c.loop-found.invariant.known c.in-Some.ensures.known;
      silent = λ low.
          let both = max_low c.loop-found.greatest c.in-Some.status c.greater-greatest.result c.greater-greatest.ensures.value low in
          c.in-Some.ensures.silent both.1 ∙ c.loop-found.invariant.silent both.0;
      ran = ran_more known job files more file start before after c.loop-found.greatest c.in-Some.status c.greater-greatest.result c.loop-found.invariant.ran one
          (some_more (λ f. file_name (string_bytes f.name) (is_some f.fault)) c.args.files.now c.loop-found.found-index c.found-item.result c.loop-found-test.true c.found-item.is) c.greater-greatest.ensures.value;
    }

pub returns-in-None-clause-ran : goal.returns-in-None-clause-ran
returns-in-None-clause-ran g c =
    let known = g.S.Store.known c.args.store.now in
    let job = job_of c.args.errand.now in
    let file = file_name (string_bytes c.found-item.result.name) (is_some c.found-item.result.fault) in
    let files = map (λ f. file_name (string_bytes f.name) (is_some f.fault)) (take c.loop-found.found-index c.args.files.now) in
    let all = map (λ f. file_name (string_bytes f.name) (is_some f.fault)) c.args.files.now in
    let rest = map (λ f. file_name (string_bytes f.name) (is_some f.fault)) (drop (c.loop-found.found-index + 1) c.args.files.now) in
    let start = streams (g.R.Read.remaining c.args.input.now) (g.W.Write.contents c.args.output.now) (g.E.Write.contents c.args.errors.now) in
    let before = streams (g.R.Read.remaining c.loop-found.input) (g.W.Write.contents c.loop-found.output) (g.E.Write.contents c.loop-found.errors) in
    let after = streams (g.R.Read.remaining c.outcome_of_found-outcome.new.input) (g.W.Write.contents c.deliver_outcome.new.output) (g.E.Write.contents c.deliver_outcome.new.errors) in
    let one = did_one known job (λ o. o.bytes.items) (λ o. o.line.items) (λ o. o.status) before after None file c.outcome_of_found-outcome.result
    (λ other. ap g.R.Read.remaining (c.outcome_of_found-outcome.ensures.kept other)) c.outcome_of_found-outcome.ensures.led c.in-None.ensures.delivered in
    ran_stops known job files all rest file start before after c.loop-found.greatest c.greater.result c.loop-found.invariant.ran one
    (some_split (λ f. file_name (string_bytes f.name) (is_some f.fault)) c.args.files.now c.loop-found.found-index c.found-item.result c.loop-found-test.true c.found-item.is) c.greater.ensures.value

pub returns-clause-silent : goal.returns-clause-silent
returns-clause-silent g c = λ none low. c.report_summary.ensures.silent none ∙ c.loop-found.invariant.silent low

pub returns-clause-ran : goal.returns-clause-ran
returns-clause-ran g c =
    let left = g.R.Read.remaining c.loop-found.input in
    let held = g.W.Write.contents c.loop-found.output in
    let files = map (λ f. file_name (string_bytes f.name) (is_some f.fault)) c.args.files.now in
    let start = streams (g.R.Read.remaining c.args.input.now) (g.W.Write.contents c.args.output.now) (g.E.Write.contents c.args.errors.now) in
    let before = streams left held (g.E.Write.contents c.loop-found.errors) in
    let after = streams left held (g.E.Write.contents c.report_summary.new.errors) in
    let Ran : List FileName → Type 0 = λ files. RanSome (g.S.Store.known c.args.store.now) (job_of c.args.errand.now) files start before c.loop-found.greatest in
    ran_all (g.S.Store.known c.args.store.now) (job_of c.args.errand.now) files start before after c.loop-found.greatest
    (subst Ran (all_some (λ f. file_name (string_bytes f.name) (is_some f.fault)) c.args.files.now c.loop-found.found-index (omega (arith, c.loop-found.auto.found-index-end))) c.loop-found.invariant.ran)
    (c.report_summary.ensures.told left held)
