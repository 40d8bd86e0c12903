use Rattle.std.proofs.Common.{ap}
use Rattle.std.specs.Prelude.{is_some, string_bytes}
use Rattle.ti_tool.specs.Streams.{file_name}
use Rattle.ti_tool.specs.inner.Files.{job_of}
use Rattle.ti_tool.proofs.FileRunsLemmas.{contents_led, unread_led}
use Rattle.ti_tool.proofs.outcome.outcome_of_found.Goals as goal

pub returns-in-Ok-clause-led : goal.returns-in-Ok-clause-led
returns-in-Ok-clause-led g c =
    contents_led (λ o. o.bytes.items) (λ o. o.line.items) (λ o. o.status) (g.S.Store.known c.args.store.now) (job_of c.args.errand.now) (file_name (string_bytes c.args.found.now.name) (is_some c.args.found.now.fault))
    (g.R.Read.remaining c.args.input.now) (g.R.Read.remaining c.contents_of.new.input) c.as_str-name.result.now c.as_slice.result.now c.in-Ok.contents.items c.outcome_of.result c.as_str-name.ensures.value
    (ap is_some c.in_default.is) c.in-Ok.ensures.read c.as_slice.ensures.value c.outcome_of.ensures.led

pub returns-in-Some-clause-led : goal.returns-in-Some-clause-led
returns-in-Some-clause-led g c =
    unread_led (λ o. o.bytes.items) (λ o. o.line.items) (λ o. o.status) (g.S.Store.known c.args.store.now) (job_of c.args.errand.now) (file_name (string_bytes c.args.found.now.name) (is_some c.args.found.now.fault))
    (g.R.Read.remaining c.args.input.now) (g.R.Read.remaining c.args.input.now) c.as_str-name.result.now c.refused_outcome.result c.as_str-name.ensures.value c.refused_outcome.ensures.led

pub returns-in-Err-clause-led : goal.returns-in-Err-clause-led
returns-in-Err-clause-led g c =
    unread_led (λ o. o.bytes.items) (λ o. o.line.items) (λ o. o.status) (g.S.Store.known c.args.store.now) (job_of c.args.errand.now) (file_name (string_bytes c.args.found.now.name) (is_some c.args.found.now.fault))
    (g.R.Read.remaining c.args.input.now) (g.R.Read.remaining c.contents_of.new.input) c.as_str-name.result.now c.refused_outcome-in-Err.result c.as_str-name.ensures.value c.refused_outcome-in-Err.ensures.led
