use Rattle.std.proofs.Common.{◌+◌, ◌++◌, ◌∙◌, ap, arith, drop}
use Rattle.std.proofs.lemmas.List.{take_rest}
use Rattle.ti_values.specs.Renditions.{parameters, parameters_in, rendition_of}
use Rattle.ti_values.specs.inner.Rows.{slices_of}
use Rattle.ti_values.proofs.RenditionLemmas.{added, added_all, no_parameters, parameters_next}
use Rattle.ti_values.proofs.rendition.parameters_of.Goals as goal

pub bytes-preserved : goal.bytes-preserved
bytes-preserved g c =
    let bytes = c.args.bytes.now in
    added (slices_of c.bytes.list.items) (slices_of c.push_parameters.new.list.items) _ (parameters (drop (c.bytes.place + 1) bytes)) (parameters (drop c.bytes.place bytes)) (parameters bytes)
    c.bytes.invariant (parameters_next bytes c.bytes.place c.bytes-test.true) (c.in_ok-push_parameters.ensures ∙ ap (λ l. slices_of c.bytes.list.items ++ parameters_in (rendition_of l)) (take_rest bytes c.bytes.place))

pub returns : goal.returns
returns g c =
    let bytes = c.args.bytes.now in
    added_all (slices_of c.bytes.list.items) (parameters (drop c.bytes.place bytes)) (parameters bytes) c.bytes.invariant
    (no_parameters bytes c.bytes.place (omega (arith, c.bytes-test.false)))
