use Rattle.std.proofs.Common.{◌∙◌, ap}
use Rattle.ti_values.specs.Renditions.{lacks, parameters}
use Rattle.ti_values.specs.inner.Rows.{slices_of}
use Rattle.ti_values.proofs.attribute.lacks_parameter.Goals as goal

pub returns : goal.returns
returns g c =
    let mine = ap slices_of c.as_slice.ensures.value ∙ c.in_ok-mine.ensures in
    let theirs = ap slices_of c.as_slice-2.ensures.value ∙ c.in_ok-theirs.ensures in
    c.lacks.ensures ∙ ap (λ parts. lacks parts (slices_of c.as_slice-2.result.now)) mine ∙ ap (lacks (parameters c.args.sent.now)) theirs
