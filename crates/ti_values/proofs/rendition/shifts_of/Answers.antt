use Rattle.std.proofs.Common.{◌+◌, ◌++◌, ◌∙◌, ap, arith, drop}
use Rattle.std.proofs.lemmas.List.{take_rest}
use Rattle.ti_values.specs.Renditions.{shift_in, shift_len, shifts}
use Rattle.ti_values.specs.inner.Rows.{slices_of}
use Rattle.ti_values.proofs.RenditionLemmas.{added, added_all, no_shifts, shifts_next}
use Rattle.ti_values.proofs.rendition.shifts_of.Goals as goal

pub bytes-preserved : goal.bytes-preserved
bytes-preserved g c =
    let bytes = c.args.bytes.now in
    added (slices_of c.bytes.list.items) (slices_of c.push_shift.new.list.items) _ (shifts (drop (c.bytes.place + 1) bytes)) (shifts (drop c.bytes.place bytes)) (shifts bytes)
    c.bytes.invariant (shifts_next bytes c.bytes.place c.bytes-test.true) (c.in_ok-push_shift.ensures ∙ ap (λ l. slices_of c.bytes.list.items ++ shift_in (shift_len l) l) (take_rest bytes c.bytes.place))

pub returns : goal.returns
returns g c =
    let bytes = c.args.bytes.now in
    added_all (slices_of c.bytes.list.items) (shifts (drop c.bytes.place bytes)) (shifts bytes) c.bytes.invariant
    (no_shifts bytes c.bytes.place (omega (arith, c.bytes-test.false)))
