use Rattle.std.proofs.Common.{◌∙◌, ◌≤◌, length, rules, arith}
use Rattle.ti_pad.specs.Padded.{padded_text}
use Rattle.ti_pad.specs.inner.Stretch.{stretch_bytes}
use Rattle.ti_pad.proofs.AppendsLemmas.{Appends-part, Appends-run, drop-run, no_run, part_within}
use Rattle.ti_pad.proofs.PaddedTextLemmas.{Appends-whole}
use Rattle.ti_pad.proofs.writing.write_stretches.Goals as goal

pub overflow_add-gone : goal.overflow_add-gone
overflow_add-gone g c =
    let i = c.stretches.invariant in
    omega (
      arith,
      part_within (padded_text c.args.bytes.now c.args.padding.now) (stretch_bytes c.args.padding.now.pad c.first_stretch-front.result.stretch) (padded_text c.first_stretch-front.result.rest.now c.args.padding.now) c.stretches.gone
          (i.left ∙ c.first_stretch-front.ensures.text) i.within,
      c.len-gone.ensures c.args.padding.now.pad,
    )

pub overflow_add-result : goal.overflow_add-result
overflow_add-result g c =
    let i = c.stretches.invariant in
    omega (
      arith,
      part_within (padded_text c.args.bytes.now c.args.padding.now) (stretch_bytes c.args.padding.now.pad c.first_stretch-front.result.stretch) (padded_text c.first_stretch-front.result.rest.now c.args.padding.now) c.stretches.gone
          (i.left ∙ c.first_stretch-front.ensures.text) i.within,
      c.in-Err.ensures.short,
    )

pub returns-in-Err-clause-short : goal.returns-in-Err-clause-short
returns-in-Err-clause-short g c =
    let i = c.stretches.invariant in
    omega (
      arith,
      part_within (padded_text c.args.bytes.now c.args.padding.now) (stretch_bytes c.args.padding.now.pad c.first_stretch-front.result.stretch) (padded_text c.first_stretch-front.result.rest.now c.args.padding.now) c.stretches.gone
          (i.left ∙ c.first_stretch-front.ensures.text) i.within,
      c.in-Err.ensures.short,
    )

pub returns-in-Err-clause-gone : goal.returns-in-Err-clause-gone
returns-in-Err-clause-gone g c =
    let i = c.stretches.invariant in
    let within : c.in-Err.more ≤ length (stretch_bytes c.args.padding.now.pad c.first_stretch-front.result.stretch) = omega (arith, c.in-Err.ensures.short) in
    Appends-part _ _ _ _ _ _ _ _ (i.left ∙ c.first_stretch-front.ensures.text) within i.taken c.in-Err.ensures.gone

pub returns-in-Err-clause-nothing : goal.returns-in-Err-clause-nothing
returns-in-Err-clause-nothing g c = λ none.
    let i = c.stretches.invariant in
    c.in-Err.ensures.nothing (no_run _ _ _ c.stretches.gone (i.left ∙ c.first_stretch-front.ensures.text) none) ∙ i.nothing none

pub stretches-preserved : goal.stretches-preserved
stretches-preserved g c =
    let i = c.stretches.invariant in
    let left = i.left ∙ c.first_stretch-front.ensures.text in
    let len = c.len-gone.ensures c.args.padding.now.pad in
    record {
      within = omega (
        arith,
        part_within (padded_text c.args.bytes.now c.args.padding.now) (stretch_bytes c.args.padding.now.pad c.first_stretch-front.result.stretch) (padded_text c.first_stretch-front.result.rest.now c.args.padding.now) c.stretches.gone
            left i.within,
        len,
      );
      left = drop-run _ _ _ c.stretches.gone _ left len;
      taken = Appends-run _ _ _ _ _ _ _ _ left len i.taken c.in-Ok.ensures.written;
      nothing = λ none. c.in-Ok.ensures.nothing (no_run _ _ _ c.stretches.gone left none) ∙ i.nothing none;
    }

pub returns-clause-written : goal.returns-clause-written
returns-clause-written g c =
    Appends-whole _ _ _ _ c.stretches.rest.now c.args.padding.now (search rules) c.stretches.invariant.left c.stretches.invariant.taken
