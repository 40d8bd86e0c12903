use Rattle.std.proofs.Common.{◌+◌, ◌≤◌, arith, length, rules}
use Rattle.ti_pad.specs.Padded.{padded_text}
use Rattle.ti_pad.specs.inner.Stretch.{stretch_bytes}
use Rattle.ti_pad.proofs.IntoLemmas.{kept-later, put-stretch, put-whole, stretch_fits}
use Rattle.ti_pad.proofs.slice.put_padded.Goals as goal

pub stretches-preserved : goal.stretches-preserved
stretches-preserved c =
    let i = c.stretches.invariant in
    let room : length (padded_text c.args.bytes.now c.args.padding.now) ≤ length c.stretches.out = omega (arith, c.requires) in
    let fits : c.stretches.at + length (stretch_bytes c.args.padding.now.pad c.first_stretch-front.result.stretch) ≤ length c.stretches.out =
    stretch_fits c.stretches.out _ _ _ _ c.stretches.at i.within i.made c.first_stretch-front.ensures.text room in
    record {
      within = omega (arith, fits, c.put_stretch-at.ensures.end);
      made = put-stretch _ _ _ _ _ _ c.stretches.at _ i.made c.first_stretch-front.ensures.text c.put_stretch-at.ensures.written;
      kept = kept-later _ _ _ _ c.stretches.at _ i.kept c.put_stretch-at.ensures.end c.put_stretch-at.ensures.rest;
    }

pub returns : goal.returns
returns c =
    let i = c.stretches.invariant in
    put-whole c.stretches.rest.now _ _ _ c.args.padding.now c.stretches.at (search rules) i.within i.made i.kept
