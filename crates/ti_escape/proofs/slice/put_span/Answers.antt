use Rattle.std.proofs.Common.{◌+◌, ◌≤◌, arith, length, rules}
use Rattle.ti_escape.specs.inner.Stretch.{span_notation, stretch_notation}
use Rattle.ti_escape.proofs.PutLemmas.{kept-later, put-end, put-stretch, stretch_fits}
use Rattle.ti_escape.proofs.slice.put_span.Goals as goal

pub put_stretch-end-requires : goal.put_stretch-end-requires
put_stretch-end-requires c =
    let i = c.stretches.invariant in
    stretch_fits c.stretches.out c.args.out.now _ _ _ (span_notation c.args.span) c.args.at c.stretches.end i.within i.made c.first_stretch-front.ensures.notation c.stretches.auto.out c.requires

pub stretches-preserved : goal.stretches-preserved
stretches-preserved c =
    let i = c.stretches.invariant in
    let fits : c.stretches.end + length (stretch_notation c.first_stretch-front.result.stretch) ≤ length c.stretches.out =
    stretch_fits c.stretches.out c.args.out.now _ _ _ (span_notation c.args.span) c.args.at c.stretches.end i.within i.made c.first_stretch-front.ensures.notation c.stretches.auto.out c.requires in
    record {
      within = omega (arith, fits, c.put_stretch-end.ensures.end, c.put_stretch-end.auto.out);
      made = put-stretch _ _ _ _ _ _ c.stretches.end _ i.made c.first_stretch-front.ensures.notation c.put_stretch-end.ensures.written;
      kept = kept-later _ _ _ _ c.stretches.end _ i.kept c.put_stretch-end.ensures.end c.put_stretch-end.ensures.rest;
    }

pub returns-clause-end : goal.returns-clause-end
returns-clause-end c =
    let i = c.stretches.invariant in
    put-end c.stretches.rest.space c.stretches.rest.before c.stretches.rest.bytes.now _ c.args.out.now (span_notation c.args.span) c.args.at c.stretches.end (search rules) i.within i.made c.requires
