use Rattle.std.proofs.Common.{◌≤◌, ◌∙◌, Some, length, refl, slice_get, sym, ap, subst, arith}
use Rattle.std.proofs.lemmas.List.{take_all}
use Rattle.ti_words.specs.Value.{NamedPart}
use Rattle.ti_entry.specs.Finding.{Lacks, names_of}
use Rattle.ti_entry.proofs.IsLeastIndexLemmas.{lacks_more, named_at, named_count}
use Rattle.ti_entry.proofs.extended.Extended.find_of.Goals as goal

pub returns-then-is_name : goal.returns-then-is_name
returns-then-is_name c =
    let e = c.self.inside in
    let at = named_at e.bytes.now e.part e.base c.args.kind c.loop-i.i (omega (arith, c.loop-i-test.true, c.count-count.ensures)) in
    let found = ap (λ (v : NamedPart). slice_get (names_of v c.args.kind) c.loop-i.i) (sym c.self.view_is) ∙ at ∙ ap Some (c.if-is_name.ensures.0 refl) in
    (found, c.loop-i.invariant)

pub loop-i-preserved : goal.loop-i-preserved
loop-i-preserved c =
    let e = c.self.inside in
    let at = named_at e.bytes.now e.part e.base c.args.kind c.loop-i.i (omega (arith, c.loop-i-test.true, c.count-count.ensures)) in
    lacks_more (names_of c.args.self.now c.args.kind) c.args.name.now _ c.loop-i.i c.loop-i.invariant
    (ap (λ (v : NamedPart). slice_get (names_of v c.args.kind) c.loop-i.i) (sym c.self.view_is) ∙ at) (λ f. let t = c.if-is_name.ensures.1 f in cc)

pub returns : goal.returns
returns c =
    let e = c.self.inside in
    let count = named_count e.bytes.now e.part e.base c.args.kind in
    let all = take_all c.loop-i.i (names_of c.args.self.now c.args.kind) (subst (λ (v : NamedPart). length (names_of v c.args.kind) ≤ c.loop-i.i) c.self.view_is (omega (arith, count, c.count-count.ensures, c.loop-i-test.false))) in
    subst (λ names. Lacks names c.args.name.now) all c.loop-i.invariant
