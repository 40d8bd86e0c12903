use Rattle.std.proofs.Common.{◌<◌, ℕ, List, arith, below_more, length, subst, sym}
use Rattle.std.proofs.lemmas.List.{length-map}
use Rattle.ti_values.specs.Sent.{texts_of}
use Rattle.ti_values.specs.Sequences.{HasUnended}
use Rattle.ti_values.proofs.sequence.first_unended.Goals as goal

pub returns-then-has_unended : goal.returns-then-has_unended
returns-then-has_unended g c =
    let P : List ℕ → Type 0 = λ bytes. HasUnended bytes in
    let within : c.values.place < length (texts_of c.args.sent.now) = omega (arith, c.values-test.true, length-map c.args.sent.now (λ t. t.items)) in
    record { exact = ((within, subst P c.sent_at.ensures.exact (c.has_unended.ensures.exact.0 c.if-has_unended.true)), λ earlier low at. c.values.invariant earlier low at.1) }

pub values-preserved : goal.values-preserved
values-preserved g c =
    let P : List ℕ → Type 0 = λ bytes. HasUnended bytes in
    below_more _ _ c.values.invariant
    (λ has. cc (c.has_unended.ensures.exact.1 (subst P (sym c.sent_at.ensures.exact) has), c.if-has_unended.false))

pub returns : goal.returns
returns g c =
    record { exact = λ k at. c.values.invariant k (omega (arith, at.0, c.values-test.false, length-map c.args.sent.now (λ t. t.items))) at.1 }
