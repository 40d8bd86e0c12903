use Rattle.std.proofs.Common.{◌≡◌, true, false, arith, sym, ◌∙◌}
use Rattle.ti_cap.specs.Capability.{IsCapability, has_escape}
use Rattle.ti_cap.proofs.ArePlainLemmas.{plain_bytes, plain_none, plain_capability}
use Rattle.ti_cap.proofs.parse.Capability.plain.Goals as goal
use Rattle.ti_cap.proofs.parse.Capability.plain.Goals.{then-count-gt-MOST_CAPABILITY_BYTES-via-then-count-gt-MOST_CAPABILITY_BYTES, then-count-gt-MOST_CAPABILITY_BYTES-via-else-count-gt-MOST_CAPABILITY_BYTES+then-has_escape}

pub returns-then-count-gt-MOST_CAPABILITY_BYTES-clause-exact : goal.returns-then-count-gt-MOST_CAPABILITY_BYTES-clause-exact
returns-then-count-gt-MOST_CAPABILITY_BYTES-clause-exact c = λ plain.
    elim c.then-count-gt-MOST_CAPABILITY_BYTES.branch [
      | then-count-gt-MOST_CAPABILITY_BYTES-via-then-count-gt-MOST_CAPABILITY_BYTES w ↦ omega (arith, w.if-count-gt-MOST_CAPABILITY_BYTES.true)
      | then-count-gt-MOST_CAPABILITY_BYTES-via-else-count-gt-MOST_CAPABILITY_BYTES+then-has_escape w ↦
          let some : has_escape c.args.bytes.now ≡ true = sym w.has_escape.ensures ∙ w.if-has_escape.true in
          let none : has_escape c.args.bytes.now ≡ false = plain_none c.args.bytes.now plain in
          absurd (cc)
    ]

pub invariant_of-result : goal.invariant_of-result
invariant_of-result c =
    plain_capability c.args.bytes.now (λ i. omega (arith, c.type_inv.bytes i)) (omega (arith, c.if-count-gt-MOST_CAPABILITY_BYTES.false)) (sym c.has_escape.ensures ∙ c.if-has_escape.false)

pub returns-clause-plain : goal.returns-clause-plain
returns-clause-plain c = plain_bytes c.args.bytes.now (sym c.has_escape.ensures ∙ c.if-has_escape.false)

pub returns-clause-accepted : goal.returns-clause-accepted
returns-clause-accepted c =
    let known : IsCapability c.args.bytes.now 0 _ = invariant_of-result c in
    known.faultless
