use Rattle.std.proofs.Common.{◌<◌, ◌≤◌, arith}
use Rattle.ti_lint.proofs.UnusedLemmas.{has_unused}
use Rattle.ti_lint.proofs.parameters.unused_parameters.Goals as goal

pub returns : goal.returns
returns c =
    let named = c.parameters.result.named in
    let fits : named.mask < 65536 = omega arith in
    let few : c.min-most.result ≤ 9 = omega arith in
    record {
      exact = λ which.
          let u = has_unused named c.min-most.result which fits few in
          let n = c.parameters.ensures.named which in (
            (λ h. let t = u.0 h in (t.0, omega (arith, t.1), omega (arith, t.1), (λ i. t.2 (n.1 i)))),
            (λ t. u.1 (t.0, omega (arith, t.1, t.2), (λ h. t.3 (n.0 h)))),
          );
    }
