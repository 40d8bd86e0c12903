use Rattle.std.proofs.Common.{◌≤◌, ℕ, arith, leb, IsTrue}
use Rattle.ti_expand.proofs.CanRunLemmas.{one_bound}
use Rattle.ti_values.proofs.limits.is_short.Goals as goal

is_low : (bound : ℕ) → IsTrue (leb bound 256) → bound ≤ 256
is_low bound t = grind arith

passes : (bound : ℕ) → bound ≤ 256 → IsTrue (leb bound 256)
passes bound low = grind arith

pub returns-then-len-le-MOST_BYTES : goal.returns-then-len-le-MOST_BYTES
returns-then-len-le-MOST_BYTES c =
    let text = c.args.capability.now in
    let has = c.bound-bound.ensures.exact in
    record {
      exact = (
        λ t. (omega (arith, c.len-len.ensures.exact), λ bound its. omega (arith, one_bound text 0 bound c.bound-bound.result its has, is_low c.bound-bound.result t)),
        λ short. passes c.bound-bound.result (short.1 c.bound-bound.result has),
      );
    }
