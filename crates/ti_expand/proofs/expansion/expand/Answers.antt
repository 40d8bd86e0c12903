use Rattle.std.proofs.Common.{arith}
use Rattle.std.proofs.lemmas.Grind.{common_steps}
use Rattle.ti_expand.proofs.AreShortLemmas.{none_too_long}
use Rattle.ti_expand.proofs.IsExpansionLemmas.{made_low}
use Rattle.ti_expand.proofs.expansion.expand.Goals as goal

pub run_capability-run-requires : goal.run_capability-run-requires
run_capability-run-requires g c = record {
  ready = record {
    longest = c.in_ok-longest.longest;
    texts = c.in_ok-longest.ensures.short;
    well_formed = c.bound-bound.ensures.tree;
    heights = c.bound-bound.ensures.tree.heights;
    bound = c.bound-bound.result;
    bounded = c.bound-bound.ensures.exact;
    long = omega (arith, c.as_mut_slice.ensures.len, c.in_ok-out.ensures.len);
  };
}

pub returns-clause-too_long : goal.returns-clause-too_long
returns-clause-too_long g c = λ k. (λ e. absurd (cc), λ h. absurd (none_too_long c.args.parameters.now k (omega (arith, c.in_ok-longest.ensures.short.short, c.in_ok-longest.ensures.short.longest_is)) h))

pub returns-clause-expansion : goal.returns-clause-expansion
returns-clause-expansion g c = grind (arith, common_steps)

pub returns-clause-output_low : goal.returns-clause-output_low
returns-clause-output_low g c = λ bound bounded.
    let did = returns-clause-expansion g c in
    omega (arith, made_low c.args.capability.now c.args.parameters.now c.args.vars.now _ c.truncate.new.self.items did.0 did.1 bound bounded, c.truncate.new.self.ok)
