use Rattle.std.proofs.Common.{◌^◌, ◌<◌, arith}
use Rattle.ti_cap.specs.Sources.{Has}
use Rattle.ti_cap.proofs.HasLemmas.{bit_tested, none_above}
use Rattle.ti_cap.proofs.parameter_set.ParameterSet.contains.Goals as goal
use Rattle.ti_cap.proofs.parameter_set.ParameterSet.contains.Goals.{then-which-eq0-via-then-which-eq0, then-which-eq0-via-else-which-eq0+then-which-gt16}

pub returns-then-which-eq0 : goal.returns-then-which-eq0
returns-then-which-eq0 c =
    let fits : c.args.self.mask < 2 ^ 16 = omega arith in
    let outside : ¬ Has c.args.self c.args.which = elim c.then-which-eq0.branch [
      | then-which-eq0-via-then-which-eq0 w ↦ λ h. omega (arith, h.0)
      | then-which-eq0-via-else-which-eq0+then-which-gt16 w ↦ none_above c.args.self c.args.which fits (omega arith)
    ] in
    record { exact = ((λ t. absurd (cc)), (λ h. absurd (outside h))) }

pub returns : goal.returns
returns c = record { exact = bit_tested c.args.self c.args.which (omega arith) (omega arith) }
