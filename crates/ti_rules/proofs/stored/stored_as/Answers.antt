use Rattle.std.proofs.Common.{◌↔◌, ℕ, subst, sym}
use Rattle.ti_names.specs.declared.class.Class.{Class}
use Rattle.ti_lint.specs.Variables.{HasVariable}
use Rattle.ti_rules.specs.Reports.{StoresAs}
use Rattle.ti_rules.proofs.stored.stored_as.Goals as goal

pub returns-in-Parameterized : goal.returns-in-Parameterized
returns-in-Parameterized c =
    let P : Class → Type 0 = λ k. (which : ℕ) → HasVariable c.stored_in.result which ↔ StoresAs k c.args.text.now which in
    record { exact = subst P (sym c.in-Parameterized.is) c.stored_in.ensures.exact; only = c.stored_in.ensures.only }
