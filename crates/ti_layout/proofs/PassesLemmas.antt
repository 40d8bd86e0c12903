-- What holds if checks pass.
use Rattle.std.proofs.Common.{◌≡◌, ℕ, ◌≤◌, true, List, ◌∷◌, arith}
use Rattle.std.proofs.lemmas.Bool.Decides.{nat_tests}
use Rattle.ti_layout.specs.Checks.{Check, Passes, verdict}

pub record FirstPasses (len : ℕ) (c : Check) (cs : List Check) : Type 0 where
  pub long : c.prefix ≤ len
  pub holds : c.holds ≡ true
  pub rest : Passes ≡ verdict len cs

pub first_passes : (len : ℕ) (c : Check) (cs : List Check) → Passes ≡ verdict len (c ∷ cs) → FirstPasses len c cs
first_passes len c cs h = record { long = grind (arith, nat_tests); holds = grind (arith, nat_tests); rest = grind (arith, nat_tests) }
