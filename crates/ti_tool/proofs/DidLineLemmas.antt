-- What a run did, from its status.
use Rattle.std.proofs.Common.{◌≡◌, ◌<◌, ◌⊎◌, ℕ, zero, suc, inl, inr, arith}
use Rattle.std.specs.Prelude.{Option, Some, None, IfSome, unwrap_or}
use Rattle.ti_tool.specs.Runs.{MayHaveWritten}

-- what was written at last, by its status
pub pair_writes : (answer : Option ℕ) (V : Type 0) (status : ℕ) → status ≡ unwrap_or answer 5 → IfSome answer (λ s. 1 < s → V) → MayHaveWritten status ⊎ V
pair_writes None V status is quiet = inl (inr (inr is))
pair_writes (Some zero) V status is quiet = inl (inl is)
pair_writes (Some (suc zero)) V status is quiet = inl (inr (inl is))
pair_writes (Some (suc (suc n))) V status is quiet = inr (quiet (omega arith))
