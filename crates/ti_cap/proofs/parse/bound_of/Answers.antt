use Rattle.std.proofs.Common.{refl}
use Rattle.ti_cap.proofs.IsRefusalLemmas.{never_refused}
use Rattle.ti_cap.proofs.parse.bound_of.Goals as goal

pub unreachable-requires : goal.unreachable-requires
unreachable-requires c = never_refused _ _ c.requires.faultless (c.in-Err.ensures.refused (λ e. refl))
