use Rattle.std.proofs.Common.{refl}
use Rattle.ti_control.specs.Capabilities.{unsent_names}
use Rattle.ti_control.proofs.capabilities.unsent_names.Goals as goal

-- the code's names are those of specs/

pub returns : goal.returns
unfolding unsent_names
returns c = refl
