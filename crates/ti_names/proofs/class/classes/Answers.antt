use Rattle.std.proofs.Common.{refl}
use Rattle.ti_names.specs.NameLists.{all_texts}
use Rattle.ti_names.proofs.class.classes.Goals as goal

-- the code's table is the one of specs/

pub returns : goal.returns
unfolding all_texts
returns c = refl
