use Rattle.std.proofs.Common.{refl}
use Rattle.ti_lint.specs.ExtendedClasses.{extended_classes}
use Rattle.ti_lint.proofs.extended_class.extended_classes.Goals as goal

-- the code's table is the one of specs/

pub returns : goal.returns
unfolding extended_classes
returns c = refl
