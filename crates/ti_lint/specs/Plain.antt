-- What a text that is sent as it stands may have of the capability language.
use Rattle.std.specs.Prelude.{ℕ, List, drop, nat_eq, IsTrue, codes}
use Rattle.std.specs.List.{starts_with}
use Rattle.ti_cap.specs.declared.language.Token.{Token}
use Rattle.ti_cap.specs.declared.language.Token.TheVariants.{Param, Constant, Store, Load, Print, CondOpen}

-- two percent signs stand at the place
abbrev pub IsDoublePercent : List ℕ → ℕ → Type 0
IsDoublePercent bytes place = IsTrue (starts_with nat_eq (drop place bytes) (codes "%%"))

-- `%p`, `%P`, `%g`, `%{`, `%'`, `%?` and prints have no sense but to be expanded
abbrev pub IsMeantToExpand : Token → Type 0
IsMeantToExpand (Param which) = Unit {0}
IsMeantToExpand (Constant n) = Unit {0}
IsMeantToExpand (Store which) = Unit {0}
IsMeantToExpand (Load which) = Unit {0}
IsMeantToExpand CondOpen = Unit {0}
IsMeantToExpand (Print format) = Unit {0}
IsMeantToExpand token = ⊥
