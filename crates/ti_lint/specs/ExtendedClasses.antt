-- What extended texts are, by their names, after user_caps(5), screen(1), tmux(1), and the help of Vim on its options `t_xx`.
use Rattle.std.specs.Prelude.{ℕ, ◌==◌, Bool, false, Option, Some, None, List, [], ◌∷◌, codes, if◌then◌else◌}
use Rattle.std.specs.Str.{bytes_eq}
use Rattle.ti_base.specs.Letters.{letter}
use Rattle.ti_names.specs.declared.class.Class.{Class}
use Rattle.ti_names.specs.declared.class.Class.TheVariants.{Parameterized, Plain, Key, Label, List as IsList, Input}

-- a name, and what the text with it is
abbrev pub Row : Type 0
Row = List ℕ × Class

-- the names that are known
unfoldable pub extended_classes : List Row
extended_classes =
    (codes "AB", Parameterized 1) ∷ (codes "AF", Parameterized 1) ∷ (codes "AU", Parameterized 1) ∷ (codes "BD", Plain) ∷
    (codes "BE", Plain) ∷ (codes "C0", IsList) ∷ (codes "CE", Plain) ∷ (codes "CS", Plain) ∷ (codes "Ce", Plain) ∷
    (codes "Clmg", Plain) ∷ (codes "Cmg", Parameterized 2) ∷ (codes "Cr", Plain) ∷ (codes "Cs", Parameterized 1) ∷
    (codes "Ds", Plain) ∷ (codes "Dsbp", Plain) ∷ (codes "Dseks", Plain) ∷ (codes "Dsfcs", Plain) ∷ (codes "Dsmg", Plain) ∷
    (codes "E0", Plain) ∷ (codes "E3", Plain) ∷ (codes "EC", Plain) ∷ (codes "EI", Plain) ∷ (codes "Enbp", Plain) ∷
    (codes "Eneks", Plain) ∷ (codes "Enfcs", Plain) ∷ (codes "Enmg", Plain) ∷ (codes "GP", Plain) ∷
    (codes "Hls", Parameterized 2) ∷ (codes "IE", Plain) ∷ (codes "IS", Plain) ∷ (codes "KJ", Label) ∷
    (codes "Ms", Parameterized 2) ∷ (codes "PE", Key) ∷ (codes "PS", Key) ∷ (codes "RB", Plain) ∷ (codes "RC", Plain) ∷
    (codes "RF", Plain) ∷ (codes "RGB", IsList) ∷ (codes "RK", Plain) ∷ (codes "RS", Plain) ∷ (codes "RT", Plain) ∷
    (codes "RV", Plain) ∷ (codes "Ri", Plain) ∷ (codes "Rmol", Plain) ∷ (codes "S0", Parameterized 1) ∷ (codes "SC", Plain) ∷
    (codes "SH", Parameterized 1) ∷ (codes "SI", Plain) ∷ (codes "SR", Plain) ∷ (codes "ST", Plain) ∷ (codes "Se", Plain) ∷
    (codes "Setulc", Parameterized 1) ∷ (codes "Setulc1", Parameterized 1) ∷ (codes "Si", Plain) ∷ (codes "Smol", Plain) ∷
    (codes "Smulx", Parameterized 1) ∷ (codes "Ss", Parameterized 1) ∷ (codes "Swd", Plain) ∷ (codes "Sync", Parameterized 1) ∷
    (codes "TE", Plain) ∷ (codes "TI", Plain) ∷ (codes "TS", Plain) ∷ (codes "Te", Plain) ∷ (codes "Ts", Plain) ∷
    (codes "Us", Plain) ∷ (codes "VS", Plain) ∷ (codes "WP", Parameterized 2) ∷ (codes "WS", Parameterized 2) ∷
    (codes "XC", IsList) ∷ (codes "XM", Parameterized 1) ∷ (codes "XR", Plain) ∷ (codes "Z0", Plain) ∷ (codes "Z1", Plain) ∷
    (codes "fd", Plain) ∷ (codes "fe", Plain) ∷ (codes "ol", Plain) ∷ (codes "rmxx", Plain) ∷ (codes "rv", Input) ∷
    (codes "setal", Parameterized 1) ∷ (codes "setrgbb", Parameterized 3) ∷ (codes "setrgbf", Parameterized 3) ∷
    (codes "smxx", Plain) ∷ (codes "xm", Input) ∷ (codes "xr", Input) ∷ []

-- what the rows say of a name, if one has it
abbrev pub class_named : List Row → List ℕ → Option Class
class_named [] name = None
class_named ((known, class) ∷ rows) name = if bytes_eq known name then Some class else class_named rows name

-- the name of what a key sends starts with `k`
abbrev pub is_key : List ℕ → Bool
is_key [] = false
is_key (first ∷ rest) = first == letter (codes "k")

-- what the text with the name is, if that is known
abbrev pub extended_class : List ℕ → Option Class
extended_class name = if is_key name then Some Key else class_named extended_classes name
