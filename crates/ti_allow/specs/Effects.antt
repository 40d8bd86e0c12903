-- What a function does where it may not stand.
use Rattle.std.specs.Prelude.{ℕ, ◌&&◌, not, Bool, List, [], ◌∷◌, Option, Some, None, if◌then◌else◌}
use Rattle.ti_allow.specs.Rows.{has_numbers, is_of, stands}
use Rattle.ti_allow.specs.declared.effect.Effect.{Effect}
use Rattle.ti_allow.specs.declared.effect.EffectRow.{EffectRow}
use Rattle.ti_parser.specs.declared.function.Function.{Function}

-- the row has the function, in a string where it may not stand
abbrev pub acts : List ℕ → Function → EffectRow → Bool
acts name function row =
    is_of row.row function && has_numbers row.row.numbers function && not (stands row.row.standing name)

-- the effect of the first such row
abbrev pub effect_of : List EffectRow → List ℕ → Function → Option Effect
effect_of [] name function = None
effect_of (row ∷ rows) name function = if acts name function row then Some row.effect else effect_of rows name function
