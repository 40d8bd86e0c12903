-- The remarks on each key and the next one, as the code goes over them.
use Rattle.std.specs.Prelude.{List, [], ◌∷◌, ◌++◌, if◌then◌else◌}
use Rattle.std.specs.Str.{bytes_eq}
use Rattle.ti_rules.specs.declared.finding.Finding.TheVariants as findings
use Rattle.ti_rules.specs.Keys.{Key, is_first_part, on_alike, on_two}
use Rattle.ti_rules.specs.Remarks.{Remark}

abbrev pub on_neighbours : Key → Key → List Remark
on_neighbours one other =
    if is_first_part one.0 other.0 then on_two one other findings.KeyPrefix
    else (if bytes_eq one.0 other.0 then on_alike one other else [])

abbrev pub on_row : List Key → List Remark
on_row [] = []
on_row (one ∷ []) = []
on_row (one ∷ other ∷ rest) = on_neighbours one other ++ on_row (other ∷ rest)
