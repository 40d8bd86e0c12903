-- What is reported, with one more.
use Rattle.std.proofs.Common.{◌≡◌, ℕ, List, [], ◌∷◌, ◌++◌, Ok, Err, subst, sym}
use Rattle.std.specs.Prelude.{OnOk, Result}
use Rattle.ti_allow.specs.Harmless.{AreBeyond, IsBeyond}
use Rattle.ti_allow.specs.declared.beyond.Found.{Found}
use Rattle.ti_allow.specs.declared.row.Row.{Row}

beyond_joined : (rows : List Row) (name : List ℕ) (found : List Found) (new : Found) → AreBeyond rows name found → IsBeyond rows name new
    → AreBeyond rows name (found ++ new ∷ [])
beyond_joined rows name [] new are is = (is, tt)
beyond_joined rows name (one ∷ found) new are is = (are.0, beyond_joined rows name found new are.1 is)

pub beyond_more : (rows : List Row) (name : List ℕ) (found more : List Found) (new : Found) → more ≡ found ++ new ∷ [] → AreBeyond rows name found
    → IsBeyond rows name new → AreBeyond rows name more
beyond_more rows name found more new is_more are is =
    subst (λ l. AreBeyond rows name l) (sym is_more) (beyond_joined rows name found new are is)

-- what is not a function is beyond any table
pub on_ok_more : {A E P Q : Type 0} (result : Result A E) → (P → Q) → OnOk result P → OnOk result Q
on_ok_more (Ok x) then h = then h
on_ok_more (Err e) then h = h
