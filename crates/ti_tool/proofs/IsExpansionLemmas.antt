-- The result of `cap` from what parsing and expanding promise.
use Rattle.std.proofs.Common.{◌≡◌, ℕ, List, subst, pos}
use Rattle.std.specs.Prelude.{replicate, Result, Ok, Err, ℤ, ◌↔◌}
use Rattle.ti_expand.specs.declared.fault.ExpandFault.{ExpandFault}
use Rattle.ti_expand.specs.declared.fault.ExpandFault.TheVariants.{TextTooLong, Memory}
use Rattle.ti_cap.specs.Capability.{IsWellFormed}
use Rattle.ti_expand.specs.declared.values.Value.{Value}
use Rattle.ti_expand.specs.State.{start}
use Rattle.ti_expand.specs.Meaning.{meaning}
use Rattle.ti_expand.specs.Expands.{ForTree, IsFirstTooLong}
use Rattle.ti_tool.specs.Results.{IsExpansion}

pub expansion : (input capability : List ℕ) (parameters : List Value) (zeros : List ℤ) (out : List ℕ) → capability ≡ input → zeros ≡ replicate 52 (pos 0) → IsWellFormed input
    → ((k : ℕ) → ¬ IsFirstTooLong parameters k) → ForTree capability (λ tree. out ≡ (meaning tree (start zeros parameters)).output) → IsExpansion input parameters out
expansion input capability parameters zeros out e z formed short is =
    let P : List ℕ → Type 0 = λ x. ForTree x (λ tree. out ≡ (meaning tree (start zeros parameters)).output) in
    let Q : List ℤ → Type 0 = λ x. ForTree input (λ tree. out ≡ (meaning tree (start x parameters)).output) in
    record { tree = formed.tree; writes = formed.writes; short = short; is = subst Q z (subst P e is) formed.tree formed.writes }

-- what succeeds has met no text that is too long
pub none_too_long : {V : Type 0} (r : Result V ExpandFault) (v : V) (parameters : List Value) → ((k : ℕ) → (r ≡ Err (TextTooLong k)) ↔ IsFirstTooLong parameters k) → r ≡ Ok v
    → (k : ℕ) → ¬ IsFirstTooLong parameters k
none_too_long r v parameters h is k first = let e : r ≡ Err (TextTooLong k) = (h k).1 first in absurd (cc)

-- nor has what was refused its memory
pub none_too_long_before : {V : Type 0} (r : Result V ExpandFault) (parameters : List Value) → ((k : ℕ) → (r ≡ Err (TextTooLong k)) ↔ IsFirstTooLong parameters k) → r ≡ Err Memory
    → (k : ℕ) → ¬ IsFirstTooLong parameters k
none_too_long_before r parameters h is k first = let e : r ≡ Err (TextTooLong k) = (h k).1 first in absurd (cc)
