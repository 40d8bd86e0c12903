-- Sets of variables, and the variables into which a capability stores.
use Rattle.std.specs.Prelude.{◌≡◌, ℕ, ◌+◌, ◌-◌, List, Contains, codes}
use Rattle.std.specs.Int.{bit_at}
use Rattle.ti_base.specs.Letters.{letter}
use Rattle.ti_cap.specs.declared.language.Token.TheVariants.{Store}
use Rattle.ti_cap.specs.Tree.{Sequence, tokens}
use Rattle.ti_cap.specs.Spelling.{IsLetter, Writes}
use Rattle.ti_lint.specs.declared.variables.Variables.{Variables}

-- a letter is in the set if the bit for it is 1: bit 0 is for `A`
abbrev pub HasVariable : Variables → ℕ → Type 0
HasVariable set which = IsLetter which × (bit_at set.mask (which - letter (codes "A")) ≡ 1)

-- no other bit of the set is 1
abbrev pub HasOnlyLetters : Variables → Type 0
HasOnlyLetters set = (place : ℕ) → bit_at set.mask place ≡ 1 → IsLetter (place + letter (codes "A"))

-- a tree writes the bytes, and one of its tokens stores into the variable
abbrev pub IsStored : List ℕ → ℕ → Type 0
IsStored bytes which = (tree : Sequence) × Writes tree bytes × Contains (tokens tree) (Store which)
