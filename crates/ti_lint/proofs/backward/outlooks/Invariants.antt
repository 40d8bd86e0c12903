-- The pass has gone back over the tokens that are not left.
use Rattle.std.proofs.Common.{◌≡◌, List, ◌++◌, length}
use Rattle.ti_cap.specs.declared.language.Token.{Token}
use Rattle.ti_lint.specs.inner.Outlook.{ahead_of_all, outlooks}
use Rattle.ti_lint.proofs.backward.outlooks.Given as goal

abbrev pub invariant-tokens : goal.invariant-tokens
invariant-tokens g l =
    (rest : List Token) × (l.fn.tokens ≡ l.left ++ rest) × (l.pass ≡ ahead_of_all rest) × (l.list.items ≡ outlooks rest)

abbrev pub decreases-tokens : goal.decreases-tokens
decreases-tokens g l = length l.left
