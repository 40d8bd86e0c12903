-- The word for each finding of a token.
use Rattle.std.specs.Prelude.{ℕ, List, codes}
use Rattle.ti_lint.specs.declared.token_finding.TokenFinding.{TokenFinding}
use Rattle.ti_lint.specs.declared.token_finding.TokenFinding.TheVariants.{StackUnderflow, TermcapParameter, ParameterRange, RepeatedIncrement, UnsetVariable, OperandType, StackResidue, UnusedIncrement, LateIncrement, DeadStore, NoEffect, ConstantCondition, RepeatedCondition}

abbrev pub token_word : TokenFinding → List ℕ
token_word StackUnderflow = codes "stack-underflow"
token_word TermcapParameter = codes "termcap-parameter"
token_word ParameterRange = codes "parameter-range"
token_word RepeatedIncrement = codes "%i-repeated"
token_word UnsetVariable = codes "unset-variable"
token_word OperandType = codes "operand-type"
token_word StackResidue = codes "stack-residue"
token_word UnusedIncrement = codes "%i-unused"
token_word LateIncrement = codes "%i-late"
token_word DeadStore = codes "dead-store"
token_word NoEffect = codes "no-effect"
token_word ConstantCondition = codes "constant-condition"
token_word RepeatedCondition = codes "repeated-condition"
