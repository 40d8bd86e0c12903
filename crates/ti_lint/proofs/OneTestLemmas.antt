-- Tokens end with at most one test of constants.
use Rattle.std.proofs.Common.{◌≡◌, true, false, IsTrue, List, [], ◌∷◌, ◌++◌, sym, ◌∙◌, ap}
use Rattle.ti_cap.specs.declared.language.Token.{Token}
use Rattle.ti_lint.specs.Conditionals.{starts_test, are_constant, IsConstantTest}
use Rattle.ti_lint.proofs.ConditionalsLemmas.{are_constant-part, no_start}

tail_is : (k l : Token) (x y : List Token) → k ∷ x ≡ l ∷ y → x ≡ y
tail_is k l x y e = cc

-- no constants have the start of a test among them
none_within : (head : List Token) (k : Token) (rest test : List Token) → IsTrue (starts_test k) → IsTrue (are_constant test) → test ≡ head ++ k ∷ rest → ⊥
none_within head k rest test starts constant e = differ (sym (are_constant-part head k rest (sym (ap are_constant e) ∙ constant)) ∙ no_start k starts)
  where
    differ : true ≡ false → ⊥
    differ f = cc

one_end : (head other : List Token) (k l : Token) (test rest : List Token) → IsTrue (starts_test k) → IsTrue (starts_test l) → IsTrue (are_constant test) → IsTrue (are_constant rest)
    → head ++ k ∷ test ≡ other ++ l ∷ rest → test ≡ rest
one_end [] [] k l test rest starts begins constant plain e = tail_is k l test rest e
one_end [] (y ∷ other) k l test rest starts begins constant plain e = absurd (none_within other l rest test begins constant (tail_is k y test (other ++ l ∷ rest) e))
one_end (x ∷ head) [] k l test rest starts begins constant plain e = absurd (none_within head k test rest starts plain (sym (tail_is x l (head ++ k ∷ test) rest e)))
one_end (x ∷ head) (y ∷ other) k l test rest starts begins constant plain e =
    one_end head other k l test rest starts begins constant plain (tail_is x y (head ++ k ∷ test) (other ++ l ∷ rest) e)

pub one_test : (before : List Token) (found other : IsConstantTest before) → found.test ≡ other.test
one_test before found other =
    one_end found.head other.head found.first other.first found.test other.test found.starts other.starts found.constant other.constant (sym found.spans ∙ other.spans)
