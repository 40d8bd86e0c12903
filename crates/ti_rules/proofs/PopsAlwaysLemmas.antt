-- A test of constants leaves its value on the stack, whatever lies below.
use Rattle.std.proofs.Common.{◌≡◌, ℕ, suc, ◌≤◌, nat_le, Bool, true, false, ◌&&◌, ◌||◌, if◌then◌else◌, List, [], ◌∷◌, ◌++◌, length, refl, sym, ◌∙◌, ap, subst, arith, append_assoc}
use Rattle.std.specs.Prelude.{Some, None}
use Rattle.std.proofs.lemmas.List.{append_cancel_left}
use Rattle.ti_cap.specs.declared.language.Op.{Op}
use Rattle.ti_cap.specs.declared.language.Op.TheVariants.{Not, BitNot}
use Rattle.ti_cap.specs.declared.language.Token.{Token}
use Rattle.ti_cap.specs.declared.language.Token.TheVariants.{Constant, Compute, CondThen}
use Rattle.ti_cap.specs.declared.mode.Mode.{Mode}
use Rattle.ti_cap.specs.declared.mode.Mode.TheVariants.{Run, ToElse, ToEnd}
use Rattle.ti_cap.specs.Height.{pops, next_height}
use Rattle.ti_cap.specs.Pass.{next_mode, is_running, Passes}
use Rattle.ti_cap.specs.Path.{Walk, path_of}
use Rattle.ti_cap.specs.Spelling.{Written}
use Rattle.ti_cap.specs.Tree.{tokens, IsSimple}
use Rattle.ti_cap.proofs.NextModeLemmas.{simple_stays, then_stays}
use Rattle.ti_cap.proofs.PassesLemmas.{Over, walk_passes, Split, passes_split, met_front, path_of-append}
use Rattle.ti_cap.proofs.WrittenLemmas.{one_cutting}
use Rattle.ti_expand.specs.declared.values.Value.{Value}
use Rattle.ti_expand.specs.declared.values.Value.TheVariants.{Num, Text}
use Rattle.ti_expand.specs.Constants.{stack_after, value_of}
use Rattle.ti_expand.specs.Effect.{after_operation, combine, complement, flag_number, is_zero}
use Rattle.ti_expand.specs.StackHeight.{state_after}
use Rattle.ti_expand.specs.State.{State, number_on}
use Rattle.ti_expand.specs.Steps.{meet}
use Rattle.ti_lint.specs.Conditionals.{only_computes, computed, values_left, is_constant, are_constant, IsConstantTest}
use Rattle.ti_rules.specs.ConstantLaws.{ConstantTestsPopTheirValue, PopsAlways}

both_true : (a b : Bool) → a && b ≡ true → (a ≡ true) × (b ≡ true)
both_true true b e = (refl, e)
both_true false b e = absurd (cc)

-- ---- a test leaves alone what lies below its own values

-- with so many values a token goes on
record GoesOn (h n : ℕ) (k : Token) (rest : List Token) : Type 0 where
  enough : pops k ≤ h
  later : values_left (Some (next_height h k)) rest ≡ Some n

goes_on : (h n : ℕ) (k : Token) (rest : List Token) → values_left (computed h k) rest ≡ Some n → GoesOn h n k rest
goes_on h n k rest e = by_test (only_computes k) (nat_le (pops k) h) refl e
  where
    by_test : (a b : Bool) → nat_le (pops k) h ≡ b → values_left (if a && b then Some (next_height h k) else None) rest ≡ Some n → GoesOn h n k rest
    by_test true true f g = record { enough = grind arith; later = g }
    by_test true false f g = absurd (cc)
    by_test false b f g = absurd (cc)

-- the number on top does not depend on what lies below
same_top : (top : Value) (stack other : List Value) → number_on (top ∷ stack) ≡ number_on (top ∷ other)
same_top (Num n) stack other = refl
same_top (Text t) stack other = refl

-- an operation on values above others
operation_above : (op : Op) (stack below : List Value) → pops (Compute op) ≤ length stack
    → (after_operation op (stack ++ below) ≡ after_operation op stack ++ below) × (length (after_operation op stack) ≡ next_height (length stack) (Compute op))
operation_above Not (x ∷ stack) below few = (ap (λ n. Num (flag_number (is_zero n)) ∷ (stack ++ below)) (same_top x (stack ++ below) stack), omega arith)
operation_above Not [] below few = absurd (omega arith)
operation_above BitNot (x ∷ stack) below few = (ap (λ n. Num (complement n) ∷ (stack ++ below)) (same_top x (stack ++ below) stack), omega arith)
operation_above BitNot [] below few = absurd (omega arith)
operation_above op (x ∷ y ∷ stack) below few = (
  ap (λ n. Num (combine op n (number_on (x ∷ y ∷ (stack ++ below)))) ∷ (stack ++ below)) (same_top y (stack ++ below) stack)
      ∙ ap (λ n. Num (combine op (number_on (y ∷ stack)) n) ∷ (stack ++ below)) (same_top x (y ∷ (stack ++ below)) (y ∷ stack)),
  omega arith,
)
operation_above op (x ∷ []) below few = absurd (omega arith)
operation_above op [] below few = absurd (omega arith)

-- the same of a whole test, and how many values it leaves
test_above : (test : List Token) (stack below : List Value) (n : ℕ) → are_constant test ≡ true → values_left (Some (length stack)) test ≡ Some n
    → (stack_after (stack ++ below) test ≡ stack_after stack test ++ below) × (length (stack_after stack test) ≡ n)
test_above [] stack below n constant left = (refl, same left)
  where
    same : Some (length stack) ≡ Some n → length stack ≡ n
    same e = cc
test_above (Constant z ∷ rest) stack below n constant left =
    let g : GoesOn (length stack) n (Constant z) rest = goes_on (length stack) n (Constant z) rest left in
    let P : ℕ → Type 0 = λ h. values_left (Some h) rest ≡ Some n in
    let is : next_height (length stack) (Constant z) ≡ length (Num z ∷ stack) = omega arith in
    test_above rest (Num z ∷ stack) below n constant (subst P is g.later)
test_above (Compute op ∷ rest) stack below n constant left =
    let g : GoesOn (length stack) n (Compute op) rest = goes_on (length stack) n (Compute op) rest left in
    let o = operation_above op stack below g.enough in
    let P : ℕ → Type 0 = λ h. values_left (Some h) rest ≡ Some n in
    let later = test_above rest (after_operation op stack) below n constant (subst P (sym o.1) g.later) in
    (ap (λ x. stack_after x rest) o.0 ∙ later.0, later.1)
test_above (k ∷ rest) stack below n constant left = absurd (cc (constant))

top_of : (stack below : List Value) (spare : ℕ) → length stack ≡ suc spare → number_on (stack ++ below) ≡ number_on stack
top_of [] below spare e = absurd (omega arith)
top_of (top ∷ stack) below spare e = same_top top (stack ++ below) stack

-- ---- the state after a test

after-append : (front path : List Token) (s : State) → state_after (front ++ path) s ≡ state_after path (state_after front s)
after-append [] path s = refl
after-append (k ∷ front) path s = after-append front path (meet k s)

stack_of_test : (test : List Token) (s : State) → are_constant test ≡ true → (state_after test s).stack ≡ stack_after s.stack test
stack_of_test [] s constant = refl
stack_of_test (Constant z ∷ rest) s constant = stack_of_test rest (meet (Constant z) s) constant
stack_of_test (Compute op ∷ rest) s constant = stack_of_test rest (meet (Compute op) s) constant
stack_of_test (k ∷ rest) s constant = absurd (cc (constant))

-- ---- a walk that meets a `%t` meets the test before it

constant_simple : (k : Token) → is_constant k ≡ true → IsSimple k
constant_simple (Constant z) e = tt
constant_simple (Compute op) e = tt
constant_simple k e = absurd (cc (e))

-- the mode stays
test_stays : (test : List Token) (m o : Mode) (w : Walk) → are_constant test ≡ true → Passes m test w o → o ≡ m
test_stays [] m o w constant p = p.1
test_stays (k ∷ test) m o w constant (fails, more, e, p) =
    let c = both_true (is_constant k) (are_constant test) constant in
    test_stays test (next_mode m k fails) o more c.1 p ∙ simple_stays m k fails (constant_simple k c.0)

-- in Run all is met
test_met : (test : List Token) (o : Mode) (w : Walk) → are_constant test ≡ true → Passes Run test w o → path_of w test ≡ test
test_met [] o w constant p = ap (λ x. path_of x []) p.0
test_met (k ∷ test) o w constant (fails, more, e, p) =
    let c = both_true (is_constant k) (are_constant test) constant in
    let P : Mode → Type 0 = λ m. Passes m test more o in
    ap (λ x. path_of x (k ∷ test)) e ∙ ap (λ x. k ∷ x) (test_met test o more c.1 (subst P (simple_stays Run k fails (constant_simple k c.0)) p))

nothing_met : (w : Walk) → path_of w [] ≡ []
nothing_met [] = refl
nothing_met (b ∷ w) = refl

passed_over : {A : Type 0} (mark : Bool) (w more : Walk) → mark ≡ false → w ≡ mark ∷ more → path_of w (CondThen ∷ []) ≡ CondThen ∷ [] → A
passed_over mark w more past e met =
    let is : [] ≡ CondThen ∷ [] = sym (nothing_met more) ∙ sym (ap (λ x. path_of x (CondThen ∷ [])) (e ∙ ap (λ b. b ∷ more) past)) ∙ met in
    absurd (cc)

-- a `%t` that is met is met in Run
met_in_run : (m o : Mode) (rest : List Token) (w : Walk) → Passes m (CondThen ∷ rest) w o → path_of w (CondThen ∷ []) ≡ CondThen ∷ [] → m ≡ Run
met_in_run Run o rest w p met = refl
met_in_run (ToElse n) o rest w (fails, more, e, p) met = passed_over (is_running (ToElse n) || is_running (next_mode (ToElse n) CondThen fails)) w more (ap is_running (then_stays (ToElse n) fails refl)) e met
met_in_run (ToEnd n) o rest w (fails, more, e, p) met = passed_over (is_running (ToEnd n) || is_running (next_mode (ToEnd n) CondThen fails)) w more (ap is_running (then_stays (ToEnd n) fails refl)) e met

-- on each walk that meets the `%t`, what is met before it ends with the test
test_is_met : (head test rest : List Token) (w : Walk) (o : Mode) → are_constant test ≡ true → Passes Run ((head ++ test) ++ CondThen ∷ rest) w o
    → path_of w ((head ++ test) ++ CondThen ∷ []) ≡ path_of w (head ++ test) ++ CondThen ∷ [] → (path : List Token) × (path_of w (head ++ test) ≡ path ++ test)
test_is_met head test rest w o constant p met =
    let a : Split (head ++ test) (CondThen ∷ rest) Run o w = passes_split (head ++ test) (CondThen ∷ rest) Run o w p in
    let b : Split head test Run a.between a.front = passes_split head test Run a.between a.front a.first in
    let front : path_of w (head ++ test) ≡ path_of a.front (head ++ test) = ap (λ x. path_of x (head ++ test)) a.joined ∙ met_front (head ++ test) Run a.between a.front a.back a.first in
    let whole : path_of w ((head ++ test) ++ CondThen ∷ []) ≡ path_of a.front (head ++ test) ++ path_of a.back (CondThen ∷ []) =
    ap (λ x. path_of x ((head ++ test) ++ CondThen ∷ [])) a.joined ∙ path_of-append (head ++ test) (CondThen ∷ []) Run a.between a.front a.back a.first in
    let then_met : path_of a.back (CondThen ∷ []) ≡ CondThen ∷ [] =
    append_cancel_left (path_of a.front (head ++ test)) (path_of a.back (CondThen ∷ [])) (CondThen ∷ []) (sym whole ∙ met ∙ ap (λ x. x ++ CondThen ∷ []) front) in
    let runs : b.between ≡ Run = sym (test_stays test b.between a.between b.back constant b.second) ∙ met_in_run a.between o rest a.back a.second then_met in
    let P : Mode → Type 0 = λ m. Passes m test b.back a.between in
    let all : path_of b.back test ≡ test = test_met test a.between b.back constant (subst P runs b.second) in (
      path_of b.front head,
      front ∙ ap (λ x. path_of x (head ++ test)) b.joined ∙ path_of-append head test Run b.between b.front b.back b.first ∙ ap (λ x. path_of b.front head ++ x) all,
    )

-- ---- the law

value_on_top : (test path : List Token) (spare : ℕ) (s : State) → are_constant test ≡ true → values_left (Some 0) test ≡ Some (suc spare)
    → number_on (state_after (path ++ test) s).stack ≡ value_of test
value_on_top test path spare s constant leaves =
    let before : State = state_after path s in
    let t = test_above test [] before.stack (suc spare) constant leaves in
    ap (λ (x : State). number_on x.stack) (after-append path test s) ∙ ap number_on (stack_of_test test before constant) ∙ ap number_on t.0 ∙ top_of (stack_after [] test) before.stack spare t.1

pops_always : (bytes taken : List ℕ) (before : List Token) → Written before taken → (found : IsConstantTest before) → PopsAlways bytes taken (value_of found.test)
pops_always bytes taken before written found stands walk walked met s =
    let over : Over true Run (tokens stands.tree) walk = walk_passes true stands.tree walk stands.writes.formed walked in
    let front : List Token = found.head ++ found.first ∷ [] in
    let is : stands.before ≡ front ++ found.test =
    one_cutting stands.before before taken stands.written written ∙ found.spans ∙ sym (append_assoc found.head (found.first ∷ []) found.test) in
    let P : List Token → Type 0 = λ x. Passes Run x walk over.to in
    let passes : Passes Run ((front ++ found.test) ++ CondThen ∷ stands.after) walk over.to = subst P (stands.spans ∙ ap (λ x. x ++ CondThen ∷ stands.after) is) over.passes in
    let Q : List Token → Type 0 = λ x. path_of walk (x ++ CondThen ∷ []) ≡ path_of walk x ++ CondThen ∷ [] in
    let m = test_is_met front found.test stands.after walk over.to found.constant passes (subst Q is met) in
    ap (λ x. number_on (state_after x s).stack) (ap (λ x. path_of walk x) is ∙ m.1) ∙ value_on_top found.test m.0 found.spare s found.constant found.leaves

pub constant_tests_pop_their_value : ConstantTestsPopTheirValue
constant_tests_pop_their_value = pops_always
