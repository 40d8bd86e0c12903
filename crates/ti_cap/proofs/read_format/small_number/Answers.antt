use Rattle.std.proofs.Common.{◌≡◌, ◌+◌, ◌-◌, ◌*◌, ◌∙◌, length, drop, get_or, ap, arith, ◌∷◌}
use Rattle.ti_cap.specs.Spelling.{number_from}
use Rattle.ti_cap.specs.inner.Lexer.{front, is_digit}
use Rattle.ti_cap.proofs.DigitsReadLemmas.{number_from-ge, front_digit, front_other}
use Rattle.ti_cap.proofs.FrontLemmas.{front_within, rest_after_front}
use Rattle.ti_cap.proofs.read_format.small_number.Goals as goal

pub returns-then-not-is_ascii_digit-clause-left : goal.returns-then-not-is_ascii_digit-clause-left
returns-then-not-is_ascii_digit-clause-left c =
    let ends : length (front is_digit (drop c.loop-count.count c.args.bytes.now)) ≡ 0 = ap length (front_other c.loop-count.count c.args.bytes.now c.loop-count-test.true c.if-not-is_ascii_digit.ensures.cases) in
    let all : c.loop-count.count ≡ length (front is_digit c.args.bytes.now) = omega (arith, c.loop-count.invariant.long, ends) in
    ap (λ n. drop n c.args.bytes.now) all ∙ rest_after_front is_digit c.args.bytes.now

pub returns-then-number-gt-GREATEST-clause-none : goal.returns-then-number-gt-GREATEST-clause-none
returns-then-number-gt-GREATEST-clause-none c =
    let d = get_or c.args.bytes.now c.loop-count.count 0 in
    let next = front is_digit (drop (c.loop-count.count + 1) c.args.bytes.now) in
    let digits : front is_digit (drop c.loop-count.count c.args.bytes.now) ≡ d ∷ next = front_digit c.loop-count.count c.args.bytes.now c.loop-count-test.true c.if-not-is_ascii_digit.ensures.cases.0 c.if-not-is_ascii_digit.ensures.cases.1 in
    omega (
      arith,
      c.loop-count.invariant.same,
      ap (λ x. number_from c.loop-count.number x) digits,
      number_from-ge (10 * c.loop-count.number + (d - 48)) next,
      c.if-number-gt-GREATEST.true,
    )

pub returns-clause-left : goal.returns-clause-left
returns-clause-left c =
    let all : length c.args.bytes.now ≡ length (front is_digit c.args.bytes.now) =
    omega (arith, c.loop-count.invariant.long, front_within is_digit c.args.bytes.now, c.loop-count-test.false) in
    ap (λ n. drop n c.args.bytes.now) all ∙ rest_after_front is_digit c.args.bytes.now
