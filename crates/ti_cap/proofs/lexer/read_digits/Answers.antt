use Rattle.std.proofs.Common.{◌+◌, drop-cons, add-one, arith, ◌∙◌, sym, ap, w32, Ok}
use Rattle.std.proofs.lemmas.List.{drop_all}
use Rattle.std.proofs.lemmas.Int.{to_z_pos}
use Rattle.ti_cap.specs.inner.Lexer.{digits_read}
use Rattle.ti_cap.proofs.DigitsReadLemmas.{digit_step, digit_large, brace_step, other_step, digit_end}
use Rattle.ti_cap.specs.declared.language.Token.TheVariants.{Constant}
use Rattle.ti_cap.proofs.lexer.read_digits.Goals as goal

pub returns-then-longer-gt-GREATEST : goal.returns-then-longer-gt-GREATEST
returns-then-longer-gt-GREATEST c =
    sym (digit_large c.loop-i.value c.loop-i.i _ _ (omega arith) (omega arith) (omega arith))
    ∙ ap (λ s. digits_read c.loop-i.value c.loop-i.i s) (sym (drop-cons c.args.bytes.now c.loop-i.i 0 c.loop-i-test.true))
    ∙ c.loop-i.invariant.same

pub returns-then-i-gt0 : goal.returns-then-i-gt0
returns-then-i-gt0 c =
    ap (λ z. Ok (Constant z, c.loop-i.i + 3)) (to_z_pos w32 c.loop-i.value (omega (arith, c.loop-i.invariant.small)))
    ∙ sym (brace_step c.loop-i.value c.loop-i.i _ _ c.if-byte-eq125.true c.if-i-gt0.true)
    ∙ ap (λ s. digits_read c.loop-i.value c.loop-i.i s) (sym (drop-cons c.args.bytes.now c.loop-i.i 0 c.loop-i-test.true))
    ∙ c.loop-i.invariant.same

pub returns-else-byte-eq125 : goal.returns-else-byte-eq125
returns-else-byte-eq125 c =
    sym (other_step c.loop-i.value c.loop-i.i _ _ (grind arith) (grind arith))
    ∙ ap (λ s. digits_read c.loop-i.value c.loop-i.i s) (sym (drop-cons c.args.bytes.now c.loop-i.i 0 c.loop-i-test.true))
    ∙ c.loop-i.invariant.same

pub loop-i-preserved : goal.loop-i-preserved
loop-i-preserved c = record {
  small = omega arith;
  same =
      rw c.from.ensures (sym (digit_step c.loop-i.value c.loop-i.i _ _ c.if-byte-ge48.true c.if-byte-le57.true (omega arith))
      ∙ ap (λ s. digits_read c.loop-i.value c.loop-i.i s) (sym (rw add-one (drop-cons c.args.bytes.now c.loop-i.i 0 c.loop-i-test.true)))
      ∙ c.loop-i.invariant.same);
}

pub returns : goal.returns
returns c = sym (digit_end c.loop-i.value c.loop-i.i)
    ∙ ap (λ s. digits_read c.loop-i.value c.loop-i.i s) (sym (drop_all c.loop-i.i c.args.bytes.now c.loop-i-test.false))
    ∙ c.loop-i.invariant.same
