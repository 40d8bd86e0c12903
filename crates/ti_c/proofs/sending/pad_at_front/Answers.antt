use Rattle.std.proofs.Common.{◌≡◌, ◌-◌, ◌↔◌, ℕ, List, Result, Err, length, take, subst, arith}
use Rattle.ti_pad.specs.Into.{IsPadIntoFault}
use Rattle.ti_pad.specs.Padded.{padded_text}
use Rattle.ti_pad.specs.declared.slice.PadIntoFault.{PadIntoFault}
use Rattle.ti_c.proofs.sending.pad_at_front.Goals as goal

pub returns-in-Err-clause-faults : goal.returns-in-Err-clause-faults
returns-in-Err-clause-faults c =
    let split = c.split_at_mut-text in
    let left : length split.result.1.now ≡ length c.args.out.now - c.args.written = omega (arith, split.ensures.back_len) in
    let F : List ℕ → ℕ → Type 0 = λ text room. (fault : PadIntoFault) → (◌≡◌ {A = Result ℕ PadIntoFault} (Err c.in-Err.fault) (Err fault)) ↔ IsPadIntoFault (padded_text text c.args.padding.now) room fault in
    subst (λ (n : ℕ). F (take c.args.written c.args.out.now) n) left
    (subst (λ (text : List ℕ). F text (length split.result.1.now)) split.ensures.front c.in-Err.ensures.faults)
