-- What a reader holds after one more piece.
use Rattle.std.proofs.Common.{◌≡◌, ℕ, ◌<◌, ◌≤◌, List, [], ◌∷◌, ◌++◌, length, sym, ap, subst, ◌∙◌}
use Rattle.std.specs.Prelude.{Option, Some, None}
use Rattle.ti_base.specs.Limits.{most_entry_bytes}
use Rattle.ti_layout.specs.declared.fault.Refused.{Refused}
use Rattle.ti_layout.specs.declared.stage.Stage.{Stage}
use Rattle.ti_layout.specs.Refusal.{failure}
use Rattle.ti_layout.specs.Stages.{Stands, StandsAt, Waits}
use Rattle.ti_layout.proofs.StageStepLemmas.{stands_on, stands_now}
use Rattle.ti_entry.specs.Reading.{Reading, reading_of, reading_after, IsReading}
use Rattle.ti_entry.proofs.FeedLemmas.{reading_with, reading_of-passed, reading_of-refused, reading_after-none, front_before_failure-last}
use Rattle.ti_entry.proofs.WholeStageLemmas.{waits_none_failed}

-- a reader that holds no refusal, by its parts
pub none_held : {kept : List ℕ} {refusal : Option Refused} {old : Reading} → reading_with kept refusal ≡ old → old.refusal ≡ None → refusal ≡ None
none_held is first = ap (λ (r : Reading). r.refusal) is ∙ first

fed_of : {kept : List ℕ} {refusal : Option Refused} {old : Reading} (piece : List ℕ) → reading_with kept refusal ≡ old → old.refusal ≡ None → reading_of (kept ++ piece) ≡ reading_after old piece
fed_of {old = old} piece is first = ap (λ (r : Reading). reading_of (r.kept ++ piece)) is ∙ sym (reading_after-none old piece first)

-- ---- a piece with which no check fails

pub record Takes (old : Reading) (piece now : List ℕ) (stage : Stage) (refusal : Option Refused) : Type 0 where
  pub holds : IsReading now stage refusal
  pub fed : reading_with now refusal ≡ reading_after old piece

-- the next check is made on it, and waits for more
pub takes : {kept now slice : List ℕ} {stage : Stage} {refusal : Option Refused} {old : Reading} (piece : List ℕ) → reading_with kept refusal ≡ old → old.refusal ≡ None → now ≡ kept ++ piece
    → slice ≡ now → length slice ≤ most_entry_bytes → Stands slice stage → Waits slice stage → Takes old piece now stage refusal
takes {kept} {now} {slice} {stage} {refusal} {old} piece is first longer same most stands waits =
    let waits_now = subst (λ (k : List ℕ). Waits k stage) same waits in
    let none_failed : failure now ≡ None = waits_none_failed now stage waits_now in
    record {
      holds = record {
        most = subst (λ (k : List ℕ). length k ≤ most_entry_bytes) same most;
        none_failed = none_failed;
        stands = λ e. subst (λ (k : List ℕ). Stands k stage) same stands;
        waits = λ e. waits_now;
      };
      fed = ap (λ k. reading_with k refusal) longer ∙ ap (reading_with (kept ++ piece)) (none_held is first)
          ∙ sym (reading_of-passed (kept ++ piece) (ap failure (sym longer) ∙ none_failed)) ∙ fed_of piece is first;
    }

-- the next check still waits for more
pub takes_short : {kept now slice : List ℕ} {stage : Stage} {refusal : Option Refused} {old : Reading} {awaited : ℕ} (piece : List ℕ) → IsReading kept stage refusal → reading_with kept refusal ≡ old → old.refusal ≡ None
    → now ≡ kept ++ piece → slice ≡ now → length slice ≤ most_entry_bytes → ((bytes : List ℕ) → StandsAt bytes stage → length bytes < awaited → Waits bytes stage) → length slice < awaited → Takes old piece now stage refusal
takes_short {kept} {now} {slice} {stage} piece holds is first longer same most waits short =
    let stands = subst (λ (k : List ℕ). Stands k stage) (sym longer ∙ sym same) (stands_on kept piece stage (holds.stands (none_held is first))) in
    takes piece is first longer same most stands (waits slice (stands_now slice stage stands) short)

-- ---- a byte with which one fails

pub refusal_holds : {kept now : List ℕ} {stage other : Stage} {refusal : Option Refused} {r : Refused} → IsReading kept stage refusal → now ≡ kept → IsReading now other (Some r)
refusal_holds holds same = record {
  most = subst (λ (k : List ℕ). length k ≤ most_entry_bytes) (sym same) holds.most;
  none_failed = ap failure same ∙ holds.none_failed;
  stands = λ e. absurd (cc);
  waits = λ e. absurd (cc);
}

pub refusal_fed : {kept now : List ℕ} {stage : Stage} {refusal : Option Refused} {old : Reading} {r : Refused} (byte : ℕ) → IsReading kept stage refusal → reading_with kept refusal ≡ old → old.refusal ≡ None → now ≡ kept
    → failure (kept ++ byte ∷ []) ≡ Some r → reading_with now (Some r) ≡ reading_after old (byte ∷ [])
refusal_fed {kept} {r = r} byte holds is first same failed =
    ap (λ k. reading_with k (Some r)) (same ∙ sym (front_before_failure-last kept byte r holds.none_failed failed))
    ∙ sym (reading_of-refused (kept ++ byte ∷ []) r failed) ∙ fed_of (byte ∷ []) is first
