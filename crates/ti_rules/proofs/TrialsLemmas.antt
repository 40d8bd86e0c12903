-- A text of which nothing is told in one entry is quiet.
use Rattle.std.proofs.Common.{◌≡◌, ap, arith, length, length-append, Bool, List, Option, None, Some, [], ◌∷◌, ℕ, false, refl, true}
use Rattle.ti_values.specs.Ranges.{values}
use Rattle.ti_values.specs.declared.range.Range.{Range}
use Rattle.ti_rules.specs.Lines.{Adds, InTurn}
use Rattle.ti_rules.specs.Remarks.{Evidence, Remark}
use Rattle.ti_rules.specs.declared.finding.Finding.{Finding}
use Rattle.ti_rules.specs.Trials.{IsQuiet}
use Rattle.ti_rules.specs.Values.{IsNumbersReport, IsRemarkOf, IsUnendedReport, Trial}

-- where nothing is told of one name, nothing is told of another
untold : {X : Type 0} (IsFound : Option X → Type 0) (finding : Finding) (evidence again : X → Evidence) (t u : Trial) → IsRemarkOf IsFound finding evidence t [] → IsRemarkOf IsFound finding again u []
untold IsFound finding evidence again t u (None, found, is) = (None, found, refl)
untold IsFound finding evidence again t u (Some x, found, is) = absurd (cc)

-- a trial of a text under a name
abbrev trial : List ℕ → List ℕ → Range → List (List ℕ) → Trial
trial name text range sent = record { name = name; text = text; tried = values range; sent = sent }

untold_unended : (ansi : Bool) (name other text : List ℕ) (range : Range) (sent : List (List ℕ)) → IsUnendedReport ansi (trial name text range sent) [] → IsUnendedReport ansi (trial other text range sent) []
untold_unended false name other text range sent is = refl
untold_unended true name other text range sent (None, found, is) = (None, found, refl)
untold_unended true name other text range sent (Some x, found, is) = absurd (cc)

-- of two kinds that come to nothing each comes to nothing
both : (Are AreMore Others OtherMore : List Remark → Type 0) → (Are [] → Others []) → (AreMore [] → OtherMore []) → InTurn Are AreMore [] → InTurn Others OtherMore []
both Are AreMore Others OtherMore f h ([], [], are, more, is) = ([], [], f are, h more, refl)
both Are AreMore Others OtherMore f h ([], x ∷ xs, are, more, is) = absurd (cc)
both Are AreMore Others OtherMore f h (x ∷ xs, ys, are, more, is) = absurd (cc)

pub quiet : (ansi : Bool) (name text : List ℕ) (range : Range) → IsNumbersReport ansi name text range [] → IsQuiet ansi text range
quiet ansi name text range (sent, are, report) =
    record {
      silent = λ other.
          let t = trial name text range sent in
          let u = trial other text range sent in
          (sent, are, both _ _ _ _ (untold _ _ _ _ t u) (both _ _ _ _ (untold _ _ _ _ t u) (both _ _ _ _ (untold _ _ _ _ t u) (untold_unended ansi name other text range sent))) report);
    }

-- so it is if no remark was added
pub unchanged : (ansi : Bool) (name text : List ℕ) (range : Range) (old new : List Remark) → Adds (IsNumbersReport ansi name text range) old new → length new ≡ length old → IsQuiet ansi text range
unchanged ansi name text range old new ([], report, is) same = quiet ansi name text range report
unchanged ansi name text range old new (x ∷ xs, report, is) same = absurd (omega (arith, same, ap length is, length-append old (x ∷ xs)))
