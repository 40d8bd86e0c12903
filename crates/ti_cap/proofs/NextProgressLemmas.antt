-- One token more moves the kept values as the paths go.
use Rattle.std.proofs.Common.{◌≡◌, ℕ, List, [], ◌∷◌, ◌++◌, refl, sym, ◌∙◌, ap, subst}
use Rattle.std.specs.Prelude.{Some, max}
use Rattle.ti_cap.specs.declared.language.Token.{Token}
use Rattle.ti_cap.specs.declared.language.Token.TheVariants.{CondOpen, CondThen, CondElse, CondClose}
use Rattle.ti_cap.specs.declared.scan.ConditionalPart.{ConditionalPart}
use Rattle.ti_cap.specs.declared.scan.ConditionalPart.TheVariants.{FirstTest, Body, Otherwise}
use Rattle.ti_cap.specs.inner.Analysis.{Frame, Progress, parts_of, next_progress, progress_then, progress_else, progress_close}
use Rattle.ti_cap.proofs.PartsLemmas.{allowed, at_then, at_else, at_close}
use Rattle.ti_cap.proofs.ProgressLemmas.{Act, IsRising, Sums, sums_simple, sums_open, sums_then, sums_else, sums_close}

-- the marks after a part change no value
abbrev pub IsStill : Act → Type 0
IsStill act = ((x : ℕ) → act x CondElse ≡ x) × ((x : ℕ) → act x CondClose ≡ x)

-- the kept values, and the parts of the open conditionals, after a token
pub record Moves (act : Act) (before : List Token) (k : Token) (s : Progress) (qs : List ConditionalPart) : Type 0 where
  pub sums : Sums act (before ++ k ∷ []) s
  pub stands : parts_of s.frames ≡ qs

by_then : (act : Act) (before : List Token) (running failed done : ℕ) (part : ConditionalPart) (fs : List Frame) (qs : List ConditionalPart) → IsRising act
    → at_then (part ∷ parts_of fs) ≡ Some qs → Sums act before (record { running = running; frames = record { part = part; failed = failed; done = done } ∷ fs })
    → Moves act before CondThen (progress_then (act running CondThen) (record { part = part; failed = failed; done = done } ∷ fs)) qs
by_then act before running failed done Body fs qs rising e sums = absurd (cc)
by_then act before running failed done FirstTest fs qs rising e sums =
    record { sums = sums_then act before running (record { part = FirstTest; failed = failed; done = done }) fs rising refl sums; stands = cc }
by_then act before running failed done Otherwise fs qs rising e sums =
    record { sums = sums_then act before running (record { part = Otherwise; failed = failed; done = done }) fs rising refl sums; stands = cc }

by_else : (act : Act) (before : List Token) (running failed done : ℕ) (part : ConditionalPart) (fs : List Frame) (qs : List ConditionalPart) → IsRising act → IsStill act
    → at_else (part ∷ parts_of fs) ≡ Some qs → Sums act before (record { running = running; frames = record { part = part; failed = failed; done = done } ∷ fs })
    → Moves act before CondElse (progress_else (act running CondElse) (record { part = part; failed = failed; done = done } ∷ fs)) qs
by_else act before running failed done FirstTest fs qs rising still e sums = absurd (cc)
by_else act before running failed done Otherwise fs qs rising still e sums = absurd (cc)
by_else act before running failed done Body fs qs rising still e sums =
    let P : ℕ → Type 0 = λ z. Sums act (before ++ CondElse ∷ []) (record { running = z; frames = record { part = Otherwise; failed = 0; done = max done (act running CondElse) } ∷ fs }) in
    record {
      sums = subst P (still.0 failed) (sums_else act before running (record { part = Body; failed = failed; done = done }) fs rising refl sums);
      stands = cc;
    }

by_close : (act : Act) (before : List Token) (running failed done : ℕ) (part : ConditionalPart) (fs : List Frame) (qs : List ConditionalPart) → IsRising act → IsStill act
    → at_close (part ∷ parts_of fs) ≡ Some qs → Sums act before (record { running = running; frames = record { part = part; failed = failed; done = done } ∷ fs })
    → Moves act before CondClose (progress_close (act running CondClose) (record { part = part; failed = failed; done = done } ∷ fs)) qs
by_close act before running failed done part fs qs rising still e sums = record {
  sums =
      let P : ℕ → Type 0 = λ z. Sums act (before ++ CondClose ∷ []) (record { running = z; frames = fs }) in
      subst P (still.1 (max done (max failed running)) ∙ ap (λ z. max done (max failed z)) (sym (still.1 running)))
      (sums_close act before running (record { part = part; failed = failed; done = done }) fs rising sums);
  stands = closed part e;
}
  where
    closed : (p : ConditionalPart) → at_close (p ∷ parts_of fs) ≡ Some qs → parts_of fs ≡ qs
    closed FirstTest e = absurd (cc)
    closed Body e = cc
    closed Otherwise e = cc

then_frames : (act : Act) (before : List Token) (running : ℕ) (frames : List Frame) (qs : List ConditionalPart) → IsRising act → at_then (parts_of frames) ≡ Some qs
    → Sums act before (record { running = running; frames = frames }) → Moves act before CondThen (progress_then (act running CondThen) frames) qs
then_frames act before running [] qs rising e sums = absurd (cc)
then_frames act before running (f ∷ fs) qs rising e sums = by_then act before running f.failed f.done f.part fs qs rising e sums

else_frames : (act : Act) (before : List Token) (running : ℕ) (frames : List Frame) (qs : List ConditionalPart) → IsRising act → IsStill act → at_else (parts_of frames) ≡ Some qs
    → Sums act before (record { running = running; frames = frames }) → Moves act before CondElse (progress_else (act running CondElse) frames) qs
else_frames act before running [] qs rising still e sums = absurd (cc)
else_frames act before running (f ∷ fs) qs rising still e sums = by_else act before running f.failed f.done f.part fs qs rising still e sums

close_frames : (act : Act) (before : List Token) (running : ℕ) (frames : List Frame) (qs : List ConditionalPart) → IsRising act → IsStill act → at_close (parts_of frames) ≡ Some qs
    → Sums act before (record { running = running; frames = frames }) → Moves act before CondClose (progress_close (act running CondClose) frames) qs
close_frames act before running [] qs rising still e sums = absurd (cc)
close_frames act before running (f ∷ fs) qs rising still e sums = by_close act before running f.failed f.done f.part fs qs rising still e sums

-- a token that may stand
pub sums_move : (act : Act) (before : List Token) (s : Progress) (k : Token) (qs : List ConditionalPart) → IsRising act → IsStill act → allowed k (parts_of s.frames) ≡ Some qs
    → Sums act before s → Moves act before k (next_progress s k (act s.running k)) qs
sums_move act before s CondOpen qs rising still e sums = record { sums = sums_open act before s rising sums; stands = cc }
sums_move act before s CondThen qs rising still e sums = then_frames act before s.running s.frames qs rising e sums
sums_move act before s CondElse qs rising still e sums = else_frames act before s.running s.frames qs rising still e sums
sums_move act before s CondClose qs rising still e sums = close_frames act before s.running s.frames qs rising still e sums
sums_move act before s k qs rising still e sums = record { sums = sums_simple act before s k rising tt sums; stands = cc }
