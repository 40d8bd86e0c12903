-- What is found of harm is reported.
use Rattle.std.proofs.Common.{◌≡◌, ◌∙◌, ◌&&◌, ◌||◌, Bool, true, false, List, [], ◌∷◌, ap, ap₂, cond, filter, length, map, not, refl, sym, true≢false}
use Rattle.std.specs.Prelude.{◌==◌}
use Rattle.ti_lint.specs.declared.level.Level.{Level}
use Rattle.ti_lint.specs.declared.level.Level.TheVariants as levels
use Rattle.ti_rules.specs.Findings.{hidden_by, is_harm, is_only_all}
use Rattle.ti_rules.specs.Remarks.{Remark}
use Rattle.ti_rules.specs.Reported.{HarmIsReported, Head, head, is_all, is_hidden_by, is_reported}
use Rattle.ti_rules.specs.declared.finding.Finding.{Finding}
use Rattle.ti_rules.specs.declared.finding.Finding.TheVariants.{ComputedByte, Control, NotAllTried, NotEcma, NotFollowed, OpenString, CutString, UnknownFunction, DividesByParameter, DividesByZero, DividesLeast, EmptyAlias, LongDelay, LongDelays, LongNames, NamesControl, NamesMalformed, OpenLine, OwnNameControl, Reads, Runs, Size, ManyColors, UnfitAlias}

-- of what passes a test, those that pass another one that implies it are the same
kept : {X : Type 0} (passes harms : X → Bool) → ((x : X) → harms x ≡ true → passes x ≡ true) → (xs : List X) → filter harms (filter passes xs) ≡ filter harms xs
kept passes harms implies [] = refl
kept passes harms implies (x ∷ xs) = by (passes x) refl (harms x) refl (kept passes harms implies xs)
  where
    by : (a : Bool) → passes x ≡ a → (b : Bool) → harms x ≡ b → filter harms (filter passes xs) ≡ filter harms xs
        → filter harms (cond a (x ∷ filter passes xs) (filter passes xs)) ≡ cond b (x ∷ filter harms xs) (filter harms xs)
    by true e b f rest = ap (λ c. cond c (x ∷ filter harms (filter passes xs)) (filter harms (filter passes xs))) f ∙ ap (λ l. cond b (x ∷ l) l) rest
    by false e true f rest = absurd (true≢false (sym (implies x f) ∙ e))
    by false e false f rest = rest

-- a finding of harm is in each report, and names no other one that hides it
unhidden : (finding : Finding) → is_harm finding ≡ true → (is_only_all finding ≡ false) × ((length (hidden_by finding) == 0) ≡ true)
unhidden Runs harm = (refl, refl)
unhidden Reads harm = (refl, refl)
unhidden Size harm = (refl, refl)
unhidden ManyColors harm = (refl, refl)
unhidden LongDelay harm = (refl, refl)
unhidden LongDelays harm = (refl, refl)
unhidden NamesControl harm = (refl, refl)
unhidden NamesMalformed harm = (refl, refl)
unhidden EmptyAlias harm = (refl, refl)
unhidden UnfitAlias harm = (refl, refl)
unhidden LongNames harm = (refl, refl)
unhidden OwnNameControl harm = (refl, refl)
unhidden (Control effect) harm = (refl, refl)
unhidden OpenLine harm = (refl, refl)
unhidden UnknownFunction harm = (refl, refl)
unhidden ComputedByte harm = (refl, refl)
unhidden OpenString harm = (refl, refl)
unhidden CutString harm = (refl, refl)
unhidden NotFollowed harm = (refl, refl)
unhidden NotEcma harm = (refl, refl)
unhidden NotAllTried harm = (refl, refl)
unhidden DividesByZero harm = (refl, refl)
unhidden DividesByParameter harm = (refl, refl)
unhidden DividesLeast harm = (refl, refl)
unhidden finding harm = absurd (true≢false (sym harm))

any_level : (level : Level) → ((is_all level || true) && true) ≡ true
any_level levels.Errors = refl
any_level levels.All = refl

harm_passes : (level : Level) (heads : List Head) (r : Remark) → is_harm r.finding ≡ true → is_reported level heads r ≡ true
harm_passes level heads r harm =
    let (always, shown) = unhidden r.finding harm in
    ap₂ (λ o h. (is_all level || not o) && not (not h && is_hidden_by heads r)) always shown ∙ any_level level

pub harm_is_reported : HarmIsReported
harm_is_reported level found = kept (is_reported level (map head found)) (λ r. is_harm r.finding) (harm_passes level (map head found)) found
