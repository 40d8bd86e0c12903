-- Some walk runs at each place where a tree goes on, and some walk waits for the next `%e` or `%;` of each body.
use Rattle.std.proofs.Common.{◌≡◌, ℕ, zero, suc, List, [], ◌∷◌, ◌++◌, get_or, refl, subst, Bool, true, false}
use Rattle.std.specs.Prelude.{Some}
use Rattle.ti_cap.specs.declared.language.Token.{Token}
use Rattle.ti_cap.specs.declared.language.Token.TheVariants.{CondOpen, CondThen, CondElse, CondClose}
use Rattle.ti_cap.specs.declared.scan.ConditionalPart.{ConditionalPart}
use Rattle.ti_cap.specs.declared.scan.ConditionalPart.TheVariants.{FirstTest, Body, Otherwise}
use Rattle.ti_cap.specs.Path.{Walk}
use Rattle.ti_cap.specs.declared.mode.Mode.{Mode}
use Rattle.ti_cap.specs.declared.mode.Mode.TheVariants.{Run, ToElse}
use Rattle.ti_cap.specs.Pass.{next_mode, Passes}
use Rattle.ti_cap.proofs.PassesLemmas.{passes-append}
use Rattle.ti_cap.proofs.PartsLemmas.{allowed, at_then, at_else, at_close}
use Rattle.ti_cap.proofs.ReachesLemmas.{is_met}

abbrev pub Comes : List Token → Mode → Type 0
Comes before m = (w : Walk) × Passes Run before w m

pub record IsAlive (parts : List ConditionalPart) (before : List Token) : Type 0 where
  pub runs : Comes before Run
  pub waits : (n : ℕ) → get_or parts n FirstTest ≡ Body → Comes before (ToElse n)

pub alive_start : IsAlive [] []
alive_start = record { runs = ([], (refl, refl)); waits = λ n e. absurd (cc) }

more : (before : List Token) (k : Token) (m o : Mode) (fails : Bool) → next_mode m k fails ≡ o → Comes before m → Comes (before ++ k ∷ []) o
more before k m o fails leads c =
    let P : Mode → Type 0 = λ x. Comes (before ++ k ∷ []) x in
    subst P leads (c.0 ++ is_met m k fails ∷ [], passes-append before (k ∷ []) Run m (next_mode m k fails) c.0 (is_met m k fails ∷ []) c.1 (fails, [], refl, (refl, refl)))

along : (before : List Token) (qs rs : List ConditionalPart) → qs ≡ rs → IsAlive qs before → IsAlive rs before
along before qs rs e a = let P : List ConditionalPart → Type 0 = λ x. IsAlive x before in subst P e a

alive_open : (before : List Token) (ps : List ConditionalPart) → IsAlive ps before → IsAlive (FirstTest ∷ ps) (before ++ CondOpen ∷ [])
alive_open before ps a = record { runs = more before CondOpen Run Run false refl a.runs; waits = each }
  where
    each : (n : ℕ) → get_or (FirstTest ∷ ps) n FirstTest ≡ Body → Comes (before ++ CondOpen ∷ []) (ToElse n)
    each zero e = absurd (cc)
    each (suc n) e = more before CondOpen (ToElse n) (ToElse (suc n)) false refl (a.waits n e)

alive_then : (before : List Token) (part : ConditionalPart) (ps : List ConditionalPart) → IsAlive (part ∷ ps) before → IsAlive (Body ∷ ps) (before ++ CondThen ∷ [])
alive_then before part ps a = record { runs = more before CondThen Run Run false refl a.runs; waits = each }
  where
    each : (n : ℕ) → get_or (Body ∷ ps) n FirstTest ≡ Body → Comes (before ++ CondThen ∷ []) (ToElse n)
    each zero e = more before CondThen Run (ToElse zero) true refl a.runs
    each (suc n) e = more before CondThen (ToElse (suc n)) (ToElse (suc n)) false refl (a.waits (suc n) e)

alive_else : (before : List Token) (ps : List ConditionalPart) → IsAlive (Body ∷ ps) before → IsAlive (Otherwise ∷ ps) (before ++ CondElse ∷ [])
alive_else before ps a = record { runs = more before CondElse (ToElse zero) Run false refl (a.waits zero refl); waits = each }
  where
    each : (n : ℕ) → get_or (Otherwise ∷ ps) n FirstTest ≡ Body → Comes (before ++ CondElse ∷ []) (ToElse n)
    each zero e = absurd (cc)
    each (suc n) e = more before CondElse (ToElse (suc n)) (ToElse (suc n)) false refl (a.waits (suc n) e)

alive_close : (before : List Token) (part : ConditionalPart) (ps : List ConditionalPart) → IsAlive (part ∷ ps) before → IsAlive ps (before ++ CondClose ∷ [])
alive_close before part ps a = record {
  runs = more before CondClose Run Run false refl a.runs;
  waits = λ n e. more before CondClose (ToElse (suc n)) (ToElse n) false refl (a.waits (suc n) e);
}

by_then : (before : List Token) (ps qs : List ConditionalPart) → at_then ps ≡ Some qs → IsAlive ps before → IsAlive qs (before ++ CondThen ∷ [])
by_then before [] qs e a = absurd (cc)
by_then before (Body ∷ ps) qs e a = absurd (cc)
by_then before (FirstTest ∷ ps) qs e a = along (before ++ CondThen ∷ []) (Body ∷ ps) qs (cc) (alive_then before FirstTest ps a)
by_then before (Otherwise ∷ ps) qs e a = along (before ++ CondThen ∷ []) (Body ∷ ps) qs (cc) (alive_then before Otherwise ps a)

by_else : (before : List Token) (ps qs : List ConditionalPart) → at_else ps ≡ Some qs → IsAlive ps before → IsAlive qs (before ++ CondElse ∷ [])
by_else before [] qs e a = absurd (cc)
by_else before (FirstTest ∷ ps) qs e a = absurd (cc)
by_else before (Otherwise ∷ ps) qs e a = absurd (cc)
by_else before (Body ∷ ps) qs e a = along (before ++ CondElse ∷ []) (Otherwise ∷ ps) qs (cc) (alive_else before ps a)

by_close : (before : List Token) (ps qs : List ConditionalPart) → at_close ps ≡ Some qs → IsAlive ps before → IsAlive qs (before ++ CondClose ∷ [])
by_close before [] qs e a = absurd (cc)
by_close before (FirstTest ∷ ps) qs e a = absurd (cc)
by_close before (Body ∷ ps) qs e a = along (before ++ CondClose ∷ []) ps qs (cc) (alive_close before Body ps a)
by_close before (Otherwise ∷ ps) qs e a = along (before ++ CondClose ∷ []) ps qs (cc) (alive_close before Otherwise ps a)

by_simple : (before : List Token) (k : Token) (ps qs : List ConditionalPart) → next_mode Run k false ≡ Run → ((n : ℕ) → next_mode (ToElse n) k false ≡ ToElse n)
    → Some ps ≡ Some qs → IsAlive ps before → IsAlive qs (before ++ k ∷ [])
by_simple before k ps qs runs waits e a = along (before ++ k ∷ []) ps qs (cc) (record {
  runs = more before k Run Run false runs a.runs;
  waits = λ n b. more before k (ToElse n) (ToElse n) false (waits n) (a.waits n b);
})

-- one token more, where it may stand
pub alive_step : (before : List Token) (k : Token) (ps qs : List ConditionalPart) → allowed k ps ≡ Some qs → IsAlive ps before → IsAlive qs (before ++ k ∷ [])
alive_step before CondOpen ps qs e a = along (before ++ CondOpen ∷ []) (FirstTest ∷ ps) qs (cc) (alive_open before ps a)
alive_step before CondThen ps qs e a = by_then before ps qs e a
alive_step before CondElse ps qs e a = by_else before ps qs e a
alive_step before CondClose ps qs e a = by_close before ps qs e a
alive_step before k ps qs e a = by_simple before k ps qs refl (λ n. refl) e a
