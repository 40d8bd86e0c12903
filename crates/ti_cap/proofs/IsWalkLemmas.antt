-- The passes over the tokens of a tree are its walks.
use Rattle.std.proofs.Common.{◌≡◌, ◌⊎◌, inl, inr, List, [], ◌∷◌, ◌++◌, refl, sym, ◌∙◌, ap, subst, Bool, true, false, ◌||◌}
use Rattle.std.proofs.lemmas.List.{map-append, append-nil}
use Rattle.ti_cap.specs.declared.language.Token.{Token}
use Rattle.ti_cap.specs.declared.language.Token.TheVariants.{CondOpen, CondThen, CondElse, CondClose}
use Rattle.ti_cap.specs.Tree.{Sequence, Empty, Simple, Conditional, Arms, Lone, Else, ElseIf, tokens, arm_tokens, IsFormed, AreFormed}
use Rattle.ti_cap.specs.Path.{Walk, IsWalk, IsArmWalk, none_met}
use Rattle.ti_cap.specs.declared.mode.Mode.{Mode}
use Rattle.ti_cap.specs.declared.mode.Mode.TheVariants.{Run, ToElse, ToEnd}
use Rattle.ti_cap.specs.Pass.{next_mode, is_running, Passes}
use Rattle.ti_cap.proofs.NextModeLemmas.{simple_stays, deeper, deeper_opens, deeper_runs, deeper_closes, then_stays, else_stays}
use Rattle.ti_cap.proofs.PassesLemmas.{Split, passes_split, none_runs, some_runs, closes}

-- a pass whose first token has a known mark and leads to a known mode
pub record Step (mark : Bool) (m : Mode) (ks : List Token) (w : Walk) (o : Mode) : Type 0 where
  pub more : Walk
  pub marks : w ≡ mark ∷ more
  pub passes : Passes m ks more o

from : (m n o : Mode) (ks : List Token) (w : Walk) → m ≡ n → Passes m ks w o → Passes n ks w o
from m n o ks w e p = let P : Mode → Type 0 = λ x. Passes x ks w o in subst P e p

-- where a token leads however a test goes, and whether it is met
pub step_only : (mark : Bool) (m n : Mode) (k : Token) (ks : List Token) (w : Walk) (o : Mode) → ((fails : Bool) → next_mode m k fails ≡ n) → (is_running m || is_running n) ≡ mark
    → Passes m (k ∷ ks) w o → Step mark n ks w o
step_only mark m n k ks w o leads marks (fails, v, e, p) =
    record {
      more = v;
      marks = e ∙ ap (λ x. x ∷ v) (ap (λ x. is_running m || is_running x) (leads fails) ∙ marks);
      passes = from _ _ _ _ _ (leads fails) p;
    }

-- a part that is passed over
pub record Skipped (loose : Bool) (m : Mode) (ks : List Token) (w : Walk) (o : Mode) : Type 0 where
  pub walk : w ≡ none_met ks
  pub back : loose ≡ false → o ≡ m

past_walks : (a : List Token) (k : Token) (r : List Token) (u v x : Walk) → u ≡ none_met a → v ≡ false ∷ x → x ≡ none_met r → u ++ v ≡ none_met (a ++ k ∷ r)
past_walks a k r u v x p q t = rw (p, q, t) (sym (map-append (λ _. false) a (k ∷ r)))

-- a part and a token after it, both passed over, then the rest
pub record AfterIt (n : Mode) (a : List Token) (k : Token) (r : List Token) (w : Walk) (o : Mode) : Type 0 where
  pub more : Walk
  pub passes : Passes n r more o
  pub walk : more ≡ none_met r → w ≡ none_met (a ++ k ∷ r)

after_it : (m n : Mode) (a : List Token) (k : Token) (r : List Token) (w : Walk) (o : Mode) → is_running m ≡ false → is_running n ≡ false → ((f : Bool) → next_mode m k f ≡ n)
    → ((v : Walk) (x : Mode) → Passes m a v x → Skipped false m a v x)
    → Passes m (a ++ k ∷ r) w o → AfterIt n a k r w o
after_it m n a k r w o past past' leads skips p =
    let c : Split a (k ∷ r) m o w = passes_split a (k ∷ r) m o w p in
    let q : Skipped false m a c.front c.between = skips c.front c.between c.first in
    let s : Step false n r c.back o = step_only false m n k r c.back o leads (none_runs m n past past') (from _ m o (k ∷ r) c.back (q.back refl) c.second) in
    record { more = s.more; passes = s.passes; walk = λ e. c.joined ∙ past_walks a k r _ _ _ q.walk s.marks e }

mutual
  pub skip_only : (loose : Bool) (m : Mode) (s : Sequence) (w : Walk) (o : Mode) → is_running m ≡ false → IsFormed loose s → Passes m (tokens s) w o
      → Skipped loose m (tokens s) w o
  skip_only loose m Empty w o past h p = record { walk = p.0; back = λ _. p.1 }
  skip_only loose m (Simple k s) w o past h p =
      let q : Step false m (tokens s) w o = step_only false m m k (tokens s) w o (λ f. simple_stays m k f h.0) (none_runs m m past past) p in
      let r : Skipped loose m (tokens s) q.more o = skip_only loose m s q.more o past h.1 q.passes in
      record { walk = q.marks ∙ ap (λ x. false ∷ x) r.walk; back = r.back }
  skip_only loose m (Conditional arms true s) w o past h p =
      let within : is_running (deeper m) ≡ false = deeper_runs m ∙ past in
      let d : Step false (deeper m) (arm_tokens arms ++ CondClose ∷ tokens s) w o = step_only false m (deeper m) CondOpen _ w o (deeper_opens m) (none_runs m (deeper m) past within) p in
      let q : AfterIt m (arm_tokens arms) CondClose (tokens s) d.more o = after_it (deeper m) m (arm_tokens arms) CondClose (tokens s) d.more o within past (deeper_closes m)
      (λ v x. skip_arms_only false (deeper m) arms v x within (λ f. else_stays m f past) h.0) d.passes in
      let r : Skipped loose m (tokens s) q.more o = skip_only loose m s q.more o past h.1 q.passes in
      record { walk = d.marks ∙ ap (λ x. false ∷ x) (q.walk r.walk); back = r.back }
  skip_only loose m (Conditional arms false s) w o past h p =
      let within : is_running (deeper m) ≡ false = deeper_runs m ∙ past in
      let P : Sequence → Type 0 = λ x. Passes m (tokens (Conditional arms false x)) w o in
      let d : Step false (deeper m) (arm_tokens arms ++ []) w o = step_only false m (deeper m) CondOpen _ w o (deeper_opens m) (none_runs m (deeper m) past within) (subst P h.2 p) in
      let Q : List Token → Type 0 = λ x. Passes (deeper m) x d.more o in
      let a : Skipped true (deeper m) (arm_tokens arms) d.more o = skip_arms_only true (deeper m) arms d.more o within (λ f. else_stays m f past) h.1 (subst Q (append-nil (arm_tokens arms)) d.passes) in
      let R : Sequence → Type 0 = λ x. d.more ≡ none_met (arm_tokens arms ++ tokens x) in
      record {
        walk = d.marks ∙ ap (λ x. false ∷ x) (subst R (sym h.2) (a.walk ∙ ap none_met (sym (append-nil (arm_tokens arms)))));
        back = λ l. let f : true ≡ false = sym h.0 ∙ l in absurd (cc);
      }

  pub skip_arms_only : (loose : Bool) (m : Mode) (arms : Arms) (w : Walk) (o : Mode) → is_running m ≡ false → ((f : Bool) → next_mode m CondElse f ≡ m) → AreFormed loose arms
      → Passes m (arm_tokens arms) w o → Skipped loose m (arm_tokens arms) w o
  skip_arms_only loose m (Lone t s) w o past stays h p =
      let q : AfterIt m (tokens t) CondThen (tokens s) w o = after_it m m (tokens t) CondThen (tokens s) w o past past (λ f. then_stays m f past) (λ v x. skip_only false m t v x past h.0) p in
      let r : Skipped loose m (tokens s) q.more o = skip_only loose m s q.more o past h.1 q.passes in
      record { walk = q.walk r.walk; back = r.back }
  skip_arms_only loose m (Else t s e) w o past stays h p =
      let q : AfterIt m (tokens t) CondThen (tokens s ++ CondElse ∷ tokens e) w o = after_it m m (tokens t) CondThen _ w o past past (λ f. then_stays m f past) (λ v x. skip_only false m t v x past h.0) p in
      let u : AfterIt m (tokens s) CondElse (tokens e) q.more o = after_it m m (tokens s) CondElse (tokens e) q.more o past past stays (λ v x. skip_only false m s v x past h.1) q.passes in
      let r : Skipped loose m (tokens e) u.more o = skip_only loose m e u.more o past h.2 u.passes in
      record { walk = q.walk (u.walk r.walk); back = r.back }
  skip_arms_only loose m (ElseIf t s arms) w o past stays h p =
      let q : AfterIt m (tokens t) CondThen (tokens s ++ CondElse ∷ arm_tokens arms) w o = after_it m m (tokens t) CondThen _ w o past past (λ f. then_stays m f past) (λ v x. skip_only false m t v x past h.0) p in
      let u : AfterIt m (tokens s) CondElse (arm_tokens arms) q.more o = after_it m m (tokens s) CondElse (arm_tokens arms) q.more o past past stays (λ v x. skip_only false m s v x past h.1) q.passes in
      let r : Skipped loose m (arm_tokens arms) u.more o = skip_arms_only loose m arms u.more o past stays h.2 u.passes in
      record { walk = q.walk (u.walk r.walk); back = r.back }

-- a part that is run
pub record Walked (loose : Bool) (s : Sequence) (w : Walk) (o : Mode) : Type 0 where
  pub walk : IsWalk s w
  pub back : loose ≡ false → o ≡ Run

pub record ArmsWalked (loose : Bool) (arms : Arms) (w : Walk) (o : Mode) : Type 0 where
  pub walk : IsArmWalk arms w
  pub back : loose ≡ false → (fails : Bool) → next_mode o CondClose fails ≡ Run

-- a `%t` met
then_only : (ks : List Token) (w : Walk) (o : Mode) → Passes Run (CondThen ∷ ks) w o → Step true Run ks w o ⊎ Step true (ToElse 0) ks w o
then_only ks w o (false, v, e, p) = inl (record { more = v; marks = e; passes = p })
then_only ks w o (true, v, e, p) = inr (record { more = v; marks = e; passes = p })

-- a `%e` after a taken body, and one after a body that is passed over
else_only : (m at n : Mode) (ks : List Token) (w : Walk) (o : Mode) → m ≡ at → ((f : Bool) → next_mode at CondElse f ≡ n) → (is_running at || is_running n) ≡ true
    → Passes m (CondElse ∷ ks) w o → Step true n ks w o
else_only m at n ks w o is leads marks p = step_only true at n CondElse ks w o leads marks (from m at o (CondElse ∷ ks) w is p)

joins : (w f b m f' b' m' : Walk) → w ≡ f ++ b → b ≡ true ∷ m → m ≡ f' ++ b' → b' ≡ true ∷ m' → w ≡ f ++ true ∷ (f' ++ true ∷ m')
joins w f b m f' b' m' p q r s = rw (p, q, r, s) refl

mutual
  pub walk_of : (loose : Bool) (s : Sequence) (w : Walk) (o : Mode) → IsFormed loose s → Passes Run (tokens s) w o → Walked loose s w o
  walk_of loose Empty w o h p = record { walk = p.0; back = λ _. p.1 }
  walk_of loose (Simple k s) w o h p =
      let q : Step true Run (tokens s) w o = step_only true Run Run k (tokens s) w o (λ f. simple_stays Run k f h.0) refl p in
      let r : Walked loose s q.more o = walk_of loose s q.more o h.1 q.passes in
      record { walk = (q.more, r.walk, q.marks); back = r.back }
  walk_of loose (Conditional arms true s) w o h (fails, v, e, p) =
      let c : Split (arm_tokens arms) (CondClose ∷ tokens s) Run o v = passes_split (arm_tokens arms) (CondClose ∷ tokens s) Run o v p in
      let a : ArmsWalked false arms c.front c.between = arms_walk_of false arms c.front c.between h.0 c.first in
      let q : Step true Run (tokens s) c.back o = step_only true c.between Run CondClose (tokens s) c.back o (a.back refl) (some_runs c.between) c.second in
      let r : Walked loose s q.more o = walk_of loose s q.more o h.1 q.passes in
      record { walk = (c.front, q.more, a.walk, r.walk, e ∙ ap (λ x. true ∷ x) (c.joined ∙ ap (λ x. c.front ++ x) q.marks)); back = r.back }
  walk_of loose (Conditional arms false s) w o h (fails, v, e, p) =
      let P : Sequence → Type 0 = λ x. Passes Run (arm_tokens arms ++ tokens x) v o in
      let at : Passes Run (arm_tokens arms ++ []) v o = subst P h.2 p in
      let Q : List Token → Type 0 = λ x. Passes Run x v o in
      let a : ArmsWalked true arms v o = arms_walk_of true arms v o h.1 (subst Q (append-nil (arm_tokens arms)) at) in
      let R : Sequence → Type 0 = λ x. IsWalk (Conditional arms false x) w in
      record {
        walk = subst R (sym h.2) (v, [], a.walk, refl, e ∙ ap (λ x. true ∷ x) (sym (append-nil v)));
        back = λ l. let f : true ≡ false = sym h.0 ∙ l in absurd (cc);
      }

  pub arms_walk_of : (loose : Bool) (arms : Arms) (w : Walk) (o : Mode) → AreFormed loose arms → Passes Run (arm_tokens arms) w o → ArmsWalked loose arms w o
  arms_walk_of loose (Lone t s) w o h p =
      let c : Split (tokens t) (CondThen ∷ tokens s) Run o w = passes_split (tokens t) (CondThen ∷ tokens s) Run o w p in
      let a : Walked false t c.front c.between = walk_of false t c.front c.between h.0 c.first in
      elim (then_only (tokens s) c.back o (from c.between Run o (CondThen ∷ tokens s) c.back (a.back refl) c.second)) [
        | inl q ↦
            let r : Walked loose s q.more o = walk_of loose s q.more o h.1 q.passes in
            record { walk = (c.front, q.more, a.walk, inl r.walk, c.joined ∙ ap (λ x. c.front ++ x) q.marks); back = λ l. closes o Run (r.back l) (λ f. refl) }
        | inr q ↦
            let r : Skipped loose (ToElse 0) (tokens s) q.more o = skip_only loose (ToElse 0) s q.more o refl h.1 q.passes in
            record { walk = (c.front, q.more, a.walk, inr r.walk, c.joined ∙ ap (λ x. c.front ++ x) q.marks); back = λ l. closes o (ToElse 0) (r.back l) (λ f. refl) }
      ]
  arms_walk_of loose (Else t s e) w o h p =
      let c : Split (tokens t) (CondThen ∷ (tokens s ++ CondElse ∷ tokens e)) Run o w = passes_split (tokens t) _ Run o w p in
      let a : Walked false t c.front c.between = walk_of false t c.front c.between h.0 c.first in
      elim (then_only (tokens s ++ CondElse ∷ tokens e) c.back o (from c.between Run o (CondThen ∷ (tokens s ++ CondElse ∷ tokens e)) c.back (a.back refl) c.second)) [
        | inl q ↦
            let d : Split (tokens s) (CondElse ∷ tokens e) Run o q.more = passes_split (tokens s) (CondElse ∷ tokens e) Run o q.more q.passes in
            let b : Walked false s d.front d.between = walk_of false s d.front d.between h.1 d.first in
            let g : Step true (ToEnd 0) (tokens e) d.back o = else_only d.between Run (ToEnd 0) (tokens e) d.back o (b.back refl) (λ f. refl) refl d.second in
            let r : Skipped loose (ToEnd 0) (tokens e) g.more o = skip_only loose (ToEnd 0) e g.more o refl h.2 g.passes in
            record { walk = (c.front, d.front, g.more, a.walk, inl (b.walk, r.walk), joins _ _ _ _ _ _ _ c.joined q.marks d.joined g.marks); back = λ l. closes o (ToEnd 0) (r.back l) (λ f. refl) }
        | inr q ↦
            let d : Split (tokens s) (CondElse ∷ tokens e) (ToElse 0) o q.more = passes_split (tokens s) (CondElse ∷ tokens e) (ToElse 0) o q.more q.passes in
            let b : Skipped false (ToElse 0) (tokens s) d.front d.between = skip_only false (ToElse 0) s d.front d.between refl h.1 d.first in
            let g : Step true Run (tokens e) d.back o = else_only d.between (ToElse 0) Run (tokens e) d.back o (b.back refl) (λ f. refl) refl d.second in
            let r : Walked loose e g.more o = walk_of loose e g.more o h.2 g.passes in
            record { walk = (c.front, d.front, g.more, a.walk, inr (b.walk, r.walk), joins _ _ _ _ _ _ _ c.joined q.marks d.joined g.marks); back = λ l. closes o Run (r.back l) (λ f. refl) }
      ]
  arms_walk_of loose (ElseIf t s arms) w o h p =
      let c : Split (tokens t) (CondThen ∷ (tokens s ++ CondElse ∷ arm_tokens arms)) Run o w = passes_split (tokens t) _ Run o w p in
      let a : Walked false t c.front c.between = walk_of false t c.front c.between h.0 c.first in
      elim (then_only (tokens s ++ CondElse ∷ arm_tokens arms) c.back o (from c.between Run o (CondThen ∷ (tokens s ++ CondElse ∷ arm_tokens arms)) c.back (a.back refl) c.second)) [
        | inl q ↦
            let d : Split (tokens s) (CondElse ∷ arm_tokens arms) Run o q.more = passes_split (tokens s) (CondElse ∷ arm_tokens arms) Run o q.more q.passes in
            let b : Walked false s d.front d.between = walk_of false s d.front d.between h.1 d.first in
            let g : Step true (ToEnd 0) (arm_tokens arms) d.back o = else_only d.between Run (ToEnd 0) (arm_tokens arms) d.back o (b.back refl) (λ f. refl) refl d.second in
            let r : Skipped loose (ToEnd 0) (arm_tokens arms) g.more o = skip_arms_only loose (ToEnd 0) arms g.more o refl (λ f. refl) h.2 g.passes in
            record { walk = (c.front, d.front, g.more, a.walk, inl (b.walk, r.walk), joins _ _ _ _ _ _ _ c.joined q.marks d.joined g.marks); back = λ l. closes o (ToEnd 0) (r.back l) (λ f. refl) }
        | inr q ↦
            let d : Split (tokens s) (CondElse ∷ arm_tokens arms) (ToElse 0) o q.more = passes_split (tokens s) (CondElse ∷ arm_tokens arms) (ToElse 0) o q.more q.passes in
            let b : Skipped false (ToElse 0) (tokens s) d.front d.between = skip_only false (ToElse 0) s d.front d.between refl h.1 d.first in
            let g : Step true Run (arm_tokens arms) d.back o = else_only d.between (ToElse 0) Run (arm_tokens arms) d.back o (b.back refl) (λ f. refl) refl d.second in
            let r : ArmsWalked loose arms g.more o = arms_walk_of loose arms g.more o h.2 g.passes in
            record { walk = (c.front, d.front, g.more, a.walk, inr (b.walk, r.walk), joins _ _ _ _ _ _ _ c.joined q.marks d.joined g.marks); back = r.back }
      ]
