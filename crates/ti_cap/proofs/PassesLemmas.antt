-- The walks of a tree are the ways of passing its tokens in order.
use Rattle.std.proofs.Common.{◌≡◌, inl, inr, List, [], ◌∷◌, ◌++◌, refl, sym, ◌∙◌, ap, subst, Bool, true, false, ◌||◌}
use Rattle.std.proofs.lemmas.List.{map-append, append-nil}
use Rattle.ti_cap.specs.declared.language.Token.{Token}
use Rattle.ti_cap.specs.declared.language.Token.TheVariants.{CondOpen, CondThen, CondElse, CondClose}
use Rattle.ti_cap.specs.Tree.{Sequence, Empty, Simple, Conditional, Arms, Lone, Else, ElseIf, tokens, arm_tokens, IsFormed, AreFormed}
use Rattle.ti_cap.specs.Path.{Walk, IsWalk, IsArmWalk, none_met, path_of}
use Rattle.ti_cap.specs.declared.mode.Mode.{Mode}
use Rattle.ti_cap.specs.declared.mode.Mode.TheVariants.{Run, ToElse, ToEnd}
use Rattle.ti_cap.specs.Pass.{next_mode, is_running, Passes}
use Rattle.ti_cap.proofs.NextModeLemmas.{simple_stays, deeper, deeper_runs, deeper_closes, then_stays, else_stays}

pub passes-append : (a b : List Token) (m n o : Mode) (u v : Walk) → Passes m a u n → Passes n b v o → Passes m (a ++ b) (u ++ v) o
passes-append [] b m n o u v (eu, en) q =
    rw eu (let P : Mode → Type 0 = λ x. Passes x b v o in subst P en q)
passes-append (k ∷ a) b m n o u v (fails, more, eu, p) q =
    (fails, more ++ v, ap (λ x. x ++ v) eu, passes-append a b (next_mode m k fails) n o more v p q)

-- a pass over a list is one over its front and then one over the rest
pub record Split (a b : List Token) (m o : Mode) (w : Walk) : Type 0 where
  pub between : Mode
  pub front : Walk
  pub back : Walk
  pub first : Passes m a front between
  pub second : Passes between b back o
  pub joined : w ≡ front ++ back

pub passes_split : (a b : List Token) (m o : Mode) (w : Walk) → Passes m (a ++ b) w o → Split a b m o w
passes_split [] b m o w p = record { between = m; front = []; back = w; first = (refl, refl); second = p; joined = refl }
passes_split (k ∷ a) b m o w (fails, more, e, p) =
    let r : Split a b (next_mode m k fails) o more = passes_split a b (next_mode m k fails) o more p in
    record { between = r.between; front = _ ∷ r.front; back = r.back; first = (fails, r.front, refl, r.first); second = r.second; joined = e ∙ ap (λ x. (is_running m || is_running (next_mode m k fails)) ∷ x) r.joined }

-- ---- what a walk meets

-- what a walk meets of some tokens, and then of others
pub path_of-append : (ks ls : List Token) (m o : Mode) (u v : Walk) → Passes m ks u o → path_of (u ++ v) (ks ++ ls) ≡ path_of u ks ++ path_of v ls
path_of-append [] ls m o u v p = ap (λ x. path_of (x ++ v) ls) p.0 ∙ ap (λ x. path_of x [] ++ path_of v ls) (sym p.0)
path_of-append (k ∷ ks) ls m o u v (fails, more, e, p) =
    ap (λ x. path_of (x ++ v) (k ∷ (ks ++ ls))) e ∙ both (is_running m || is_running (next_mode m k fails)) (path_of-append ks ls (next_mode m k fails) o more v p)
    ∙ ap (λ x. path_of x (k ∷ ks) ++ path_of v ls) (sym e)
  where
    both : (b : Bool) → path_of (more ++ v) (ks ++ ls) ≡ path_of more ks ++ path_of v ls
        → path_of (b ∷ (more ++ v)) (k ∷ (ks ++ ls)) ≡ path_of (b ∷ more) (k ∷ ks) ++ path_of v ls
    both true h = ap (λ x. k ∷ x) h
    both false h = h

pub no_path : (w : Walk) → path_of w [] ≡ []
no_path [] = refl
no_path (b ∷ w) = refl

-- the marks beyond a list's end do not matter
pub met_front : (ks : List Token) (m o : Mode) (u v : Walk) → Passes m ks u o → path_of (u ++ v) ks ≡ path_of u ks
met_front ks m o u v p =
    ap (λ x. path_of (u ++ v) x) (sym (append-nil ks)) ∙ path_of-append ks [] m o u v p ∙ ap (λ x. path_of u ks ++ x) (no_path v) ∙ append-nil (path_of u ks)

-- ---- one token more

-- a token that leads from a mode to another, of which it is known whether it is met
pub step_on : (mark : Bool) (m n : Mode) (k : Token) (fails : Bool) (ks : List Token) (v : Walk) (o : Mode) → next_mode m k fails ≡ n → (is_running m || is_running n) ≡ mark
    → Passes n ks v o → Passes m (k ∷ ks) (mark ∷ v) o
step_on mark m n k fails ks v o leads marks p =
    (fails, v, ap (λ x. x ∷ v) (sym marks ∙ ap (λ x. is_running m || is_running x) (sym leads)), (let P : Mode → Type 0 = λ x. Passes x ks v o in subst P (sym leads) p))

-- one of two modes that pass tokens over runs no token
pub none_runs : (m n : Mode) → is_running m ≡ false → is_running n ≡ false → (is_running m || is_running n) ≡ false
none_runs m n p q = ap (λ b. b || is_running n) p ∙ q

-- a token that leads to Run is met
pub some_runs : (m : Mode) → (is_running m || true) ≡ true
some_runs Run = refl
some_runs (ToElse n) = refl
some_runs (ToEnd n) = refl

-- a pass that ends in the mode that it began in, unless it may end within a conditional
pub record Over (loose : Bool) (m : Mode) (ks : List Token) (w : Walk) : Type 0 where
  pub to : Mode
  pub passes : Passes m ks w to
  pub back : loose ≡ false → to ≡ m

over_to : (m : Mode) (ks : List Token) (w : Walk) → Over false m ks w → Passes m ks w m
over_to m ks w r = let P : Mode → Type 0 = λ x. Passes m ks w x in subst P (r.back refl) r.passes

-- two parts that are passed over, with a token between them that is too
past_join : (a : List Token) (k : Token) (r : List Token) (m n o : Mode) → is_running m ≡ false → is_running n ≡ false → next_mode m k false ≡ n
    → Over false m a (none_met a) → Passes n r (none_met r) o → Passes m (a ++ k ∷ r) (none_met (a ++ k ∷ r)) o
past_join a k r m n o past past' leads p q =
    rw (map-append (λ _. false) a (k ∷ r))
    (passes-append a (k ∷ r) m m o _ _ (over_to _ _ _ p) (step_on false m n k false r _ o leads (none_runs m n past past') q))

-- what is passed over is passed over whole
mutual
  pub skip : (loose : Bool) (m : Mode) (s : Sequence) → is_running m ≡ false → IsFormed loose s → Over loose m (tokens s) (none_met (tokens s))
  skip loose m Empty past h = record { to = m; passes = (refl, refl); back = λ _. refl }
  skip loose m (Simple k s) past h =
      let r : Over loose m (tokens s) (none_met (tokens s)) = skip loose m s past h.1 in
      record { to = r.to; passes = step_on false m m k false (tokens s) _ r.to (simple_stays m k false h.0) (none_runs m m past past) r.passes; back = r.back }
  skip loose m (Conditional arms true s) past h =
      let within : is_running (deeper m) ≡ false = deeper_runs m ∙ past in
      let q : Over false (deeper m) (arm_tokens arms) (none_met (arm_tokens arms)) = skip_arms false (deeper m) arms within (else_stays m false past) h.0 in
      let r : Over loose m (tokens s) (none_met (tokens s)) = skip loose m s past h.1 in
      record {
        to = r.to;
        passes = step_on false m (deeper m) CondOpen false (arm_tokens arms ++ CondClose ∷ tokens s) _ r.to refl (none_runs m (deeper m) past within)
            (past_join (arm_tokens arms) CondClose (tokens s) (deeper m) m r.to within past (deeper_closes m false) q r.passes);
        back = r.back;
      }
  skip loose m (Conditional arms false s) past h =
      let within : is_running (deeper m) ≡ false = deeper_runs m ∙ past in
      let q : Over true (deeper m) (arm_tokens arms) (none_met (arm_tokens arms)) = skip_arms true (deeper m) arms within (else_stays m false past) h.1 in
      let P : Sequence → Type 0 = λ x. Over loose m (tokens (Conditional arms false x)) (none_met (tokens (Conditional arms false x))) in
      let Q : List Token → Type 0 = λ x. Passes (deeper m) x (none_met x) q.to in
      subst P (sym h.2) (record {
        to = q.to;
        passes = step_on false m (deeper m) CondOpen false (arm_tokens arms ++ []) _ q.to refl (none_runs m (deeper m) past within)
            (subst Q (sym (append-nil (arm_tokens arms))) q.passes);
        back = λ e. let f : true ≡ false = sym h.0 ∙ e in absurd (cc);
      })

  pub skip_arms : (loose : Bool) (m : Mode) (arms : Arms) → is_running m ≡ false → next_mode m CondElse false ≡ m → AreFormed loose arms
      → Over loose m (arm_tokens arms) (none_met (arm_tokens arms))
  skip_arms loose m (Lone t s) past stays h =
      let q : Over loose m (tokens s) (none_met (tokens s)) = skip loose m s past h.1 in
      record { to = q.to; passes = past_join (tokens t) CondThen (tokens s) m m q.to past past (then_stays m false past) (skip false m t past h.0) q.passes; back = q.back }
  skip_arms loose m (Else t s o) past stays h =
      let r : Over loose m (tokens o) (none_met (tokens o)) = skip loose m o past h.2 in
      record {
        to = r.to;
        passes = past_join (tokens t) CondThen (tokens s ++ CondElse ∷ tokens o) m m r.to past past (then_stays m false past) (skip false m t past h.0)
            (past_join (tokens s) CondElse (tokens o) m m r.to past past stays (skip false m s past h.1) r.passes);
        back = r.back;
      }
  skip_arms loose m (ElseIf t s arms) past stays h =
      let r : Over loose m (arm_tokens arms) (none_met (arm_tokens arms)) = skip_arms loose m arms past stays h.2 in
      record {
        to = r.to;
        passes = past_join (tokens t) CondThen (tokens s ++ CondElse ∷ arm_tokens arms) m m r.to past past (then_stays m false past) (skip false m t past h.0)
            (past_join (tokens s) CondElse (arm_tokens arms) m m r.to past past stays (skip false m s past h.1) r.passes);
        back = r.back;
      }

-- after an arm each way out is closed by the end of the conditional
pub record ArmsOver (loose : Bool) (ks : List Token) (w : Walk) : Type 0 where
  pub to : Mode
  pub passes : Passes Run ks w to
  pub back : loose ≡ false → (fails : Bool) → next_mode to CondClose fails ≡ Run

passes_along : (m : Mode) (ks : List Token) (v w : Walk) (o : Mode) → w ≡ v → Passes m ks v o → Passes m ks w o
passes_along m ks v w o e p = let P : Walk → Type 0 = λ x. Passes m ks x o in subst P (sym e) p

-- the end of a conditional, from a mode that is known
pub closes : (to m : Mode) → to ≡ m → ((fails : Bool) → next_mode m CondClose fails ≡ Run) → (fails : Bool) → next_mode to CondClose fails ≡ Run
closes to m e out fails = ap (λ x. next_mode x CondClose fails) e ∙ out fails

-- a walk is a pass
mutual
  pub walk_passes : (loose : Bool) (s : Sequence) (w : Walk) → IsFormed loose s → IsWalk s w → Over loose Run (tokens s) w
  walk_passes loose Empty w h walk = record { to = Run; passes = (walk, refl); back = λ _. refl }
  walk_passes loose (Simple k s) w h (v, walk, e) =
      let r : Over loose Run (tokens s) v = walk_passes loose s v h.1 walk in
      record { to = r.to; passes = rw e (step_on true Run Run k false (tokens s) v r.to (simple_stays Run k false h.0) refl r.passes); back = r.back }
  walk_passes loose (Conditional arms true s) w h (u, v, arm_walk, walk, e) =
      let q : ArmsOver false (arm_tokens arms) u = arms_pass false arms u h.0 arm_walk in
      let r : Over loose Run (tokens s) v = walk_passes loose s v h.1 walk in
      record {
        to = r.to;
        passes = rw e (
          false,
          u ++ (true ∷ v),
          refl,
          passes-append (arm_tokens arms) (CondClose ∷ tokens s) Run q.to r.to u (true ∷ v) q.passes
              (step_on true q.to Run CondClose false (tokens s) v r.to (q.back refl false) (some_runs q.to) r.passes),
        );
        back = r.back;
      }
  walk_passes loose (Conditional arms false s) w h (u, v, arm_walk, walk, e) =
      let q : ArmsOver true (arm_tokens arms) u = arms_pass true arms u h.1 arm_walk in
      let nothing : v ≡ [] = let P : Sequence → Type 0 = λ x. IsWalk x v in subst P h.2 walk in
      let P : Sequence → Type 0 = λ x. Over loose Run (tokens (Conditional arms false x)) w in
      subst P (sym h.2) (record {
        to = q.to;
        passes = passes_along Run (CondOpen ∷ (arm_tokens arms ++ [])) (true ∷ (u ++ [])) w q.to (rw nothing at e)
            (false, u ++ [], refl, passes-append (arm_tokens arms) [] Run q.to q.to u [] q.passes (refl, refl));
        back = λ l. let f : true ≡ false = sym h.0 ∙ l in absurd (cc);
      })

  pub arms_pass : (loose : Bool) (arms : Arms) (w : Walk) → AreFormed loose arms → IsArmWalk arms w → ArmsOver loose (arm_tokens arms) w
  arms_pass loose (Lone t s) w h (tw, v, walk, either, e) =
      let p : Passes Run (tokens t) tw Run = over_to _ _ _ (walk_passes false t tw h.0 walk) in
      elim either [
        | inl taken ↦
            let q : Over loose Run (tokens s) v = walk_passes loose s v h.1 taken in
            record { to = q.to; passes = rw e (passes-append (tokens t) (CondThen ∷ tokens s) Run Run q.to tw (true ∷ v) p (false, v, refl, q.passes)); back = λ l. closes q.to Run (q.back l) (λ f. refl) }
        | inr left ↦
            let q : Over loose (ToElse 0) (tokens s) (none_met (tokens s)) = skip loose (ToElse 0) s refl h.1 in
            record { to = q.to; passes = rw e (passes-append (tokens t) (CondThen ∷ tokens s) Run Run q.to tw (true ∷ v) p (true, v, refl, passes_along _ _ _ _ _ left q.passes)); back = λ l. closes q.to (ToElse 0) (q.back l) (λ f. refl) }
      ]
  arms_pass loose (Else t s o) w h (tw, v, ow, walk, either, e) =
      let p : Passes Run (tokens t) tw Run = over_to _ _ _ (walk_passes false t tw h.0 walk) in
      elim either [
        | inl taken ↦
            let q : Passes Run (tokens s) v Run = over_to _ _ _ (walk_passes false s v h.1 taken.0) in
            let r : Over loose (ToEnd 0) (tokens o) (none_met (tokens o)) = skip loose (ToEnd 0) o refl h.2 in
            record {
              to = r.to;
              passes = rw e (passes-append (tokens t) (CondThen ∷ (tokens s ++ CondElse ∷ tokens o)) Run Run r.to tw (true ∷ (v ++ true ∷ ow)) p (
                false,
                v ++ true ∷ ow,
                refl,
                passes-append (tokens s) (CondElse ∷ tokens o) Run Run r.to v (true ∷ ow) q
                    (false, ow, refl, passes_along _ _ _ _ _ taken.1 r.passes),
              ));
              back = λ l. closes r.to (ToEnd 0) (r.back l) (λ f. refl);
            }
        | inr left ↦
            let q : Passes (ToElse 0) (tokens s) (none_met (tokens s)) (ToElse 0) = over_to _ _ _ (skip false (ToElse 0) s refl h.1) in
            let r : Over loose Run (tokens o) ow = walk_passes loose o ow h.2 left.1 in
            record {
              to = r.to;
              passes = rw e (passes-append (tokens t) (CondThen ∷ (tokens s ++ CondElse ∷ tokens o)) Run Run r.to tw (true ∷ (v ++ true ∷ ow)) p (
                true,
                v ++ true ∷ ow,
                refl,
                passes-append (tokens s) (CondElse ∷ tokens o) (ToElse 0) (ToElse 0) r.to v (true ∷ ow)
                    (passes_along _ _ _ _ _ left.0 q) (false, ow, refl, r.passes),
              ));
              back = λ l. closes r.to Run (r.back l) (λ f. refl);
            }
      ]
  arms_pass loose (ElseIf t s arms) w h (tw, v, ow, walk, either, e) =
      let p : Passes Run (tokens t) tw Run = over_to _ _ _ (walk_passes false t tw h.0 walk) in
      elim either [
        | inl taken ↦
            let q : Passes Run (tokens s) v Run = over_to _ _ _ (walk_passes false s v h.1 taken.0) in
            let r : Over loose (ToEnd 0) (arm_tokens arms) (none_met (arm_tokens arms)) = skip_arms loose (ToEnd 0) arms refl refl h.2 in
            record {
              to = r.to;
              passes = rw e (passes-append (tokens t) (CondThen ∷ (tokens s ++ CondElse ∷ arm_tokens arms)) Run Run r.to tw (true ∷ (v ++ true ∷ ow)) p (
                false,
                v ++ true ∷ ow,
                refl,
                passes-append (tokens s) (CondElse ∷ arm_tokens arms) Run Run r.to v (true ∷ ow) q
                    (false, ow, refl, passes_along _ _ _ _ _ taken.1 r.passes),
              ));
              back = λ l. closes r.to (ToEnd 0) (r.back l) (λ f. refl);
            }
        | inr left ↦
            let q : Passes (ToElse 0) (tokens s) (none_met (tokens s)) (ToElse 0) = over_to _ _ _ (skip false (ToElse 0) s refl h.1) in
            let r : ArmsOver loose (arm_tokens arms) ow = arms_pass loose arms ow h.2 left.1 in
            record {
              to = r.to;
              passes = rw e (passes-append (tokens t) (CondThen ∷ (tokens s ++ CondElse ∷ arm_tokens arms)) Run Run r.to tw (true ∷ (v ++ true ∷ ow)) p (
                true,
                v ++ true ∷ ow,
                refl,
                passes-append (tokens s) (CondElse ∷ arm_tokens arms) (ToElse 0) (ToElse 0) r.to v (true ∷ ow)
                    (passes_along _ _ _ _ _ left.0 q) (false, ow, refl, r.passes),
              ));
              back = r.back;
            }
      ]
