-- Which tokens may follow, by the parts of the open conditionals.
use Rattle.std.proofs.Common.{◌≡◌, ◌≢◌, List, [], ◌∷◌, ◌++◌, refl, sym, ◌∙◌, subst, Bool, true, false, append_assoc}
use Rattle.std.specs.Prelude.{Option, Some, None}
use Rattle.std.specs.List.{AllByRecursion}
use Rattle.ti_cap.specs.declared.language.Token.{Token}
use Rattle.ti_cap.specs.declared.language.Token.TheVariants.{CondOpen, CondThen, CondElse, CondClose}
use Rattle.ti_cap.specs.Tree.{Sequence, Empty, Simple, Conditional, Arms, Lone, Else, ElseIf, tokens, arm_tokens, IsSimple, IsFormed, AreFormed}
use Rattle.ti_cap.specs.declared.scan.ConditionalPart.{ConditionalPart}
use Rattle.ti_cap.specs.declared.scan.ConditionalPart.TheVariants.{FirstTest, Body, Otherwise}
use Rattle.ti_cap.specs.Refusal.{Begins}

abbrev pub at_then : List ConditionalPart → Option (List ConditionalPart)
at_then (FirstTest ∷ ps) = Some (Body ∷ ps)
at_then (Otherwise ∷ ps) = Some (Body ∷ ps)
at_then _ = None

abbrev pub at_else : List ConditionalPart → Option (List ConditionalPart)
at_else (Body ∷ ps) = Some (Otherwise ∷ ps)
at_else _ = None

abbrev pub at_close : List ConditionalPart → Option (List ConditionalPart)
at_close (Body ∷ ps) = Some ps
at_close (Otherwise ∷ ps) = Some ps
at_close _ = None

-- the parts after a token that may stand there
abbrev pub allowed : Token → List ConditionalPart → Option (List ConditionalPart)
allowed CondOpen ps = Some (FirstTest ∷ ps)
allowed CondThen ps = at_then ps
allowed CondElse ps = at_else ps
allowed CondClose ps = at_close ps
allowed _ ps = Some ps

abbrev pub Leads : List ConditionalPart → List Token → List ConditionalPart → Type 0
Leads ps [] qs = qs ≡ ps
Leads ps (k ∷ ks) qs = (ms : List ConditionalPart) × (allowed k ps ≡ Some ms) × Leads ms ks qs

pub leads-append : (ps ms qs : List ConditionalPart) (a b : List Token) → Leads ps a ms → Leads ms b qs → Leads ps (a ++ b) qs
leads-append ps ms qs [] b e q = let P : List ConditionalPart → Type 0 = λ x. Leads x b qs in subst P e q
leads-append ps ms qs (k ∷ a) b (ns, e, p) q = (ns, e, leads-append ns ms qs a b p q)

-- a front of what may stand may stand
pub leads_front : (ps qs : List ConditionalPart) (a b : List Token) → Leads ps (a ++ b) qs → (ms : List ConditionalPart) × Leads ps a ms × Leads ms b qs
leads_front ps qs [] b p = (ps, refl, p)
leads_front ps qs (k ∷ a) b (ns, e, p) = let r : (ms : List ConditionalPart) × Leads ns a ms × Leads ms b qs = leads_front ns qs a b p in (r.0, (ns, e, r.1), r.2)

pub leads_simple : (k : Token) (ps : List ConditionalPart) → IsSimple k → allowed k ps ≡ Some ps
leads_simple CondOpen ps h = absurd h
leads_simple CondThen ps h = absurd h
leads_simple CondElse ps h = absurd h
leads_simple CondClose ps h = absurd h
leads_simple _ ps h = refl

-- none is a first test
abbrev pub AreSettled : List ConditionalPart → Type 0
AreSettled ps = AllByRecursion (λ p. p ≢ FirstTest) ps

-- over a sequence: what stays open at the end
pub record Opens (loose : Bool) (ps : List ConditionalPart) (ks : List Token) : Type 0 where
  pub new : List ConditionalPart
  pub leads : Leads ps ks (new ++ ps)
  pub settled : AreSettled new
  pub closed : loose ≡ false → new ≡ []

-- over the arms of a conditional
pub record ArmsOpen (loose : Bool) (from : ConditionalPart) (ps : List ConditionalPart) (ks : List Token) : Type 0 where
  pub new : List ConditionalPart
  pub part : ConditionalPart
  pub leads : Leads (from ∷ ps) ks (new ++ part ∷ ps)
  pub settled : AreSettled new
  pub ended : part ≢ FirstTest
  pub closed : loose ≡ false → new ≡ []

closes : (p : ConditionalPart) (ps : List ConditionalPart) → p ≢ FirstTest → at_close (p ∷ ps) ≡ Some ps
closes FirstTest ps h = absurd (h refl)
closes Body ps h = refl
closes Otherwise ps h = refl

shut : (ps : List ConditionalPart) (ks : List Token) (o : Opens false ps ks) → Leads ps ks ps
shut ps ks o = let P : List ConditionalPart → Type 0 = λ x. Leads ps ks (x ++ ps) in subst P (o.closed refl) o.leads

shut_arms : (p : ConditionalPart) (ps : List ConditionalPart) (ks : List Token) (o : ArmsOpen false p ps ks) → Leads (p ∷ ps) ks (o.part ∷ ps)
shut_arms p ps ks o = let P : List ConditionalPart → Type 0 = λ x. Leads (p ∷ ps) ks (x ++ o.part ∷ ps) in subst P (o.closed refl) o.leads

settled-append : (ps qs : List ConditionalPart) → AreSettled ps → AreSettled qs → AreSettled (ps ++ qs)
settled-append [] qs h g = g
settled-append (p ∷ ps) qs h g = (h.0, settled-append ps qs h.1 g)

mutual
  pub opens : (loose : Bool) (ps : List ConditionalPart) (s : Sequence) → IsFormed loose s → Opens loose ps (tokens s)
  opens loose ps Empty h = record { new = []; leads = refl; settled = tt; closed = λ _. refl }
  opens loose ps (Simple k s) h =
      let r : Opens loose ps (tokens s) = opens loose ps s h.1 in
      record { new = r.new; leads = (ps, leads_simple k ps h.0, r.leads); settled = r.settled; closed = r.closed }
  opens loose ps (Conditional arms true s) h =
      let a : ArmsOpen false FirstTest ps (arm_tokens arms) = arms_open false FirstTest ps arms (λ _. refl) h.0 in
      let r : Opens loose ps (tokens s) = opens loose ps s h.1 in
      record {
        new = r.new;
        leads = (
          FirstTest ∷ ps,
          refl,
          leads-append (FirstTest ∷ ps) (a.part ∷ ps) (r.new ++ ps) (arm_tokens arms) (CondClose ∷ tokens s)
              (shut_arms FirstTest ps (arm_tokens arms) a) (ps, closes a.part ps a.ended, r.leads),
        );
        settled = r.settled;
        closed = r.closed;
      }
  opens loose ps (Conditional arms false s) h =
      let a : ArmsOpen true FirstTest ps (arm_tokens arms) = arms_open true FirstTest ps arms (λ _. refl) h.1 in
      let P : Sequence → Type 0 = λ x. Opens loose ps (tokens (Conditional arms false x)) in
      subst P (sym h.2) (record {
        new = a.new ++ a.part ∷ [];
        leads = (FirstTest ∷ ps, refl, leads-append (FirstTest ∷ ps) (a.new ++ a.part ∷ ps) ((a.new ++ a.part ∷ []) ++ ps) (arm_tokens arms) [] a.leads (append_assoc a.new (a.part ∷ []) ps));
        settled = settled-append a.new (a.part ∷ []) a.settled (a.ended, tt);
        closed = λ l. let f : true ≡ false = sym h.0 ∙ l in absurd (cc);
      })

  pub arms_open : (loose : Bool) (p : ConditionalPart) (ps : List ConditionalPart) (arms : Arms) → ((qs : List ConditionalPart) → at_then (p ∷ qs) ≡ Some (Body ∷ qs)) → AreFormed loose arms → ArmsOpen loose p ps (arm_tokens arms)
  arms_open loose p ps (Lone t s) then h =
      let a : Opens false (p ∷ ps) (tokens t) = opens false (p ∷ ps) t h.0 in
      let r : Opens loose (Body ∷ ps) (tokens s) = opens loose (Body ∷ ps) s h.1 in
      record {
        new = r.new;
        part = Body;
        leads = leads-append (p ∷ ps) (p ∷ ps) (r.new ++ Body ∷ ps) (tokens t) (CondThen ∷ tokens s) (shut _ _ a) (Body ∷ ps, then ps, r.leads);
        settled = r.settled;
        ended = λ e. absurd (cc);
        closed = r.closed;
      }
  arms_open loose p ps (Else t s o) then h =
      let a : Opens false (p ∷ ps) (tokens t) = opens false (p ∷ ps) t h.0 in
      let b : Opens false (Body ∷ ps) (tokens s) = opens false (Body ∷ ps) s h.1 in
      let r : Opens loose (Otherwise ∷ ps) (tokens o) = opens loose (Otherwise ∷ ps) o h.2 in
      record {
        new = r.new;
        part = Otherwise;
        leads = leads-append (p ∷ ps) (p ∷ ps) (r.new ++ Otherwise ∷ ps) (tokens t) (CondThen ∷ (tokens s ++ CondElse ∷ tokens o)) (shut _ _ a)
            (Body ∷ ps, then ps, leads-append (Body ∷ ps) (Body ∷ ps) (r.new ++ Otherwise ∷ ps) (tokens s) (CondElse ∷ tokens o) (shut _ _ b) (Otherwise ∷ ps, refl, r.leads));
        settled = r.settled;
        ended = λ e. absurd (cc);
        closed = r.closed;
      }
  arms_open loose p ps (ElseIf t s arms) then h =
      let a : Opens false (p ∷ ps) (tokens t) = opens false (p ∷ ps) t h.0 in
      let b : Opens false (Body ∷ ps) (tokens s) = opens false (Body ∷ ps) s h.1 in
      let r : ArmsOpen loose Otherwise ps (arm_tokens arms) = arms_open loose Otherwise ps arms (λ _. refl) h.2 in
      record {
        new = r.new;
        part = r.part;
        leads = leads-append (p ∷ ps) (p ∷ ps) (r.new ++ r.part ∷ ps) (tokens t) (CondThen ∷ (tokens s ++ CondElse ∷ arm_tokens arms)) (shut _ _ a)
            (Body ∷ ps, then ps, leads-append (Body ∷ ps) (Body ∷ ps) (r.new ++ r.part ∷ ps) (tokens s) (CondElse ∷ arm_tokens arms) (shut _ _ b) (Otherwise ∷ ps, refl, r.leads));
        settled = r.settled;
        ended = r.ended;
        closed = r.closed;
      }

-- what some tree begins with may stand
pub begins_leads : (before : List Token) → Begins before → (ms : List ConditionalPart) × Leads [] before ms
begins_leads before (tree, after, formed, spans) =
    let o : Opens true [] (tokens tree) = opens true [] tree formed in
    let P : List Token → Type 0 = λ x. Leads [] x (o.new ++ []) in
    let r : (ms : List ConditionalPart) × Leads [] before ms × Leads ms after (o.new ++ []) = leads_front [] (o.new ++ []) before after (subst P spans o.leads) in
    (r.0, r.1)
