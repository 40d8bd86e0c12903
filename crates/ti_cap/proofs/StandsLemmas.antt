-- A pass over a whole capability: at its end the walks are the paths.
use Rattle.std.proofs.Common.{◌≡◌, ℕ, ◌≤◌, inl, inr, ◌↔◌, List, [], ◌∷◌, ◌++◌, length, refl, sym, ◌∙◌, ap, subst, arith, true, append_assoc, length-append}
use Rattle.std.specs.Prelude.{Some}
use Rattle.std.proofs.lemmas.List.{append-nil}
use Rattle.ti_base.specs.Limits.{most_open, most_values}
use Rattle.ti_cap.specs.declared.language.Token.{Token}
use Rattle.ti_cap.specs.declared.language.Token.TheVariants.{Param, CondOpen, CondThen, CondElse, CondClose}
use Rattle.ti_cap.specs.declared.gathering.Gathering.{Gathering}
use Rattle.ti_cap.specs.declared.scan.ConditionalPart.{ConditionalPart}
use Rattle.ti_cap.specs.Tree.{Sequence, tokens}
use Rattle.ti_cap.specs.Path.{IsPath, path_of}
use Rattle.ti_cap.specs.declared.mode.Mode.TheVariants.{Run}
use Rattle.ti_cap.specs.Pass.{Passes}
use Rattle.ti_cap.specs.Spelling.{Spells, Written, Writes}
use Rattle.ti_cap.specs.Capability.{IsWellFormed}
use Rattle.ti_cap.specs.Sources.{Has, Names, TakesAsText, IsNamed, IsTakenAsText}
use Rattle.ti_cap.specs.inner.Gathering.{no_gathering, gathered, IsTakeable}
use Rattle.ti_cap.proofs.WrittenLemmas.{one_cutting, spelled_long}
use Rattle.ti_cap.proofs.PassesLemmas.{Over, walk_passes}
use Rattle.ti_cap.proofs.IsWalkLemmas.{Walked, walk_of}
use Rattle.ti_cap.proofs.PartsLemmas.{allowed, Leads, leads-append, leads_front, begins_leads}
use Rattle.ti_cap.proofs.ClimbsLemmas.{leads_one}
use Rattle.ti_cap.proofs.NestLemmas.{levels, level_tree, levels-ge, level_after, end_level, leads_level, allowed_level}
use Rattle.ti_cap.proofs.HoldsLemmas.{IsFit}
use Rattle.ti_cap.proofs.StackLengthLemmas.{stack_low}
use Rattle.ti_cap.proofs.SeenLemmas.{Seen}
use Rattle.ti_cap.proofs.GathersLemmas.{Gathers, gathers_start, chain}
use Rattle.ti_cap.proofs.GathersStepLemmas.{gathers_step}

-- a pass stands between the tokens of a tree
pub record Stands (bytes left : List ℕ) (g : Gathering) : Type 0 where
  pub formed : IsWellFormed bytes
  pub before : List Token
  pub after : List Token
  pub parts : List ConditionalPart
  pub spans : tokens formed.tree ≡ before ++ after
  pub written : Written after left
  pub gathers : Gathers before parts g

pub stands_start : (bytes : List ℕ) → IsWellFormed bytes → Stands bytes bytes no_gathering
stands_start bytes w = record { formed = w; before = []; after = tokens w.tree; parts = []; spans = refl; written = w.writes.written; gathers = gathers_start }

-- what a pass meets next
pub record Meets (bytes left rest : List ℕ) (k : Token) (g : Gathering) : Type 0 where
  pub takeable : IsTakeable k g.nesting
  pub few : g.nesting ≤ most_open
  pub stands : Stands bytes rest (gathered g k)

takeable_by : (k : Token) (parts onto : List ConditionalPart) → allowed k parts ≡ Some onto → length onto ≤ most_open → (n : ℕ) → length parts ≡ n → IsFit k → IsTakeable k n
takeable_by (Param p) parts onto e few n is fit = fit
takeable_by CondOpen parts onto e few n is fit = omega (arith, allowed_level CondOpen parts onto e)
takeable_by CondThen [] onto e few n is fit = absurd (cc)
takeable_by CondThen (p ∷ parts) onto e few n is fit = omega arith
takeable_by CondElse [] onto e few n is fit = absurd (cc)
takeable_by CondElse (p ∷ parts) onto e few n is fit = omega arith
takeable_by CondClose [] onto e few n is fit = absurd (cc)
takeable_by CondClose (p ∷ parts) onto e few n is fit = omega arith
takeable_by _ parts onto e few n is fit = tt

spelled_fit : (k : Token) (s : List ℕ) → Spells k s → IsFit k
spelled_fit (Param p) s (inl (b, is, other, e)) = absurd (cc (is))
spelled_fit (Param p) s (inr (escape, spelled, is)) = (spelled.0, spelled.1)
spelled_fit _ s h = tt

pub meets : (bytes left rest : List ℕ) (k : Token) (g : Gathering) → Stands bytes left g → ((ks : List Token) → Written ks left → (more : List Token) × (ks ≡ k ∷ more) × Written more rest)
    → (s : List ℕ) → Spells k s → Meets bytes left rest k g
meets bytes left rest k g w first s spelled =
    let next : (more : List Token) × (w.after ≡ k ∷ more) × Written more rest = first w.after w.written in
    let spans : tokens w.formed.tree ≡ (w.before ++ k ∷ []) ++ next.0 = w.spans ∙ ap (λ x. w.before ++ x) next.1 ∙ sym (append_assoc w.before (k ∷ []) next.0) in
    let r : (ms : List ConditionalPart) × Leads [] (w.before ++ k ∷ []) ms = begins_leads (w.before ++ k ∷ []) (w.formed.tree, next.0, w.formed.writes.formed, spans) in
    let l : (ns : List ConditionalPart) × Leads [] w.before ns × Leads ns (k ∷ []) r.0 = leads_front [] r.0 w.before (k ∷ []) r.1 in
    let same : l.0 ≡ w.parts = leads_one [] l.0 w.parts w.before l.1 w.gathers.leads in
    let stands : allowed k w.parts ≡ Some l.2.0 = ap (λ x. allowed k x) (sym same) ∙ l.2.1 in
    let deep : levels 0 (tokens w.formed.tree) ≤ most_open = omega (arith, level_tree w.formed.tree 0 w.formed.writes.formed, w.formed.nests) in
    let onto_few : length l.2.0 ≤ most_open = omega (arith, deep, ap (λ x. levels 0 x) spans, leads_level [] l.2.0 (w.before ++ k ∷ []) (leads-append [] w.parts l.2.0 w.before (k ∷ []) w.gathers.leads (l.2.0, stands, refl)), end-front-le 0 (w.before ++ k ∷ []) next.0) in
    let few : length w.parts ≤ most_open = omega (arith, deep, ap (λ x. levels 0 x) w.spans, leads_level [] w.parts w.before w.gathers.leads, end-front-le 0 w.before w.after) in
    let takeable : IsTakeable k g.nesting = takeable_by k w.parts l.2.0 stands onto_few g.nesting w.gathers.count (spelled_fit k s spelled) in
    record {
      takeable = takeable;
      few = omega (arith, few, w.gathers.count);
      stands = record {
        formed = w.formed;
        before = w.before ++ k ∷ [];
        after = next.0;
        parts = l.2.0;
        spans = spans;
        written = next.2;
        gathers = gathers_step w.before k w.parts l.2.0 g (record {
          old = w.gathers;
          stands = stands;
          low = λ x r. stack_low w.formed.tree (w.before ++ k ∷ []) next.0 most_values Run x w.formed.writes.formed spans w.formed.heights r;
          takeable = takeable;
          fit = spelled_fit k s spelled;
        }) few;
      };
    }
  where
    end-front-le : (l : ℕ) (a b : List Token) → end_level l a ≤ levels l (a ++ b)
    end-front-le l [] b = levels-ge l b
    end-front-le l (x ∷ a) b = omega (arith, end-front-le (level_after l x) a b)

-- the end of the pass: the walks are the paths
at_end : (bytes : List ℕ) (g : Gathering) (w : Stands bytes [] g) → w.before ≡ tokens w.formed.tree
at_end bytes g w = nothing w.after w.written w.spans
  where
    nothing : (after : List Token) → Written after [] → tokens w.formed.tree ≡ w.before ++ after → w.before ≡ tokens w.formed.tree
    nothing [] h e = sym (e ∙ append-nil w.before)
    nothing (k ∷ after) (s, tail, p, rest, e) spans = absurd (omega (arith, ap length e, length-append s tail, spelled_long k s p))

seen_is : (bytes : List ℕ) (g : Gathering) (w : Stands bytes [] g) (holds : List Token → Type 0)
    → Seen holds w.before ↔ ((tree : Sequence) × (path : List Token) × Writes tree bytes × IsPath tree path × holds path)
seen_is bytes g w holds = (there, back)
  where
    end : w.before ≡ tokens w.formed.tree
    end = at_end bytes g w

    there : Seen holds w.before → (tree : Sequence) × (path : List Token) × Writes tree bytes × IsPath tree path × holds path
    there (m, u, p, h) =
        let P : List Token → Type 0 = λ x. Passes Run x u m in
        let walked : Walked true w.formed.tree u m = walk_of true w.formed.tree u m w.formed.writes.formed (subst P end p) in
        (w.formed.tree, path_of u w.before, w.formed.writes, (u, walked.walk, ap (λ x. path_of u x) end), h)

    back : (tree : Sequence) × (path : List Token) × Writes tree bytes × IsPath tree path × holds path → Seen holds w.before
    back (tree, path, writes, (u, walk, is), h) =
        let same : tokens tree ≡ w.before = one_cutting (tokens tree) (tokens w.formed.tree) bytes writes.written w.formed.writes.written ∙ sym end in
        let over : Over true Run (tokens tree) u = walk_passes true tree u writes.formed walk in
        let P : List Token → Type 0 = λ x. Passes Run x u over.to in
        (over.to, u, subst P same over.passes, subst holds (is ∙ ap (λ x. path_of u x) same) h)

pub named_at_end : (bytes : List ℕ) (g : Gathering) → Stands bytes [] g → (which : ℕ) → Has g.found.named which ↔ IsNamed bytes which
named_at_end bytes g w which = chain (w.gathers.named which) (seen_is bytes g w (λ path. Names path which))

pub texts_at_end : (bytes : List ℕ) (g : Gathering) → Stands bytes [] g → (which : ℕ) → Has g.found.texts which ↔ IsTakenAsText bytes which
texts_at_end bytes g w which = chain (w.gathers.texts which) (seen_is bytes g w (λ path. TakesAsText path which))
