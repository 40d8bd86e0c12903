use Rattle.std.proofs.Common.{◌≡◌, ◌∙◌, ◌<◌, ◌≤◌, ◌++◌, ◌∷◌, ℕ, List, [], Bool, true, false, Bor, Contains, ap, arith, get_or, inl, inr, length, not, refl, subst, sym, take}
use Rattle.std.proofs.lemmas.List.{get_or-map, length-map, take_more}
use Rattle.ti_rules.specs.Names.{IsNameReport, on_again, on_new}
use Rattle.ti_rules.specs.inner.Lent.{texts_lent}
use Rattle.ti_rules.proofs.ReportsLemmas.{goes_end, goes_next}
use Rattle.ti_rules.proofs.RepeatedLemmas.{AreSeen, not_seen_before, seen_before, seen_next}
use Rattle.ti_rules.proofs.report.Report.push_each.Goals as goal
use Rattle.ti_rules.proofs.report.Report.push_each.Goals.{then-branch+in_ok-push_new, else-branch+in_ok-push_again}

turned : (a b : Bool) → not a ≡ b → a ≡ not b
turned true true e = absurd (cc)
turned true false e = refl
turned false true e = refl
turned false false e = absurd (cc)

abbrev none : Bor (List ℕ)
none = record { ref_ptr = (0, 0); now = [] }

pub names-preserved : goal.names-preserved
names-preserved g c =
    let l = c.names in
    let names = c.args.names.now in
    let all = texts_lent names in
    let i = l.name-index in
    let one = get_or names i none in
    let old = l.self.remarks in
    let within : i < length all = omega (arith, c.names-test.true, length-map names (λ text. text.now)) in
    let text : get_or all i [] ≡ one.now = get_or-map (λ text. text.now) names i none [] c.names-test.true in
    let P : List (List ℕ) → Type 0 = λ texts. AreSeen texts c.insert.new.self.keys in
    let more = seen_next (take i all) l.seen.keys c.insert.new.self.keys one l.invariant.seen c.in_ok-insert.ensures.keys in
    let next = goes_next (IsNameReport c.args.kind all) all i [] c.args.self.now.remarks old c.if-branch.self.remarks within l.invariant.goes in
    record {
      seen = subst P (ap (λ t. take i all ++ t ∷ []) (sym text) ∙ sym (take_more all i [] within)) more;
      kept = elim c.if-branch.branch [
        | then-branch+in_ok-push_new w ↦ ap (λ r. r.on) w.self-is ∙ w.in_ok-push_new.ensures.0 ∙ l.invariant.kept
        | else-branch+in_ok-push_again w ↦ ap (λ r. r.on) w.self-is ∙ w.in_ok-push_again.ensures.0 ∙ l.invariant.kept
      ];
      goes = elim c.if-branch.branch [
        | then-branch+in_ok-push_new w ↦
            let Q : List ℕ → Type 0 = λ t. ¬ Contains (take i all) t in
            next (
              on_new c.args.kind (get_or all i []),
              inr (subst Q (sym text) (not_seen_before (take i all) l.seen.keys one l.invariant.seen (turned _ true (sym c.in_ok-insert.ensures.added ∙ w.if-branch.true))), refl),
              ap (λ r. r.remarks) w.self-is ∙ w.in_ok-push_new.ensures.1 ∙ ap (λ t. old ++ on_new c.args.kind t) (sym text),
            )
        | else-branch+in_ok-push_again w ↦
            let Q : List ℕ → Type 0 = λ t. Contains (take i all) t in
            next (
              on_again c.args.kind (get_or all i []),
              inl (subst Q (sym text) (seen_before (take i all) l.seen.keys one l.invariant.seen (turned _ false (sym c.in_ok-insert.ensures.added ∙ w.if-branch.false))), refl),
              ap (λ r. r.remarks) w.self-is ∙ w.in_ok-push_again.ensures.1 ∙ ap (λ t. old ++ on_again c.args.kind t) (sym text),
            )
      ];
    }

pub returns : goal.returns
returns g c =
    let names = texts_lent c.args.names.now in
    let none_left : length names ≤ c.names.name-index = omega (arith, c.names-test.false, length-map c.args.names.now (λ text. text.now)) in
    (c.names.invariant.kept, goes_end (IsNameReport c.args.kind names) names c.names.name-index c.args.self.now.remarks c.names.self.remarks none_left c.names.invariant.goes)
