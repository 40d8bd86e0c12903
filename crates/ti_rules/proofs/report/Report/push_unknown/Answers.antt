-- Both ways are looked at, and what is found of either is kept.
use Rattle.std.proofs.Common.{◌≡◌, ◌∙◌, ◌++◌, ℕ, List, ap, subst, sym, true}
use Rattle.ti_allow.specs.Harmless.{IsSilent}
use Rattle.ti_rules.specs.Controls.{AreControls, AsItStands, Expanded, Keeps}
use Rattle.ti_rules.specs.inner.Growing.{Report}
use Rattle.ti_rules.proofs.report.Report.push_unknown.Goals as goal

pub returns : goal.returns
returns g c =
    let text = c.args.subject.now.text.now in
    let Expands : List ℕ → Type 0 = λ name. Keeps name (Expanded text) in
    let Stands : List ℕ → Type 0 = λ name. Keeps name (AsItStands text) in
    let same : c.found_in-2.new.self ≡ c.args.self.now = c.found_in-2.ensures.kept ∙ c.found_in.ensures.kept in
    let remarks = c.add_look-2.new.remarks.items in
    let (kept, is) = c.in_ok-extend.ensures in (
      kept ∙ ap (λ (r : Report). r.on) same,
      (
        remarks,
        record {
          controls = c.in_ok-add_look-2.ensures.controls (c.in_ok-add_look.ensures.controls (subst AreControls (sym c.new-remarks.ensures.items) tt));
          silent = λ untrusted silent.
              let first : IsSilent c.as_slice.result.now = c.in_ok-add_look.ensures.silent untrusted (c.in_ok-add_look-2.ensures.before silent) in
              let second : IsSilent c.as_slice-2.result.now = c.in_ok-add_look-2.ensures.silent untrusted silent in (
                subst Expands c.of-look.ensures (c.in_ok-found.ensures.keeps (rw (← c.as_slice.ensures.value) first)),
                (subst Stands c.of-plain.ensures (c.in_ok-found-2.ensures.keeps (rw (← c.as_slice-2.ensures.value) second)), tt),
              );
        },
        is ∙ ap (λ (r : Report). r.remarks ++ remarks) same,
      ),
    )
