use Rattle.std.proofs.Common.{◌≡◌, ◌∙◌, ◌++◌, ℕ, List, ap, refl, subst}
use Rattle.std.specs.Prelude.{codes}
use Rattle.ti_sink.specs.Printed.{first_member}
use Rattle.ti_rules.specs.Findings.{finding_word}
use Rattle.ti_forms.proofs.document.print_remark.Goals as goal

pub returns : goal.returns
returns g c =
    let old = c.args.printer.now.bytes in
    let new = c.object.new.self.bytes in
    let word = c.word.ensures ∙ ap finding_word c.finding.ensures in
    record {
      fits = c.object.ensures.object.fits;
      kept = c.object.ensures.object.kept;
      added = λ ok fits.
          let (comma, more, is) = c.object.ensures.object.added ok fits in
          let P : List ℕ → Type 0 = λ w. new ≡ old ++ (comma ++ (first_member (codes "finding") w ++ more)) in
          (comma ++ (first_member (codes "finding") (finding_word c.args.remark.now.finding) ++ more), (comma, more, refl), subst P word is);
    }
