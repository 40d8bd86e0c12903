use Rattle.std.proofs.Common.{◌∙◌, refl, sym, true≢false}
use Rattle.std.proofs.lemmas.Slice.Eq.{bytes_eq-Decides}
use Rattle.ti_listing.specs.Differences.{AreSame, names_difference}
use Rattle.ti_listing.proofs.DifferencesLemmas.{change_told}
use Rattle.ti_listing.proofs.diff.push_names.Goals as goal

pub returns : goal.returns
returns g c =
    change_told AreSame names_difference c.args.first.now c.args.other.now _ c.args.out.now.items c.push.new.self.items
    (λ same. true≢false (sym ((bytes_eq-Decides c.args.first.now c.args.other.now).1 same) ∙ sym c.eq.ensures ∙ c.if-eq.false)) refl c.in_ok-push.ensures.items
