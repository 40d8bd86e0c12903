use Rattle.std.proofs.Common.{◌∙◌, refl, sym, true≢false}
use Rattle.ti_listing.specs.Differences.{AreSame, format_difference}
use Rattle.ti_listing.proofs.DifferencesLemmas.{change_told, same_width}
use Rattle.ti_listing.proofs.diff.push_format.Goals as goal

pub returns : goal.returns
returns g c =
    change_told AreSame format_difference c.args.first c.args.other _ c.args.out.now.items c.push.new.self.items (λ same. true≢false (sym (same_width c.args.first c.args.other same) ∙ sym c.eq.ensures ∙ c.if-eq.false)) refl c.in_ok-push.ensures.items
