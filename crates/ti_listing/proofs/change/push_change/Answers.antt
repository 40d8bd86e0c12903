use Rattle.std.proofs.Common.{◌∙◌, ap₂, sym, true≢false}
use Rattle.ti_words.specs.Items.{item_value, subject_value}
use Rattle.ti_json.specs.Rows.{OfCapability}
use Rattle.ti_listing.specs.Differences.{AreSameItems, item_difference}
use Rattle.ti_listing.proofs.DifferencesLemmas.{change_told}
use Rattle.ti_listing.proofs.change.push_change.Goals as goal

pub returns : goal.returns
returns g c =
    change_told (AreSameItems c.args.likeness) (item_difference (subject_value c.args.subject)) (item_value c.args.first) (item_value c.args.other) _ c.args.out.now.items c.push.new.self.items
    (λ same. true≢false (sym (c.are_alike.ensures.1 same) ∙ c.if-are_alike.false)) (ap₂ (λ first other. (OfCapability (subject_value c.args.subject), first, other)) c.of.ensures c.of-2.ensures) c.in_ok-push.ensures.items
