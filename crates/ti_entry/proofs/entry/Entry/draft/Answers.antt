use Rattle.std.proofs.Common.{◌∙◌, ap, ap₂}
use Rattle.std.specs.List.{fold}
use Rattle.ti_words.specs.Value.{bare}
use Rattle.ti_entry.specs.Drafts.{with_item}
use Rattle.ti_entry.proofs.DraftOfEntryLemmas.{all_added, none_added}
use Rattle.ti_entry.proofs.entry.Entry.draft.Goals as goal

pub items-init : goal.items-init
items-init g c =
    let v = c.args.self.now in
    let start = c.in_ok-reserve.ensures.same ∙ c.new-draft.ensures ∙ ap₂ bare c.width.ensures c.names.ensures in record {
      added = ap (λ d. fold with_item d c.items-items.result) start ∙ ap (fold with_item (bare v.width v.names)) c.items-items.ensures ∙ all_added v;
      none = λ is. c.items-items.ensures ∙ none_added v is;
    }
