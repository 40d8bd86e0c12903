use Rattle.std.proofs.Common.{◌≡◌, ◌∙◌, ap, arith, sym}
use Rattle.ti_layout.specs.Layout.{standard}
use Rattle.ti_layout.specs.Content.{part_in}
use Rattle.ti_words.specs.Value.{EntryValue}
use Rattle.ti_entry.proofs.ReopeningLemmas.{spelled_by}
use Rattle.ti_entry.proofs.reopening.reopen_standard.Goals as goal

pub returns-in_err-standard : goal.returns-in_err-standard
returns-in_err-standard c = record {
  again = λ v s.
      let known = spelled_by c.args.bytes.now v (λ i. omega (arith, c.type_inv.bytes i)) s in
      let some = c.in_err-standard.ensures.exact known.parts.named known.parts.first in
      absurd (cc);
}

pub returns : goal.returns
returns c = record {
  again = λ v s.
      let bytes = c.args.bytes.now in
      let known = spelled_by bytes v (λ i. omega (arith, c.type_inv.bytes i)) s in
      let is : c.in_ok-standard.standard ≡ standard bytes = c.in_ok-standard.ensures.within.2 in
      c.part_view.ensures ∙ ap (part_in bytes) is ∙ ap (λ (x : EntryValue). x.standard) (sym known.same);
}
