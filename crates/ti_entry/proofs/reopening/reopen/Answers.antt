use Rattle.std.proofs.Common.{◌≡◌, ◌∙◌, arith, sym}
use Rattle.std.specs.Prelude.{Some}
use Rattle.ti_layout.specs.Layout.{standard}
use Rattle.ti_layout.specs.Content.{extended}
use Rattle.ti_entry.proofs.ReopeningLemmas.{spelled_by}
use Rattle.ti_entry.proofs.WholeStageLemmas.{view_of}
use Rattle.ti_entry.proofs.reopening.reopen.Goals as goal

pub returns-then-base-gt-MOST_ENTRY_BYTES : goal.returns-then-base-gt-MOST_ENTRY_BYTES
returns-then-base-gt-MOST_ENTRY_BYTES c = record {
  again = λ v s e.
      let known = spelled_by c.args.bytes.now v (λ i. omega (arith, c.type_inv.bytes i)) s in
      omega (arith, c.if-base-gt-MOST_ENTRY_BYTES.true, e, known.base, known.parts.base);
}

pub returns-in_err-standard : goal.returns-in_err-standard
returns-in_err-standard c = record {
  again = λ v s e.
      let known = spelled_by c.args.bytes.now v (λ i. omega (arith, c.type_inv.bytes i)) s in
      let some = c.in_err-standard.ensures.exact known.parts.named known.parts.first in
      absurd (cc);
}

pub returns-in_err-extended : goal.returns-in_err-extended
returns-in_err-extended c = record {
  again = λ v s e.
      let known = spelled_by c.args.bytes.now v (λ i. omega (arith, c.type_inv.bytes i)) s in
      let is : c.in_ok-standard.standard ≡ standard c.args.bytes.now = c.in_ok-standard.ensures.within.2 in
      let some = c.in_err-extended.ensures.exact known.parts.second (rw is known.parts.follows) in
      absurd (cc);
}

pub returns : goal.returns
returns c = record {
  again = λ v s e.
      let bytes = c.args.bytes.now in
      let known = spelled_by bytes v (λ i. omega (arith, c.type_inv.bytes i)) s in
      let is : c.in_ok-standard.standard ≡ standard bytes = c.in_ok-standard.ensures.within.2 in
      let some : Some c.in_ok-extended.extended ≡ Some (extended bytes) = c.in_ok-extended.ensures.exact known.parts.second (rw is known.parts.follows) in
      let extended_is : c.in_ok-extended.extended ≡ extended bytes = cc in
      let base_is = e ∙ known.base in
      c.entry_of.ensures ∙ view_of bytes c.in_ok-standard.standard c.in_ok-extended.extended c.args.base is extended_is (rw extended_is base_is) ∙ sym known.same;
}
