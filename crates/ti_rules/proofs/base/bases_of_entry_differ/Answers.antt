use Rattle.std.proofs.Common.{◌≡◌, ◌∙◌, ◌+◌, ◌&&◌, not, ap, ap₂, arith, nat_eq, sym, true}
use Rattle.ti_rules.specs.Bases.{bases_agree}
use Rattle.ti_rules.proofs.BaseLemmas.{differ_is, goes_on, named, some_is}
use Rattle.ti_rules.proofs.base.bases_of_entry_differ.Goals as goal

pub extended-part-requires-clause-there : goal.extended-part-requires-clause-there
extended-part-requires-clause-there c = (goes_on c.type_inv.bytes c.requires.spelled c.standard-standard.ensures.words c.end.ensures (omega (arith, c.if-bytes-end.false))).there

pub items_after-items-requires-clause-there : goal.items_after-items-requires-clause-there
items_after-items-requires-clause-there c = (goes_on c.type_inv.bytes c.requires.spelled c.standard-standard.ensures.words c.end.ensures (omega (arith, c.if-bytes-end.false))).there

pub bases_agree-requires-clause-within : goal.bases_agree-requires-clause-within
bases_agree-requires-clause-within c =
    let g = goes_on c.type_inv.bytes c.requires.spelled c.standard-standard.ensures.words c.end.ensures (omega (arith, c.if-bytes-end.false)) in
    rw c.extended-part.ensures.words g.within

pub bases_agree-requires-clause-base : goal.bases_agree-requires-clause-base
bases_agree-requires-clause-base c =
    let g = goes_on c.type_inv.bytes c.requires.spelled c.standard-standard.ensures.words c.end.ensures (omega (arith, c.if-bytes-end.false)) in
    rw c.extended-part.ensures.words (c.requires.base ∙ g.base)

pub returns-then-names-ne0 : goal.returns-then-names-ne0
returns-then-names-ne0 c =
    let bytes = c.args.bytes.now in
    let g = goes_on c.type_inv.bytes c.requires.spelled c.standard-standard.ensures.words c.end.ensures (omega (arith, c.if-bytes-end.false)) in
    let n = c.count.result + c.count-2.result + c.count-3.result in
    let names : n ≡ c.extended-part.result.names = omega (arith, c.count.ensures, c.count-2.ensures, c.count-3.ensures, named _ _ _ c.extended-part.ensures.words) in
    ap₂ (λ t u. not t && not u) (sym (some_is n c.if-names-ne0.true)) c.bases_agree.ensures
    ∙ differ_is c.items_after-items.result n g c.standard-standard.ensures.words c.extended-part.ensures.words c.items_after-items.ensures names

pub returns-else-names-ne0 : goal.returns-else-names-ne0
returns-else-names-ne0 c =
    let bytes = c.args.bytes.now in
    let g = goes_on c.type_inv.bytes c.requires.spelled c.standard-standard.ensures.words c.end.ensures (omega (arith, c.if-bytes-end.false)) in
    let n = c.count.result + c.count-2.result + c.count-3.result in
    let names : n ≡ c.extended-part.result.names = omega (arith, c.count.ensures, c.count-2.ensures, c.count-3.ensures, named _ _ _ c.extended-part.ensures.words) in
    let none : nat_eq n 0 ≡ true = ap (λ m. nat_eq m 0) c.if-names-ne0.false in
    ap not none ∙ sym (ap (λ t. not t && not (bases_agree bytes c.extended-part.result c.items_after-items.result)) none)
    ∙ differ_is c.items_after-items.result n g c.standard-standard.ensures.words c.extended-part.ensures.words c.items_after-items.ensures names
