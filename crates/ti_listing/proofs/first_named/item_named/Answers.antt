use Rattle.std.proofs.Common.{◌≡◌, ◌∙◌, Some, None, ap, subst, sym}
use Rattle.ti_words.specs.Spelling.{without_names}
use Rattle.ti_entry.specs.Finding.{IsLeastIndex, names_of}
use Rattle.ti_entry.specs.Items.{item_in}
use Rattle.ti_listing.specs.inner.Names.{index_of}
use Rattle.ti_listing.proofs.NamesLemmas.{found_at_key}
use Rattle.ti_listing.proofs.first_named.item_named.Goals as goal

pub returns-in-Some : goal.returns-in-Some
returns-in-Some g c =
    let names = names_of c.args.entry.now.extended c.args.kind in
    let name = c.args.name.now in
    let found : index_of c.args.firsts.now name ≡ Some c.in-Some.index.now =
    sym (found_at_key c.args.firsts.now name c.key_of.result c.key_of.ensures.length c.key_of.ensures.name) ∙ sym c.in-Some.ensures.value in (
      Some c.in-Some.index.now,
      subst (IsLeastIndex names name) found (c.requires name),
      c.item.ensures ∙ ap (λ part. item_in part c.args.kind c.in-Some.index.now) (c.without_names.ensures ∙ ap without_names c.extended.ensures),
    )

pub returns-in-None : goal.returns-in-None
returns-in-None g c =
    let names = names_of c.args.entry.now.extended c.args.kind in
    let name = c.args.name.now in
    let found : index_of c.args.firsts.now name ≡ None =
    sym (found_at_key c.args.firsts.now name c.key_of.result c.key_of.ensures.length c.key_of.ensures.name) ∙ sym c.in-None.ensures.value in
    (None, subst (IsLeastIndex names name) found (c.requires name), c.none_of.ensures)
