use Rattle.std.proofs.Common.{◌≡◌, ◌∙◌, ◌+◌, ◌++◌, ◌∷◌, ℕ, Bool, List, [], ap, arith, drop, map, subst, sym, if◌then◌else◌}
use Rattle.std.specs.Borrow.{Bor}
use Rattle.std.proofs.lemmas.List.{map-append}
use Rattle.ti_entry.specs.Finding.{names_of}
use Rattle.ti_listing.specs.Differences.{has, with_new}
use Rattle.ti_listing.specs.inner.Names.{IsSetOf}
use Rattle.ti_listing.proofs.ExtendedNamesLemmas.{next_new}
use Rattle.ti_listing.proofs.NamesLemmas.{added_if_new, set_more}
use Rattle.ti_listing.proofs.extended_names.push_new.Goals as goal
use Rattle.ti_listing.proofs.extended_names.push_new.Goals.{then-branch+in_ok-push, else-branch}

pub names-preserved : goal.names-preserved
names-preserved g c =
    let ns = names_of c.args.extended.now c.args.kind in
    let i = c.names.index in
    let name : List ℕ = c.name_or_empty-name.result.now in
    let texts : List (Bor (List ℕ)) → List (List ℕ) = map (λ one. one.now) in
    let names = texts c.names.names.items in
    let new = texts c.if-branch.names.items in
    let size = c.key_of.ensures.length in
    let bytes = c.key_of.ensures.name in
    let after : Bool → List (List ℕ) = λ added. if added then names ++ name ∷ [] else names in
    let onto : List ℕ → List (List ℕ) = λ n. if has names n then names else names ++ n ∷ [] in
    let listed : after c.in_ok-insert.field-0 ≡ onto name = added_if_new names name c.key_of.result c.names.kept c.in_ok-insert.field-0 size bytes c.names.invariant.set c.in_ok-insert.ensures.added in
    let is : new ≡ onto name =
    elim c.if-branch.branch [
      | then-branch+in_ok-push w ↦
          ap (λ v. texts v.items) w.names-is ∙ ap texts w.in_ok-push.ensures.items ∙ map-append (λ one. one.now) c.names.names.items (c.name_or_empty-name.result ∷ [])
          ∙ ap after (sym w.if-branch.true) ∙ listed
      | else-branch w ↦ ap (λ v. texts v.items) w.names-is ∙ ap after (sym w.if-branch.false) ∙ listed
    ] in
    record {
      rest =
          ap (λ l. with_new l (drop (i + 1) ns)) is ∙ ap (λ n. with_new (onto n) (drop (i + 1) ns)) c.name_or_empty-name.ensures
          ∙ sym (next_new names ns i (omega (arith, c.names-test.true, c.names.auto.index-end, c.count_of-index-end.ensures))) ∙ c.names.invariant.rest;
      set = subst (λ l. IsSetOf l c.insert.new.self) (sym is) (set_more names name c.key_of.result c.names.kept c.insert.new.self size bytes c.names.invariant.set c.in_ok-insert.ensures.updates);
    }
