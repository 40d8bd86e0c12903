use Rattle.std.proofs.Common.{◌≡◌, ◌∙◌, Some, ap, rules, sym}
use Rattle.std.specs.Option.{option_map}
use Rattle.std.proofs.lemmas.Bool.{false≢true}
use Rattle.std.proofs.lemmas.Option.{none-some, same_Some}
use Rattle.std.proofs.lemmas.Slice.Eq.{bytes_eq-Decides}
use Rattle.ti_names.proofs.NamesLemmas.{nowhere, there}
use Rattle.ti_names.proofs.name_table.NameTable.look_at.Goals as goal

pub returns-in-Some : goal.returns-in-Some
returns-in-Some c =
    let same : c.in-Some.known.now ≡ c.args.name.now = search rules in
    there c.args.self c.args.name.now c.args.place (sym c.in-Some.ensures.value ∙ ap Some same)

pub returns-in_default : goal.returns-in_default
returns-in_default c = nowhere c.args.self c.args.name.now c.args.place c.requires (λ is.
    let same = c.as_bytes.ensures.value ∙ same_Some c.in-Some.known.now c.args.name.now (c.in-Some.ensures.value ∙ is) in
    false≢true (c.if-eq.ensures ∙ (bytes_eq-Decides c.as_bytes.result.now c.args.name.now).1 same))

pub returns-in_default-2 : goal.returns-in_default-2
returns-in_default-2 c = nowhere c.args.self c.args.name.now c.args.place c.requires (λ is.
    none-some c.args.name.now (sym (ap (option_map (λ name. name.now)) c.in_default.is) ∙ c.name_at.ensures.value ∙ is))
