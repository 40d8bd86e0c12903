use Rattle.std.proofs.Common.{◌≡◌, ◌++◌, map, length, get_or, sym, ap, ◌∙◌, arith, append_assoc}
use Rattle.std.proofs.lemmas.List.{map-append, length-map, get_or_append_left}
use Rattle.std.proofs.lemmas.Simd.{map-map}
use Rattle.ti_words.specs.Texts.{TextOf, AbsentText}
use Rattle.ti_words.specs.Spelling.{part_names}
use Rattle.ti_draft.proofs.NamedLemmas.{in_second, in_third}
use Rattle.ti_c.specs.Entries.{bytes_held}
use Rattle.ti_c.specs.Encoding.{flag_given, name_given, number_given, text_given}
use Rattle.ti_c.proofs.GivenEntryLemmas.{given_names}
use Rattle.ti_c.proofs.given_entry.GivenEntry.name.Goals as goal

pub returns-then-index-flags : goal.returns-then-index-flags
returns-then-index-flags c =
    let e = c.self.inside in
    let flags = map name_given e.flag_names.now in
    let numbers = map name_given e.number_names.now in
    let texts = map name_given e.text_names.now in
    let whole : flags ++ (numbers ++ texts) ≡ map TextOf (part_names c.args.self.now.extended) =
    rw (
      ← c.self.view_is,
      given_names bytes_held flag_given e.flag_names.now e.extended_flags.now c.self.invariant.0,
      given_names bytes_held number_given e.number_names.now e.extended_numbers.now c.self.invariant.1,
      given_names bytes_held text_given e.text_names.now e.extended_texts.now c.self.invariant.2,
    ) (simp (map-append, map-map, append_assoc)) in
    let few : length flags ≡ length e.flag_names.now = simp length-map in
    c.name_at.ensures ∙ sym (get_or_append_left flags (numbers ++ texts) AbsentText c.args.index (omega (arith, few, c.if-index-flags.true)))
    ∙ ap (λ l. get_or l c.args.index AbsentText) whole

pub returns-then-index-numbers : goal.returns-then-index-numbers
returns-then-index-numbers c =
    let e = c.self.inside in
    let flags = map name_given e.flag_names.now in
    let numbers = map name_given e.number_names.now in
    let texts = map name_given e.text_names.now in
    let whole : flags ++ (numbers ++ texts) ≡ map TextOf (part_names c.args.self.now.extended) =
    rw (
      ← c.self.view_is,
      given_names bytes_held flag_given e.flag_names.now e.extended_flags.now c.self.invariant.0,
      given_names bytes_held number_given e.number_names.now e.extended_numbers.now c.self.invariant.1,
      given_names bytes_held text_given e.text_names.now e.extended_texts.now c.self.invariant.2,
    ) (simp (map-append, map-map, append_assoc)) in
    let first : length flags ≡ length e.flag_names.now = simp length-map in
    let second : length numbers ≡ length e.number_names.now = simp length-map in
    c.name_at-then-index-numbers.ensures
    ∙ sym (in_second flags numbers texts c.args.index (length e.flag_names.now) AbsentText first (omega (arith, c.if-index-flags.false)) (omega (arith, second, c.if-index-numbers.true)))
    ∙ ap (λ l. get_or l c.args.index AbsentText) whole

pub returns : goal.returns
returns c =
    let e = c.self.inside in
    let flags = map name_given e.flag_names.now in
    let numbers = map name_given e.number_names.now in
    let texts = map name_given e.text_names.now in
    let whole : flags ++ (numbers ++ texts) ≡ map TextOf (part_names c.args.self.now.extended) =
    rw (
      ← c.self.view_is,
      given_names bytes_held flag_given e.flag_names.now e.extended_flags.now c.self.invariant.0,
      given_names bytes_held number_given e.number_names.now e.extended_numbers.now c.self.invariant.1,
      given_names bytes_held text_given e.text_names.now e.extended_texts.now c.self.invariant.2,
    ) (simp (map-append, map-map, append_assoc)) in
    let first : length flags ≡ length e.flag_names.now = simp length-map in
    let second : length numbers ≡ length e.number_names.now = simp length-map in
    c.name_at-2.ensures
    ∙ sym (in_third flags numbers texts c.args.index (length e.flag_names.now) (length e.number_names.now) AbsentText first second (omega (arith, c.if-index-flags.false)) (omega (arith, c.if-index-numbers.false)))
    ∙ ap (λ l. get_or l c.args.index AbsentText) whole
