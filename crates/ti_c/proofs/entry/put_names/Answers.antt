use Rattle.std.proofs.Common.{◌≡◌, ◌+◌, ◌<◌, List, [], length, Some, None, get_or, slice_get, refl, sym, ap, ◌∙◌, subst, arith}
use Rattle.std.proofs.lemmas.Option.{get_or_from_slice_get, slice_get-get_or}
use Rattle.std.specs.Option.{option_map}
use Rattle.ti_entry.specs.Finding.{names_of}
use Rattle.ti_c.specs.declared.names.Bytes.{Bytes}
use Rattle.ti_c.specs.Entries.{bytes_held, itself, StartsWith}
use Rattle.ti_c.proofs.StartsWithLemmas.{put_values, starts_more}
use Rattle.ti_c.proofs.entry.put_names.Goals as goal
use Rattle.ti_c.proofs.entry.put_names.Goals.{in-Some, in_default}

pub loop-i-preserved : goal.loop-i-preserved
loop-i-preserved c =
    let names = names_of c.args.extended.now c.args.kind in
    let i = c.loop-i.i in
    let more : i < length names = omega (arith, c.loop-i-test.true, c.count_of-i-end.ensures) in
    elim c.match-name.branch [
      | in-Some w ↦
          (let name : slice_get names i ≡ Some w.in-Some.name.now = sym c.name.ensures ∙ ap (option_map (λ n. n.now)) w.in-Some.is in
          let item : Bytes = record { bytes = w.in-Some.name } in
          let within : c.args.from + i < length c.loop-i.names = omega (arith, more, c.requires, c.loop-i.auto.names) in
          let P : List Bytes → Type 0 = λ after. StartsWith bytes_held c.args.names.now after (put_values bytes_held itself c.args.names.now c.args.from names (i + 1)) in
          subst P (sym w.names-is)
          (starts_more bytes_held itself c.args.names.now c.loop-i.names c.args.from names i (c.args.from + i) [] item
          c.loop-i.invariant refl c.requires more within (sym (get_or_from_slice_get names i w.in-Some.name.now [] name))))
      | in_default w ↦
          (let none : Some (get_or names i []) ≡ None = sym (slice_get-get_or names i [] more) ∙ sym c.name.ensures ∙ ap (option_map (λ n. n.now)) w.in_default.is in
          absurd cc)
    ]
