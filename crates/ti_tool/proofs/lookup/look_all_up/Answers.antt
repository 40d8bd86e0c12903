use Rattle.std.proofs.Common.{◌≡◌, ◌||◌, ◌∙◌, ◌++◌, ap, length, map, nat_lt, sym}
use Rattle.std.specs.Prelude.{is_some, string_bytes}
use Rattle.std.proofs.lemmas.List.{map-append}
use Rattle.ti_tool.specs.Streams.{file_name, lookup}
use Rattle.ti_tool.proofs.FileRunsLemmas.{found_word}
use Rattle.ti_tool.proofs.lookup.look_all_up.Goals.{then-are_several, else-are_several}
use Rattle.ti_tool.proofs.lookup.look_all_up.Goals as goal

pub loop-word-preserved : goal.loop-word-preserved
loop-word-preserved g c =
    let found = c.in_ok-files.files.found.items in
    let in_folder = c.in_ok-files.files.are_in_folder in
    let some : c.if-are_several.are_several ≡ c.loop-word.are_several || in_folder =
    elim c.if-are_several.branch [
      | then-are_several w ↦ w.are_several-is ∙ w.if-are_several.true ∙ sym (ap (λ b. b || in_folder) w.if-are_several.true)
      | else-are_several w ↦ w.are_several-is ∙ sym (ap (λ b. b || in_folder) w.if-are_several.false)
    ] in
    found_word (g.S.Store.known c.args.store.now) c.args.of_entry.now c.args.words.now c.loop-word.word-index _ (nat_lt 1 (length c.args.words.now)) c.loop-word.are_several c.if-are_several.are_several
    (map (λ f. file_name (string_bytes f.name) (is_some f.fault)) c.loop-word.all.items) (map (λ f. file_name (string_bytes f.name) (is_some f.fault)) c.append.new.self.items)
    (lookup in_folder (map (λ f. file_name (string_bytes f.name) (is_some f.fault)) found)) c.loop-word.lines.items c.extend_from_slice.new.self.items c.loop-word-test.true c.loop-word.invariant c.in_ok-files.ensures
    (ap (map (λ f. file_name (string_bytes f.name) (is_some f.fault))) c.in_ok-append.ensures.items ∙ map-append (λ f. file_name (string_bytes f.name) (is_some f.fault)) c.loop-word.all.items found) some
    (c.in_ok-extend_from_slice.ensures.items ∙ ap (λ l. c.loop-word.lines.items ++ l) (c.as_slice.ensures.value ∙ c.in_ok-line.ensures))
