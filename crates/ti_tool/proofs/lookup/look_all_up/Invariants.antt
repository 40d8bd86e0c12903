use Rattle.std.proofs.Common.{length, map, nat_lt, take}
use Rattle.std.specs.Prelude.{is_some, string_bytes}
use Rattle.ti_line.specs.Requests.{texts_of}
use Rattle.ti_tool.specs.Streams.{file_name}
use Rattle.ti_tool.proofs.FileRunsLemmas.{Found}
use Rattle.ti_tool.proofs.lookup.look_all_up.Given as goal

-- what the words so far name
abbrev pub invariant-loop-word : goal.invariant-loop-word
invariant-loop-word g l = Found (g.S.Store.known l.store) l.of_entry (texts_of (take l.word-index l.words)) (nat_lt 1 (length l.words))
    (map (λ f. file_name (string_bytes f.name) (is_some f.fault)) l.all.items) l.are_several l.lines.items
