use Rattle.std.proofs.Common.{◌≡◌, ◌+◌, ◌*◌, ◌++◌, length, take, drop}
use Rattle.ti_words.specs.Spelling.{words_of}
use Rattle.ti_draft.specs.Canonical.{text_words, texts_table}
use Rattle.ti_draft.specs.Sources.{listed}
use Rattle.ti_draft.proofs.put.put_text_words.Given as goal

abbrev pub invariant-loop-i : goal.invariant-loop-i
invariant-loop-i g l =
    let texts = (listed (g.S.Source.entry l.source) l.part).texts in
    record {
      joined : take l.end l.out ++ words_of (text_words l.place (drop l.i texts)) ≡ take l.at l.initial.out ++ words_of (text_words 0 texts);
      counted : l.place + length (texts_table (drop l.i texts)) ≡ length (texts_table texts);
      room : l.end + length (drop l.i texts) * 2 ≡ l.at + length texts * 2;
    }
