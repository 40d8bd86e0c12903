-- The bytes so far stand in the page.
use Rattle.std.proofs.Common.{◌≡◌, ◌++◌, take}
use Rattle.ti_sink.specs.Pages.{StaysPage, as_page}
use Rattle.ti_sink.proofs.page.push_bytes.Given as goal

abbrev pub invariant-bytes : goal.invariant-bytes
invariant-bytes g l = record {
  stays : StaysPage l.initial.out.items l.out.items;
  text : l.out.items ≡ l.initial.out.items ++ as_page (take l.byte-index l.bytes);
}
