-- Whether the bytes so far may stand in a page.
use Rattle.std.proofs.Common.{◌≡◌, take}
use Rattle.std.specs.List.{list_all}
use Rattle.ti_sink.specs.Pages.{is_plain}
use Rattle.ti_sink.proofs.page.are_plain.Given as goal

abbrev pub invariant-bytes : goal.invariant-bytes
invariant-bytes l = l.plain ≡ list_all is_plain (take l.byte-index l.bytes)
