-- Whether each byte so far is written as it is.
use Rattle.std.proofs.Common.{◌≡◌, take}
use Rattle.std.specs.List.{list_all}
use Rattle.ti_listing.specs.inner.Plain.{is_plain}
use Rattle.ti_listing.proofs.plain_name.is_plain_name.Given as goal

abbrev pub invariant-bytes : goal.invariant-bytes
invariant-bytes l = l.plain ≡ list_all is_plain (take l.byte-index l.name)
