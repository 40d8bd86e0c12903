-- What an error of `clap` tells of the words.
use Rattle.std.specs.Prelude.{◌≡◌, ◌≢◌, true, false}
use Rattle.clap.specs.declared.error.kind.ErrorKind.{ErrorKind}
use Rattle.clap.specs.declared.error.kind.ErrorKind.TheVariants as kind
use Rattle.ti_line.specs.CommandLine.{is_help}
use Rattle.ti_line.specs.declared.no_request.NoRequest.{NoRequest}
use Rattle.ti_line.specs.declared.no_request.NoRequest.TheVariants as no_request

-- what an error tells, by its kind; out of memory may be the answer to each, since its text is kept
abbrev pub TellsOf : ErrorKind → NoRequest → Type 0
TellsOf k (no_request.Help message) = is_help k ≡ true
TellsOf k (no_request.Refused message) = (is_help k ≡ false) × (k ≢ kind.OutOfMemory)
TellsOf k (no_request.Fault why) = ⊥
TellsOf k (no_request.Explanation words) = ⊥
TellsOf k no_request.Memory = Unit {0}
