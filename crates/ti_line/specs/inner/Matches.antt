-- The values that `clap` found of a subcommand.
use Rattle.std.specs.Prelude.{◌≡◌, List, Option, Some, Result}
use Rattle.clap.specs.Words.{Row, Text, found_of, rows_of}
use Rattle.clap.specs.declared.parser.matches.ArgMatches.{ArgMatches}
use Rattle.ti_line.specs.CommandLine.{Command}
use Rattle.ti_line.specs.Requests.{IsReadAs}
use Rattle.ti_line.specs.declared.destination.Destination.{Destination}
use Rattle.ti_line.specs.declared.no_request.NoRequest.{NoRequest}
use Rattle.ti_line.specs.declared.request.Request.{Request}

-- the texts of each argument
abbrev pub given_rows : ArgMatches → List Row
given_rows given = rows_of (found_of given)

-- what was found is answered with its request, or with why there is none
abbrev pub IsSaidOf : Destination → List Text → Option (Command × List Row) → Result Request NoRequest → Type 0
IsSaidOf to words found answer =
    (command : Command) × (rows : List Row) × (found ≡ Some (command, rows)) × IsReadAs to words command rows answer
