-- The command line of `ti`: the command that is handed to `clap`, what words ask for by it, and the
-- words that it refuses or answers with help. `fault_of` and `subcommand_of` are `clap`'s own
-- definition of a simple command.
use Rattle.std.specs.Prelude.{◌≡◌, ◌≤◌, ◌^◌, ◌&&◌, ℕ, Bool, true, false, not, List, [], ◌∷◌, ◌++◌, fold, Option, Some, None, IsSome, codes, pos, unwrap_or, option_and_then, option_map, if◌then◌else◌, nat_lt, length}
use Rattle.std.specs.List.{list_all, list_any}
use Rattle.std.specs.Option.{option_map_or}
use Rattle.std.specs.Str.{bytes_eq}
use Rattle.std.specs.Char.{digit_value}
use Rattle.std.specs.Str.Parse.{digits_value, without_leading_plus}
use Rattle.ti_base.specs.Letters.{letter}
use Rattle.ti_base.specs.Limits.{greatest_rate, most_lines}
use Rattle.clap.specs.Lexer.{usize_max}
pub use Rattle.clap.specs.Words.{Row}
use Rattle.clap.specs.Words.{App, Kinds, Rule, Text, all_of, fault_of, first_of, new_app, new_rule, one_of, subcommand_of, with_rule, with_subcommand}
use Rattle.clap.specs.Simple.{on_top}
use Rattle.clap.specs.declared.builder.action.ArgAction.TheVariants.{Append, SetTrue}
use Rattle.clap.specs.declared.builder.value_parser.ValueParser.TheVariants as vp
use Rattle.clap.specs.declared.error.kind.ErrorKind.{ErrorKind}
use Rattle.clap.specs.declared.error.kind.ErrorKind.TheVariants as kind

-- ---- the command

-- an option without a value
abbrev pub flag_rule : Text → Rule
flag_rule name = record (new_rule name) { long = Some name; action = Some SetTrue }

-- the same with a short form of one letter, such as `-e` for `--escape`
abbrev pub short_rule : Text → Text → Rule
short_rule name short = record (flag_rule name) { short = Some (letter short) }

-- `--source`
abbrev pub source_rule : Rule
source_rule = flag_rule (codes "source")

-- `-x` or `--hex`, `-e` or `--escape`, `-a` or `--all-names`
abbrev pub hex_rule : Rule
hex_rule = short_rule (codes "hex") (codes "x")

abbrev pub escape_rule : Rule
escape_rule = short_rule (codes "escape") (codes "e")

abbrev pub all_names_rule : Rule
all_names_rule = short_rule (codes "all-names") (codes "a")

-- `--json`
abbrev pub json_rule : Rule
json_rule = flag_rule (codes "json")

-- `--color WHEN`
abbrev pub color_rule : Rule
color_rule = record (new_rule (codes "color")) { long = Some (codes "color"); value_names = 1 }

-- an option with a number
abbrev pub number_rule : Text → ℕ → Rule
number_rule name most =
    record (new_rule name) {
      long = Some name;
      value_names = 1;
      parser = Some (vp.Signed (pos 0) (pos most));
    }

-- `PARAM..`: any number of words
abbrev pub params_rule : Rule
params_rule = record (new_rule (codes "PARAM")) {
  action = Some Append;
  range = Some (record { start_inclusive = 0; end_inclusive = usize_max });
}

-- `FILE..`: any number of words
abbrev pub files_rule : Rule
files_rule = record (new_rule (codes "FILE")) {
  action = Some Append;
  range = Some (record { start_inclusive = 0; end_inclusive = usize_max });
}

-- `FILE`: at most one word
abbrev pub file_rule : Rule
file_rule = new_rule (codes "FILE")

-- `--entry FILE`
abbrev pub entry_rule : Rule
entry_rule = record (new_rule (codes "ENTRY")) { long = Some (codes "entry"); value_names = 1 }

-- `--of NAME`
abbrev pub of_rule : Rule
of_rule = record (new_rule (codes "NAME")) { long = Some (codes "of") }

-- `NAME`
abbrev pub name_rule : Rule
name_rule = record (new_rule (codes "NAME")) { required = true }

-- `--rate N`, 0 to the greatest rate
abbrev pub rate_rule : Rule
rate_rule = number_rule (codes "rate") greatest_rate

-- `--lines N`, 0 to the most lines
abbrev pub lines_rule : Rule
lines_rule = number_rule (codes "lines") most_lines

-- a command with these arguments too, in their order
abbrev pub with_rules : App → List Rule → App
with_rules = fold with_rule

-- a command with these subcommands too, in their order
abbrev pub with_commands : App → List App → App
with_commands = fold (λ a sub. with_subcommand a sub.top)

-- `cap [--source] [--hex] [--escape] [PARAM..]`
abbrev pub cap_app : App
cap_app =
    with_rules (new_app (codes "cap")) (source_rule ∷ hex_rule ∷ escape_rule ∷ params_rule ∷ [])

-- `trace [--source] [--of NAME] [--escape] [--json] [--color WHEN] [--entry FILE] [PARAM..]`
abbrev pub trace_app : App
trace_app =
    with_rules (new_app (codes "trace"))
    (source_rule ∷ of_rule ∷ escape_rule ∷ json_rule ∷ color_rule ∷ entry_rule ∷ params_rule ∷ [])

-- `show [--escape] [--all-names] [--json] [--entry FILE] [FILE..]`
abbrev pub show_app : App
show_app =
    with_rules (new_app (codes "show")) (escape_rule ∷ all_names_rule ∷ json_rule ∷ entry_rule ∷ files_rule ∷ [])

-- `check [--escape] [--all-names] [--faults] [--json] [--entry FILE] [FILE..]`
abbrev pub check_app : App
check_app =
    with_rules (new_app (codes "check"))
    (escape_rule ∷ all_names_rule ∷ flag_rule (codes "faults") ∷ json_rule ∷ entry_rule ∷ files_rule ∷ [])

-- `lint [--all] [--untrusted] [--summary] [--explain] [--json] [--color WHEN] [--entry FILE] [FILE..]`
abbrev pub lint_app : App
lint_app =
    with_rules (new_app (codes "lint"))
    (flag_rule (codes "all") ∷ flag_rule (codes "untrusted") ∷ flag_rule (codes "summary") ∷ flag_rule (codes "explain")
    ∷ json_rule ∷ color_rule ∷ entry_rule ∷ files_rule ∷ [])

-- `expand NAME [--hex] [--escape] [--all-names] [--rate N] [--lines N] [--xon] [--entry FILE] [PARAM..]`
abbrev pub expand_app : App
expand_app =
    with_rules (new_app (codes "expand"))
    (name_rule ∷ hex_rule ∷ escape_rule ∷ all_names_rule ∷ rate_rule ∷ lines_rule ∷ flag_rule (codes "xon")
    ∷ entry_rule ∷ params_rule ∷ [])

-- `convert [--wide] [--narrow] [--force] [FILE]`
abbrev pub convert_app : App
convert_app =
    with_rules (new_app (codes "convert"))
    (flag_rule (codes "wide") ∷ flag_rule (codes "narrow") ∷ flag_rule (codes "force")
    ∷ file_rule ∷ [])

-- `get NAME [--hex] [--escape] [--rate N] [--lines N] [--xon] [--entry FILE] [PARAM..]`
abbrev pub get_app : App
get_app =
    with_rules (new_app (codes "get"))
    (name_rule ∷ hex_rule ∷ escape_rule ∷ rate_rule ∷ lines_rule ∷ flag_rule (codes "xon")
    ∷ entry_rule ∷ params_rule ∷ [])

-- `diff [--expand] [--json] [--color WHEN] [FILE..]`: the other entry, or the first and the other
abbrev pub diff_app : App
diff_app =
    with_rules (new_app (codes "diff")) (flag_rule (codes "expand") ∷ json_rule ∷ color_rule ∷ files_rule ∷ [])

-- `ti` with a version, which wants a subcommand
abbrev pub start_app : App
start_app =
    on_top (λ s. record s { has_version = true; subcommand_required = true }) (new_app (codes "ti"))

-- `ti` whole
abbrev pub ti_app : App
ti_app =
    with_commands start_app
    (show_app ∷ check_app ∷ lint_app ∷ get_app ∷ diff_app ∷ expand_app ∷ convert_app ∷ cap_app ∷ trace_app ∷ [])

-- ---- the values that `clap` found

-- an option without a value was given
abbrev pub flag_in : Text → List Row → Bool
flag_in id rows = option_map_or (λ t. bytes_eq t (codes "true")) (one_of id rows) false

-- the number that a text spells in decimal, below 2^32, or else `default`
abbrev pub number_or : ℕ → Text → ℕ
number_or default text =
    let ds = without_leading_plus text in
    if nat_lt 0 (length ds) && list_all (λ d. nat_lt (digit_value d) 10) ds
    && nat_lt (digits_value 10 ds) (2 ^ 32)
    then digits_value 10 ds else default

-- the number of an option, `default` if it was not given
abbrev pub number_in : Text → ℕ → List Row → ℕ
number_in id default rows = option_map_or (number_or default) (one_of id rows) default

-- the words of an argument, in their order
abbrev pub words_in : Text → List Row → List Text
words_in id rows = unwrap_or (all_of id rows) []

-- those of the parameters
abbrev pub params_in : List Row → List Text
params_in = words_in (codes "PARAM")

-- the name of standard input
abbrev pub is_minus : Text → Bool
is_minus name = bytes_eq name (codes "-")

-- names of files are that of standard input
abbrev pub is_input : List Text → Bool
is_input (name ∷ []) = is_minus name
is_input _ = false

-- the files that are named, none for standard input
abbrev pub named_files : List Text → List Text
named_files names = if is_input names then [] else names

-- the files of a subcommand: that of `--entry`, and those of its words
abbrev pub files_in : List Row → List Text
files_in rows = words_in (codes "ENTRY") rows ++ words_in (codes "FILE") rows

-- the files that the words name
abbrev pub files_found : Option (Text × List Row) → List Text
files_found found = option_map_or (λ p. named_files (files_in p.1)) found []

abbrev pub files_of : List Text → List Text
files_of words = files_found (subcommand_of ti_app words)

-- the words have `--summary`
abbrev pub summary_found : Option (Text × List Row) → Bool
summary_found found = option_map_or (λ p. flag_in (codes "summary") p.1) found false

abbrev pub has_summary : List Text → Bool
has_summary words = summary_found (subcommand_of ti_app words)

-- ---- the subcommands

pub data Command : Type 0 where
  Cap : Command
  Trace : Command
  Show : Command
  Check : Command
  Lint : Command
  Expand : Command
  Convert : Command
  Diff : Command
  Get : Command

abbrev pub command_of : Text → Option Command
command_of name =
    if bytes_eq name (codes "cap") then Some Cap
    else (if bytes_eq name (codes "trace") then Some Trace
    else (if bytes_eq name (codes "show") then Some Show
    else (if bytes_eq name (codes "check") then Some Check
    else (if bytes_eq name (codes "lint") then Some Lint
    else (if bytes_eq name (codes "expand") then Some Expand
    else (if bytes_eq name (codes "convert") then Some Convert
    else (if bytes_eq name (codes "get") then Some Get
    else (if bytes_eq name (codes "diff") then Some Diff else None))))))))

-- the subcommand that was found, and its values
abbrev pub command_in : Option (Text × List Row) → Option (Command × List Row)
command_in found = option_and_then (λ p. option_map (λ command. (command, p.1)) (command_of p.0)) found

-- a name, and numbers within their ranges
abbrev pub HasNameAndNumbers : List Row → Type 0
HasNameAndNumbers rows =
    IsSome (first_of (codes "NAME") rows)
    × (number_in (codes "rate") 0 rows ≤ greatest_rate) × (number_in (codes "lines") 1 rows ≤ most_lines)

-- what a subcommand wants is there
abbrev pub IsComplete : Command → List Row → Type 0
IsComplete Expand rows = HasNameAndNumbers rows
IsComplete Get rows = HasNameAndNumbers rows
IsComplete _ rows = Unit {0}

-- ---- which words are a command line

-- the kinds of fault, or of help, that `clap` finds in the words: none if it reads them
abbrev pub faults : List Text → Kinds
faults words = fault_of ti_app words

-- the words, of which the first is the program's own name, are read as this subcommand with these values
abbrev pub Reads : List Text → Command → List Row → Type 0
Reads words command rows =
    (faults words ≡ []) × (command_in (subcommand_of ti_app words) ≡ Some (command, rows))

-- as one with any values
abbrev pub AreRead : List Text → Type 0
AreRead words = (command : Command) × (rows : List Row) × Reads words command rows

-- help or the version
abbrev pub is_help : ErrorKind → Bool
is_help kind.DisplayHelp = true
is_help kind.DisplayVersion = true
is_help _ = false

-- the words ask for help or for the version
abbrev pub AsksForHelp : List Text → Type 0
AsksForHelp words = list_any is_help (faults words) ≡ true

-- `clap` finds a fault in the words
abbrev pub IsRefused : List Text → Type 0
IsRefused words = list_any (λ k. not (is_help k)) (faults words) ≡ true
