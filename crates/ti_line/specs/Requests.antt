-- What a line asks for, or why that can't be done, and what an answer tells of the words.
use Rattle.std.specs.Prelude.{◌≡◌, ◌<◌, ◌&&◌, ◌||◌, ◌⊎◌, ℕ, Bool, true, false, not, List, Option, Some, None, Result, Ok, Err, IsSome, MatchResult, is_some, length, map, [], ◌∷◌, codes}
use Rattle.std.specs.Borrow.{Bor}
use Rattle.clap.specs.Words.{Row, Text, first_of}
use Rattle.ti_escape.specs.declared.color.Color.{Color}
use Rattle.ti_words.specs.declared.Width.{Width}
use Rattle.ti_words.specs.declared.Width.TheVariants.{Legacy, Wide}
use Rattle.ti_pad.specs.Setting.{Setting}
use Rattle.ti_line.specs.CommandLine.{AsksForHelp, Cap, Check, Command, Convert, Diff, Expand, Get, IsRefused, Lint, Reads, Show, Trace, files_of, flag_in, has_summary, is_minus, number_in, params_in, words_in}
use Rattle.ti_line.specs.Options.{check_action, color_of, comparison_of, input_action, is_terminal, likeness_of, lint_action, lint_options, name_table_of, output_of, show_action, trace_form_of, which_verdicts}
use Rattle.ti_line.specs.Fits.{HasMisfit, IsGivenTo}
use Rattle.ti_line.specs.Params.{AreGiven, AreParams, IsGiven, IsParam, IsWordFault}
use Rattle.ti_line.specs.declared.destination.Destination.{Destination}
use Rattle.ti_line.specs.declared.params.WordFault.{WordFault}
use Rattle.ti_line.specs.declared.request.Action.TheVariants.{Entry}
use Rattle.ti_line.specs.declared.request.Action.TheVariants as asks
use Rattle.ti_line.specs.declared.request.Pair as code_of_diff
use Rattle.ti_line.specs.declared.request.Expand as code
use Rattle.ti_line.specs.declared.request.Get as code_of_get
use Rattle.ti_line.specs.declared.request.TraceOf as code_of_trace
use Rattle.ti_line.specs.declared.options.Output.{Output}
use Rattle.ti_line.specs.declared.options.TraceForm.{TraceForm}
use Rattle.ti_line.specs.declared.request.Action.{Action}
use Rattle.ti_line.specs.declared.request.CapabilityAction as code_of_cap
use Rattle.ti_line.specs.declared.request.CapabilityResult.TheVariants as of_cap
use Rattle.ti_line.specs.declared.request.EntryAction.TheVariants as of_entry
use Rattle.ti_line.specs.declared.request.Request.{Request}
use Rattle.ti_line.specs.declared.no_request.LineFault.{LineFault}
use Rattle.ti_line.specs.declared.no_request.LineFault.TheVariants as fault
use Rattle.ti_line.specs.declared.no_request.NoRequest.{NoRequest}
use Rattle.ti_line.specs.declared.no_request.NoRequest.TheVariants as no_request
use Rattle.ti_line.specs.Message.{message_text}

-- the texts that references lend
abbrev pub texts_of : List (Bor Text) → List Text
texts_of = map (λ t. t.now)

-- the padding of the options of `expand`; the pad byte is 0
abbrev pub setting_of : ℕ → ℕ → Bool → Setting
setting_of rate lines xon = record { rate = rate; lines = lines; xon = xon; pad = 0 }

-- the width that a flag of `convert` asks for; without one the entry keeps its own
abbrev pub width_of : Bool → Bool → Option Width
width_of true narrow = Some Wide
width_of false true = Some Legacy
width_of false false = None

-- the files that `diff` compares: two, or standard input, `-`, and one
abbrev pub compared : List Text → Option (Text × Text)
compared (other ∷ []) = Some (codes "-", other)
compared (file ∷ (other ∷ [])) = Some (file, other)
compared _ = None

-- they are standard input and standard input, which is read once
abbrev pub is_input_twice : List Text → Bool
is_input_twice (other ∷ []) = is_minus other
is_input_twice (file ∷ (other ∷ [])) = is_minus file && is_minus other
is_input_twice _ = false

-- the words mean no parameters, and why
abbrev pub MeanNone : {V : Type 0} → (List ℕ → V → Type 0) → (List Text → List V → Type 0) → List Text → WordFault
    → Type 0
MeanNone {V} Means Are words why = IsWordFault Means words why × ((values : List V) → ¬ Are words values)

-- ---- the options of a line, by its values

abbrev pub is_source : List Row → Bool
is_source = flag_in (codes "source")

abbrev pub is_escape : List Row → Bool
is_escape = flag_in (codes "escape")

abbrev pub is_all_names : List Row → Bool
is_all_names = flag_in (codes "all-names")

abbrev pub is_json : List Row → Bool
is_json = flag_in (codes "json")

-- findings are to be explained, which excludes JSON
abbrev pub is_explain : List Row → Bool
is_explain = flag_in (codes "explain")

abbrev pub is_json_explained : List Row → Bool
is_json_explained rows = is_json rows && is_explain rows

-- the form of an output, and the two that exclude each other
abbrev pub output_in : List Row → Output
output_in rows = output_of (flag_in (codes "hex") rows) (is_escape rows)

abbrev pub has_both_forms : List Row → Bool
has_both_forms rows = flag_in (codes "hex") rows && is_escape rows

-- JSON, and names or texts in a form, which it excludes
abbrev pub has_json_form : List Row → Bool
has_json_form rows = is_json rows && (is_escape rows || is_all_names rows)

-- the widths of `convert`
abbrev pub has_both_widths : List Row → Bool
has_both_widths rows = flag_in (codes "wide") rows && flag_in (codes "narrow") rows

-- an entry would go to a terminal, and is not forced
abbrev pub is_kept_back : Destination → List Row → Bool
is_kept_back to rows = is_terminal to && not (flag_in (codes "force") rows)

-- the padding
abbrev pub setting_in : List Row → Setting
setting_in rows =
    setting_of (number_in (codes "rate") 0 rows) (number_in (codes "lines") 1 rows) (flag_in (codes "xon") rows)

-- whether lines are colored, if the word of `--color` asks for something
abbrev pub color_in : Destination → List Row → Option Color
color_in to rows = color_of to (first_of (codes "color") rows)

-- an entry is given
abbrev pub has_entry : List Row → Bool
has_entry rows = is_some (first_of (codes "ENTRY") rows)

-- the files to compare
abbrev pub pair_in : List Row → List Text
pair_in = words_in (codes "FILE")

-- ---- what a line asks for

-- how a trace is written: not as JSON and in a form, and a word of `--color` asks for something
abbrev pub IsTraceForm : Destination → List Row → TraceForm → Type 0
IsTraceForm to rows form =
    (is_json rows && is_escape rows ≡ false)
    × ((c : Color) × (color_in to rows ≡ Some c) × (form ≡ trace_form_of (is_json rows) (is_escape rows) (is_terminal to) c))

abbrev pub IsNoTraceForm : Destination → List Row → LineFault → Type 0
IsNoTraceForm to rows fault.JsonForm = is_json rows && is_escape rows ≡ true
IsNoTraceForm to rows fault.ColorWord = (is_json rows && is_escape rows ≡ false) × (color_in to rows ≡ None)
IsNoTraceForm to rows why = ⊥

abbrev pub HasTraceForm : Destination → List Row → Type 0
HasTraceForm to rows = (form : TraceForm) × IsTraceForm to rows form

-- what `trace` asks for: with a name an entry's text, and else what is read
abbrev pub AsksToTrace : Destination → List Row → Option Text → Action → Type 0
AsksToTrace to rows None action =
    (has_entry rows ≡ false)
    × ((c : code_of_cap.CapabilityAction) × (action ≡ input_action (is_source rows) c)
    × AreParams (params_in rows) c.parameters.values
    × ((form : TraceForm) × IsTraceForm to rows form × (c.result ≡ of_cap.Trace form)))
AsksToTrace to rows (Some name) action =
    (is_source rows ≡ false)
    × ((t : code_of_trace.TraceOf) × (action ≡ Entry (of_entry.Trace t)) × (t.name.now ≡ name)
    × IsGivenTo name (params_in rows) t.given × IsTraceForm to rows t.form)

-- what a subcommand and its values ask for, by where results go; of two flags that exclude each other at most one is given,
-- a word of `--color` asks for something, a notation is to be traced only without a name, an entry to be traced in only with
-- one, the words of the parameters stand for them, and an entry goes to a terminal only by force
abbrev pub Asks : Destination → Command → List Row → Action → Type 0
Asks to Cap rows action =
    (has_both_forms rows ≡ false)
    × ((c : code_of_cap.CapabilityAction) × (action ≡ input_action (is_source rows) c)
    × AreParams (params_in rows) c.parameters.values × (c.result ≡ of_cap.Cap (output_in rows)))
Asks to Trace rows action = AsksToTrace to rows (first_of (codes "NAME") rows) action
Asks to Show rows action =
    (has_json_form rows ≡ false)
    × (action ≡ Entry (show_action (is_json rows) (is_all_names rows) (is_escape rows) (is_terminal to)))
Asks to Check rows action =
    let which = which_verdicts (flag_in (codes "faults") rows) in
    (has_json_form rows ≡ false)
    × (action ≡ Entry (check_action which (is_json rows) (is_all_names rows) (is_escape rows) (is_terminal to)))
Asks to Lint rows action =
    let options = lint_options (flag_in (codes "all") rows) (flag_in (codes "untrusted") rows) in
    (is_json_explained rows ≡ false)
    × ((c : Color) × (color_in to rows ≡ Some c) × (action ≡ Entry (lint_action (is_json rows) options c)))
Asks to Expand rows action =
    (has_both_forms rows ≡ false)
    × ((e : code.Expand) × (action ≡ Entry (of_entry.Expand e)) × AreParams (params_in rows) e.parameters.values
    × (first_of (codes "NAME") rows ≡ Some e.name.name.now) × (e.name.names ≡ name_table_of (is_all_names rows))
    × (e.padding ≡ setting_in rows) × (e.output ≡ output_in rows))
Asks to Convert rows action =
    (has_both_widths rows ≡ false) × (is_kept_back to rows ≡ false)
    × (action ≡ Entry (of_entry.Convert (width_of (flag_in (codes "wide") rows) (flag_in (codes "narrow") rows))))
Asks to Get rows action =
    (has_both_forms rows ≡ false)
    × ((g : code_of_get.Get) × (action ≡ Entry (of_entry.Get g)) × (first_of (codes "NAME") rows ≡ Some g.name.now)
    × IsGivenTo g.name.now (params_in rows) g.given × (g.padding ≡ setting_in rows) × (g.output ≡ output_in rows))
Asks to Diff rows action =
    (is_input_twice (pair_in rows) ≡ false)
    × ((d : code_of_diff.Pair) × (action ≡ asks.Difference d)
    × (compared (pair_in rows) ≡ Some (d.file.now, d.other.now))
    × (d.likeness ≡ likeness_of (flag_in (codes "expand") rows))
    × ((c : Color) × (color_in to rows ≡ Some c) × (d.form ≡ comparison_of (is_json rows) (is_terminal to) c)))

-- a request is what a line without `--explain` asks for, of the files that the words name, with a summary if they have `--summary`
abbrev pub IsRequest : Destination → List Text → Command → List Row → Request → Type 0
IsRequest to words command rows request =
    Asks to command rows request.action × (texts_of request.files.items ≡ files_of words)
    × (request.has_summary ≡ has_summary words) × (is_explain rows ≡ false)

-- what a line with `--explain` asks for: to explain the findings with its words
abbrev pub AsksToExplain : Destination → Command → List Row → List Text → Type 0
AsksToExplain to command rows words =
    (is_explain rows ≡ true) × ((action : Action) × Asks to command rows action) × (words ≡ words_in (codes "FILE") rows)

-- why words give the capability with a name no parameters: they stand for none, or for some that do not fit it
abbrev pub HasNoParameters : List ℕ → List Text → LineFault → Type 0
HasNoParameters name words why =
    ((word : WordFault) × (why ≡ fault.Words word) × MeanNone IsGiven AreGiven words word) ⊎ HasMisfit name words why

-- why `trace` can't be done
abbrev pub HasTraceFault : Destination → List Row → Option Text → LineFault → Type 0
HasTraceFault to rows None fault.EntryWithoutName = has_entry rows ≡ true
HasTraceFault to rows None (fault.Words why) =
    (has_entry rows ≡ false) × HasTraceForm to rows × MeanNone IsParam AreParams (params_in rows) why
HasTraceFault to rows None why = (has_entry rows ≡ false) × IsNoTraceForm to rows why
HasTraceFault to rows (Some name) why =
    ((is_source rows ≡ true) × (why ≡ fault.BothInputs))
    ⊎ ((is_source rows ≡ false)
    × (IsNoTraceForm to rows why ⊎ (HasTraceForm to rows × HasNoParameters name (params_in rows) why)))

-- why what a line asks for can't be done: both of two such flags are given, or a notation is to be read and a name is given,
-- or an entry and no name of a capability in it, or the word of `--color` asks for nothing, or else the words stand for no
-- parameters, or an entry would go to a terminal, or the files to compare are not one or two, or both are standard input
abbrev pub HasFault : Destination → Command → List Row → LineFault → Type 0
HasFault to Cap rows fault.BothForms = has_both_forms rows ≡ true
HasFault to Cap rows (fault.Words why) =
    (has_both_forms rows ≡ false) × MeanNone IsParam AreParams (params_in rows) why
HasFault to Trace rows why = HasTraceFault to rows (first_of (codes "NAME") rows) why
HasFault to Show rows fault.JsonForm = has_json_form rows ≡ true
HasFault to Check rows fault.JsonForm = has_json_form rows ≡ true
HasFault to Lint rows fault.JsonExplained = is_json_explained rows ≡ true
HasFault to Lint rows fault.ColorWord = (is_json_explained rows ≡ false) × (color_in to rows ≡ None)
HasFault to Expand rows fault.BothForms = has_both_forms rows ≡ true
HasFault to Expand rows (fault.Words why) =
    (has_both_forms rows ≡ false) × MeanNone IsParam AreParams (params_in rows) why
HasFault to Convert rows fault.BothWidths = has_both_widths rows ≡ true
HasFault to Convert rows fault.ToTerminal = (has_both_widths rows ≡ false) × (is_kept_back to rows ≡ true)
HasFault to Get rows why =
    ((has_both_forms rows ≡ true) × (why ≡ fault.BothForms))
    ⊎ ((has_both_forms rows ≡ false)
    × ((name : Text) × (first_of (codes "NAME") rows ≡ Some name) × HasNoParameters name (params_in rows) why))
HasFault to Diff rows fault.ColorWord = color_in to rows ≡ None
HasFault to Diff rows fault.FileCount = IsSome (color_in to rows) × (compared (pair_in rows) ≡ None)
HasFault to Diff rows fault.InputTwice = IsSome (color_in to rows) × (is_input_twice (pair_in rows) ≡ true)
HasFault _ _ _ _ = ⊥

-- a line is answered with what it asks for, or with its fault
abbrev pub IsAnswered : Destination → Command → List Row → Result Action LineFault → Type 0
IsAnswered to command rows answer = MatchResult answer (Asks to command rows) (HasFault to command rows)

-- and words that are read as it the same way, with the files that they name, or with words to explain, or with out of memory
abbrev pub IsReadAs : Destination → List Text → Command → List Row → Result Request NoRequest → Type 0
IsReadAs to words command rows (Ok request) = IsRequest to words command rows request
IsReadAs to words command rows (Err (no_request.Fault why)) = HasFault to command rows why
IsReadAs to words command rows (Err (no_request.Explanation named)) = AsksToExplain to command rows (texts_of named.items)
IsReadAs to words command rows (Err why) = why ≡ no_request.Memory

-- why the words give no request; out of memory says nothing of them
abbrev pub Explains : Destination → List Text → NoRequest → Type 0
Explains to words (no_request.Help message) = AsksForHelp words
Explains to words (no_request.Refused message) = IsRefused words
Explains to words (no_request.Fault why) =
    (command : Command) × (rows : List Row) × Reads words command rows × HasFault to command rows why
Explains to words (no_request.Explanation named) =
    (command : Command) × (rows : List Row) × Reads words command rows
    × AsksToExplain to command rows (texts_of named.items)
Explains to words no_request.Memory = Unit {0}

-- what is said of the words is not empty
abbrev pub HasText : NoRequest → Type 0
HasText (no_request.Help message) = 0 < length (message_text message)
HasText (no_request.Refused message) = 0 < length (message_text message)
HasText _ = Unit {0}
