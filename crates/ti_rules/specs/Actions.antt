-- What programs do with an entry beside sending its texts: they run a command, send files, and keep a screen of its size.
use Rattle.std.specs.Prelude.{ℕ, ◌&&◌, ◌||◌, Bool, not, List, [], ◌++◌, codes, if◌then◌else◌, is_none, nat_eq, nat_lt, ℤ, pos, negsuc}
use Rattle.std.specs.List.{starts_with}
use Rattle.ti_control.specs.Entries.{is_vast, starts_parent, tabset}
use Rattle.ti_words.specs.Texts.{TextOf, TextValue}
use Rattle.ti_words.specs.Value.{EntryValue}
use Rattle.ti_rules.specs.Marks.{first_place}
use Rattle.ti_rules.specs.Remarks.{NoEvidence, Remark, on_values}
use Rattle.ti_rules.specs.Values.{number_named, text_named}
use Rattle.ti_rules.specs.Whole.{found_if, has}
use Rattle.ti_rules.specs.declared.finding.Finding.TheVariants as findings

-- the command of a name, which `tput init`, `tset` and `reset` run
abbrev pub on_command : List ℕ → TextValue → List Remark
on_command name (TextOf text) = on_values name text findings.Runs NoEvidence
on_command name text = []

-- a file that they send; terminfo(5) has such files below /usr/share/tabset
abbrev pub is_tabset : List ℕ → Bool
is_tabset path = starts_with nat_eq path tabset && is_none (first_place starts_parent path)

abbrev pub on_file : List ℕ → TextValue → List Remark
on_file name (TextOf path) = if is_tabset path then [] else on_values name path findings.Reads NoEvidence
on_file name path = []

-- a number below 0 is none
abbrev pub natural : ℤ → ℕ
natural (pos n) = n
natural (negsuc n) = 0

-- more characters than a program can hold
abbrev pub has_vast_screen : EntryValue → Bool
has_vast_screen v = is_vast (natural (number_named v (codes "lines"))) (natural (number_named v (codes "cols")))

-- more colors or pairs of them than a program can hold
abbrev pub most_colors : ℕ
most_colors = 16777216

abbrev pub has_many_colors : EntryValue → Bool
has_many_colors v = nat_lt most_colors (natural (number_named v (codes "colors"))) || nat_lt most_colors (natural (number_named v (codes "pairs")))

-- the cursor may move in insert mode (terminfo(5), Insert/Delete Character), and nothing inserts
abbrev pub is_mir_alone : EntryValue → Bool
is_mir_alone v = has v (codes "mir") && not (has v (codes "smir") || has v (codes "ich") || has v (codes "ich1"))

abbrev pub action_remarks : EntryValue → List Remark
action_remarks v =
    on_command (codes "iprog") (text_named v (codes "iprog"))
    ++ (on_file (codes "if") (text_named v (codes "if"))
    ++ (on_file (codes "rf") (text_named v (codes "rf"))
    ++ (found_if (has_vast_screen v) findings.Size
    ++ (found_if (has_many_colors v) findings.ManyColors ++ found_if (is_mir_alone v) findings.LoneMir))))
