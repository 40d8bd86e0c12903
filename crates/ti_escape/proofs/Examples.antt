-- Worked rows of the notation: texts of entries as `infocmp -1` writes them, and each rule of the definition.
use Rattle.std.proofs.Common.{◌≡◌, ◌++◌, [], ◌∷◌, Ok, Err, refl}
use Rattle.std.specs.Prelude.{codes}
use Rattle.hex.specs.Hex.{encode_with}
use Rattle.ti_escape.specs.declared.form.Form.TheVariants as forms
use Rattle.ti_escape.specs.Forms.{shown}
use Rattle.ti_escape.specs.Notation.{label_notation, notation}
use Rattle.ti_escape.specs.declared.reading.NotationFault.TheVariants.{BadControl, CutShort}
use Rattle.ti_escape.specs.Reading.{read_from, reading}

-- `cup`, `bel`, `kbs`, `kcbt` and `flash` of the Linux console
cursor_row : notation (codes "\u{1b}[%i%p1%d;%p2%dH") ≡ codes "\\E[%i%p1%d;%p2%dH"
cursor_row = refl

bell_row : notation (7 ∷ []) ≡ codes "^G"
bell_row = refl

backspace_row : notation (127 ∷ []) ≡ codes "^?"
backspace_row = refl

back_tab_row : notation (codes "\u{1b}\t") ≡ codes "\\E^I"
back_tab_row = refl

flash_row : notation (codes "\u{1b}[?5h$<200/>\u{1b}[?5l") ≡ codes "\\E[?5h$<200/>\\E[?5l"
flash_row = refl

-- the front of its `acsc`, whose commas would end it
line_drawing_row : notation (codes "++,,--..00``aaff") ≡ codes "++\\,\\,--..00``aaff"
line_drawing_row = refl

-- the front of `acsc` of mach-gnu
high_drawing_row : notation (codes "+>,<-^.v0" ++ 219 ∷ codes "`+a" ++ 177 ∷ codes "f" ++ 248 ∷ [])
    ≡ codes "+>\\,<-\\^.v0\\333`+a\\261f\\370"
high_drawing_row = refl

-- `sgr0` of vt100, for which `infocmp` has `\017`
padding_row : notation (codes "\u{1b}[m" ++ 15 ∷ codes "$<2>") ≡ codes "\\E[m^O$<2>"
padding_row = refl

-- what the notation itself uses
marks_row : notation (codes "\\^,") ≡ codes "\\\\\\^\\,"
marks_row = refl

-- after a `%` in octal, since `tic` reads `%^G` as three characters
percent_row : notation (codes "%%" ++ 7 ∷ []) ≡ codes "%%\\007"
percent_row = refl

first_percent_row : notation (codes "%" ++ 1 ∷ 1 ∷ []) ≡ codes "%\\001^A"
first_percent_row = refl

percent_comma_row : notation (codes "%" ++ 28 ∷ codes "%" ++ 30 ∷ codes ",") ≡ codes "%\\034%\\036\\,"
percent_comma_row = refl

percent_delete_row : notation (codes "%" ++ 127 ∷ codes "%d") ≡ codes "%\\177%d"
percent_delete_row = refl

percent_return_row : notation (codes "%p1%d%%" ++ 13 ∷ []) ≡ codes "%p1%d%%\\015"
percent_return_row = refl

-- what is no control character is written after a `%` as anywhere
percent_other_row : notation (codes "%" ++ 27 ∷ codes "%^%\\%,% ") ≡ codes "%\\E%\\^%\\\\%\\,%\\s"
percent_other_row = refl

-- a space is lost at an end alone
inner_space_row : notation (codes "a b") ≡ codes "a b"
inner_space_row = refl

outer_spaces_row : notation (codes " a ") ≡ codes "\\sa\\s"
outer_spaces_row = refl

lone_space_row : notation (codes " ") ≡ codes "\\s"
lone_space_row = refl

-- the least and the greatest bytes of each form
control_row : notation (0 ∷ 1 ∷ 31 ∷ 32 ∷ 33 ∷ []) ≡ codes "\\000^A^_ !"
control_row = refl

high_row : notation (126 ∷ 127 ∷ 128 ∷ 255 ∷ []) ≡ codes "~^?\\200\\377"
high_row = refl

-- what would look like a word of a listing, and what would not
dash_row : notation (codes "-") ≡ codes "\\055"
dash_row = refl

cancelled_row : notation (codes "cancelled") ≡ codes "\\143ancelled"
cancelled_row = refl

longer_row : notation (codes "--") ≡ codes "--"
longer_row = refl

nothing_row : notation [] ≡ []
nothing_row = refl

-- a name in a field of its own
label_row : label_notation (codes " a  b%" ++ 7 ∷ 7 ∷ []) ≡ codes "\\sa\\s\\sb%\\007^G"
label_row = refl

word_label : label_notation (codes "cancelled") ≡ codes "cancelled"
word_label = refl

nothing_label : label_notation [] ≡ []
nothing_label = refl

-- how a listing shows a text
hex_shown : shown forms.Hex (codes "\u{1b}[H") ≡ codes "1b5b48"
unfolding encode_with
hex_shown = refl

notation_shown : shown forms.Notation (codes "\u{1b}[H") ≡ codes "\\E[H"
notation_shown = refl

nothing_shown : shown forms.Notation [] ≡ codes "-"
nothing_shown = refl

-- terminfo(5) reads further letters, and a `^` before a small letter
letters_read : reading (codes "\\e\\n\\l\\r\\t\\b\\f\\s\\a") ≡ Ok (27 ∷ 10 ∷ 10 ∷ 13 ∷ 9 ∷ 8 ∷ 12 ∷ 32 ∷ 7 ∷ [])
unfolding read_from
letters_read = refl

carets_read : reading (codes "^g^G^?^[") ≡ Ok (7 ∷ 7 ∷ 127 ∷ 27 ∷ [])
unfolding read_from
carets_read = refl

octal_read : reading (codes "\\033\\0550\\377") ≡ Ok (27 ∷ 45 ∷ 48 ∷ 255 ∷ [])
unfolding read_from
octal_read = refl

themselves_read : reading (codes "\\,\\^\\\\\\:") ≡ Ok (codes ",^\\:")
unfolding read_from
themselves_read = refl

-- as `tic` does, to which a `^` after a `%` is itself, but not after `^%` and not after the octal digits of a `%`
percent_caret_read : reading (codes "%^G%%^M\\%^G") ≡ Ok (codes "%^G%%^M%^G")
unfolding read_from
percent_caret_read = refl

other_caret_read : reading (codes "^%^G\\045^G\\^^G%\\s^A") ≡ Ok (5 ∷ 7 ∷ 37 ∷ 7 ∷ 94 ∷ 7 ∷ codes "% " ++ 1 ∷ [])
unfolding read_from
other_caret_read = refl

-- an octal number ends where its digits end, after three at most, and has eight bits
short_octal_read : reading (codes "\\78\\19\\1234\\777") ≡ Ok (7 ∷ 56 ∷ 1 ∷ 57 ∷ 83 ∷ 52 ∷ 255 ∷ [])
unfolding read_from
short_octal_read = refl

cut_backslash_refused : reading (codes "ab\\") ≡ Err (record { fault = CutShort; place = 2 })
unfolding read_from
cut_backslash_refused = refl

cut_caret_refused : reading (codes "%^a^") ≡ Err (record { fault = CutShort; place = 3 })
unfolding read_from
cut_caret_refused = refl

control_refused : reading (codes "a^\u{7f}") ≡ Err (record { fault = BadControl; place = 1 })
unfolding read_from
control_refused = refl
