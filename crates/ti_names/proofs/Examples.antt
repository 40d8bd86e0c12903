-- Worked rows of the three tables of names; the numbers are those of the header term.h.
use Rattle.std.proofs.Common.{◌≡◌, None, Some, refl}
use Rattle.std.specs.Prelude.{codes}
use Rattle.ti_words.specs.declared.Kind.TheVariants as kinds
use Rattle.ti_names.specs.declared.name_table.NameTable.TheVariants as tables
use Rattle.ti_names.specs.AllNames.{name_in, place_in}
use Rattle.ti_names.specs.NameLists.{all_flags, all_numbers, all_texts}

-- the flag `xsb` has a name in the whole table alone
rare_flag : name_in tables.All kinds.Flag 2 ≡ Some (codes "xsb")
unfolding all_flags
rare_flag = refl

no_common_flag : name_in tables.Common kinds.Flag 2 ≡ None
unfolding all_flags
no_common_flag = refl

-- the last of each kind, and one more
last_flag : name_in tables.All kinds.Flag 43 ≡ Some (codes "OTxr")
unfolding all_flags
last_flag = refl

last_number : name_in tables.All kinds.Number 38 ≡ Some (codes "OTkn")
unfolding all_numbers
last_number = refl

last_text : name_in tables.All kinds.Text 413 ≡ Some (codes "box1")
unfolding all_texts
last_text = refl

past_texts : name_in tables.All kinds.Text 414 ≡ None
unfolding all_texts
past_texts = refl

-- `acsc`, the alternate characters, stands in the whole table alone
alternate_characters : place_in tables.All (codes "acsc") ≡ Some (kinds.Text, 146)
unfolding all_flags all_numbers all_texts
alternate_characters = refl

not_common : place_in tables.Common (codes "acsc") ≡ None
unfolding all_flags all_numbers all_texts
not_common = refl

-- a name in other letters is another name
other_letters : place_in tables.All (codes "ACSC") ≡ None
unfolding all_flags all_numbers all_texts
other_letters = refl

-- the long name of `cup`, the last of each kind, and one more
cursor_address : place_in tables.Long (codes "cursor_address") ≡ Some (kinds.Text, 10)
unfolding all_flags all_numbers all_texts
cursor_address = refl

last_long_flag : name_in tables.Long kinds.Flag 43 ≡ Some (codes "return_does_clr_eol")
unfolding all_flags
last_long_flag = refl

last_long_number : name_in tables.Long kinds.Number 38 ≡ Some (codes "number_of_function_keys")
unfolding all_numbers
last_long_number = refl

last_long_text : name_in tables.Long kinds.Text 413 ≡ Some (codes "box_chars_1")
unfolding all_texts
last_long_text = refl

past_long_texts : name_in tables.Long kinds.Text 414 ≡ None
unfolding all_texts
past_long_texts = refl
