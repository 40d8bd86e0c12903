-- Strings of a stranger's entry that have a rule of their own: bytes that a program prints by themselves, and data that a terminal keeps.
use Rattle.std.specs.Prelude.{◌-◌, ◌==◌, ◌&&◌, ◌||◌, ℕ, Bool, true, false, not, List, [], ◌∷◌, ◌++◌, codes, drop, if◌then◌else◌, length, nat_eq}
use Rattle.std.specs.List.{starts_with}
use Rattle.std.specs.Str.{bytes_eq}
use Rattle.ti_allow.specs.declared.effect.Effect.TheVariants.{Answer}
use Rattle.ti_base.specs.Letters.{letter}
use Rattle.ti_control.specs.Entries.{is_between}
use Rattle.ti_rules.specs.declared.finding.Finding.{Finding}
use Rattle.ti_rules.specs.declared.finding.Finding.TheVariants.{Control, UnknownFunction}
use Rattle.ti_rules.specs.Remarks.{Function, OfText, Remark}

-- ---- bytes that act on some terminal where a program prints them

-- ENQ, a shift, an escape, or a control of C1 but ST, which does nothing by itself
abbrev pub is_acting : ℕ → Bool
is_acting byte = byte == 0x05 || (byte == 0x0e || (byte == 0x0f || (byte == 0x1b || (is_between 0x80 0x9b byte || is_between 0x9d 0x9f byte))))

-- what is left from the first such byte on: of the second ones of pairs, or of the first byte alone
abbrev pub acting_in_pairs : List ℕ → List ℕ
acting_in_pairs (first ∷ second ∷ rest) = if is_acting second then second ∷ rest else acting_in_pairs rest
acting_in_pairs text = []

abbrev pub acting_first : List ℕ → List ℕ
acting_first [] = []
acting_first (byte ∷ rest) = if is_acting byte then byte ∷ rest else []

-- a program prints the second bytes of `acsc`, and the first of `pad`
abbrev pub acting_of : List ℕ → List ℕ → List ℕ
acting_of name text =
    if bytes_eq (codes "acsc") name then acting_in_pairs text else if bytes_eq (codes "pad") name then acting_first text else []

abbrev pub acting_finding : ℕ → Finding
acting_finding byte = if byte == 0x05 then Control Answer else UnknownFunction

abbrev pub on_acting : List ℕ → List ℕ → List ℕ → List Remark
on_acting name text [] = []
on_acting name text (byte ∷ rest) = record {
  about = OfText name text;
  places = (length text - length (byte ∷ rest)) ∷ [];
  finding = acting_finding byte;
  evidence = Function (byte ∷ []);
} ∷ []

abbrev pub own_remarks : Bool → List ℕ → List ℕ → List Remark
own_remarks true name text = on_acting name text (acting_of name text)
own_remarks false name text = []

-- ---- data that a terminal keeps: they must be the second parameter, alone

-- what stands after the first such byte
abbrev pub rest_after : ℕ → List ℕ → List ℕ
rest_after byte [] = []
rest_after byte (one ∷ rest) = if one == byte then rest else rest_after byte rest

-- the parameter as a string, and then what ends a control string: BEL, ESC \ or ST
abbrev pub is_given : List ℕ → Bool
is_given rest =
    bytes_eq (codes "%p2%s" ++ 0x07 ∷ []) rest
    || (bytes_eq (codes "%p2%s" ++ 0x1b ∷ codes "\\") rest || bytes_eq (codes "%p2%s" ++ 0x9c ∷ []) rest)

-- what stands after the letters that select a clipboard, or after the first parameter in their place
abbrev pub after_selection : List ℕ → List ℕ
after_selection [] = []
after_selection (byte ∷ rest) = if is_between (letter (codes "a")) (letter (codes "z")) byte then after_selection rest else byte ∷ rest

abbrev pub after_first : List ℕ → List ℕ
after_first text = if starts_with nat_eq text (codes "%p1%s") then drop 5 text else after_selection text

-- OSC 52, a clipboard, a semicolon and the data (ctlseqs, xterm)
abbrev pub is_given_after : List ℕ → Bool
is_given_after [] = false
is_given_after (byte ∷ rest) = byte == letter (codes ";") && is_given rest

abbrev pub is_clipboard_given : List ℕ → Bool
is_clipboard_given text = starts_with nat_eq text (0x1b ∷ codes "]52;") && is_given_after (after_first (drop 5 text))

-- a character that is computed
abbrev pub has_character : List ℕ → Bool
has_character [] = false
has_character (byte ∷ rest) = starts_with nat_eq (byte ∷ rest) (codes "%c") || has_character rest

-- DECUDK has one key, and its text after the only slash (VT510)
abbrev pub is_key_given : List ℕ → Bool
is_key_given text = not (has_character text) && is_given (rest_after (letter (codes "/")) text)

-- the strings that program keys
abbrev pub programs_keys : List ℕ → Bool
programs_keys name =
    bytes_eq (codes "pfkey") name || (bytes_eq (codes "pfloc") name || (bytes_eq (codes "pfx") name
    || (bytes_eq (codes "pfxl") name || bytes_eq (codes "pln") name)))

-- a string with other data may send what nobody's may
abbrev pub has_own_data : List ℕ → List ℕ → Bool
has_own_data name text =
    (bytes_eq (codes "Ms") name && not (is_clipboard_given text)) || (programs_keys name && not (is_key_given text))

abbrev pub judged_name : List ℕ → List ℕ → List ℕ
judged_name name text = if has_own_data name text then [] else name

-- of a stranger's entry alone
abbrev pub asked_name : Bool → List ℕ → List ℕ → List ℕ
asked_name true name text = judged_name name text
asked_name false name text = name
