-- The forms in which the bytes of a text are shown.
use Rattle.std.specs.Prelude.{ℕ, List, [], ◌∷◌, codes}
use Rattle.hex.specs.Hex.{encode_lower}
use Rattle.ti_escape.specs.declared.form.Form.{Form}
use Rattle.ti_escape.specs.declared.form.Form.TheVariants as forms
use Rattle.ti_escape.specs.Notation.{notation}

-- a text in lower-case hex, or in the notation of terminfo(5)
abbrev pub formed : Form → List ℕ → List ℕ
formed forms.Hex text = encode_lower text
formed forms.Notation text = notation text

-- as a listing shows it: `-` is in place of no bytes
abbrev pub shown : Form → List ℕ → List ℕ
shown form [] = codes "-"
shown form (byte ∷ bytes) = formed form (byte ∷ bytes)
