-- Which strings of an entry are looked at as they are sent: by terminfo(5), user_caps(5), and the comments of ncurses on the names that
-- tmux(1), screen(1) and other programs use.
use Rattle.std.specs.Prelude.{ℕ, ◌==◌, ◌||◌, not, Bool, false, List, [], ◌∷◌, codes}
use Rattle.std.specs.List.{list_any}
use Rattle.std.specs.Str.{bytes_eq}
use Rattle.ti_base.specs.Letters.{letter}

-- a name is in a list
abbrev pub is_one_of : List (List ℕ) → List ℕ → Bool
is_one_of names name = list_any (λ known. bytes_eq known name) names

-- ---- which texts are not looked at

-- patterns of what the terminal sends, and the text of a paste's ends; lists; labels; names of files, and a program; `dispc`, which
-- displays each character of a PC, whatever it is, and `pad`, of which the byte alone is sent
unfoldable pub unsent_names : List (List ℕ)
unsent_names =
    codes "u6" ∷ codes "u8" ∷ codes "xm" ∷ codes "PS" ∷ codes "PE" ∷ codes "acsc" ∷ codes "box1" ∷ codes "XC" ∷ codes "C0" ∷
    codes "RGB" ∷ codes "fln" ∷ codes "porder" ∷ codes "subcs" ∷ codes "supcs" ∷ codes "docr" ∷ codes "pctrm" ∷ codes "lf0" ∷
    codes "lf1" ∷ codes "lf2" ∷ codes "lf3" ∷ codes "lf4" ∷ codes "lf5" ∷ codes "lf6" ∷ codes "lf7" ∷ codes "lf8" ∷ codes "lf9" ∷
    codes "lf10" ∷ codes "if" ∷ codes "rf" ∷ codes "iprog" ∷ codes "dispc" ∷ codes "pad" ∷ []

-- the name of what a key sends starts with `k`
abbrev pub is_key : List ℕ → Bool
is_key [] = false
is_key (first ∷ rest) = first == letter (codes "k")

abbrev pub is_sent : List ℕ → Bool
is_sent name = not (is_key name || is_one_of unsent_names name)
