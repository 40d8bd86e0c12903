-- What is added to a page leaves it a page.
use Rattle.std.proofs.Common.{◌≡◌, ◌∙◌, ◌++◌, ℕ, Bool, true, false, List, [], ◌∷◌, Ok, Err, Result, ap, cond, refl}
use Rattle.std.specs.List.{list_all}
use Rattle.std.specs.Prelude.{OnErr, OnOk, fold}
use Rattle.std.proofs.lemmas.Bool.{and_from, and_parts}
use Rattle.std.proofs.lemmas.List.Folds.{list_all-append}
use Rattle.ti_escape.proofs.PrintableLemmas.{has_no_space, label_chars_printable}
use Rattle.ti_escape.specs.Colors.{closing, opening}
use Rattle.ti_escape.specs.Laws.{is_printable}
use Rattle.ti_escape.specs.Notation.{label_notation}
use Rattle.ti_escape.specs.declared.color.Color.{Color}
use Rattle.ti_escape.specs.declared.color.Color.TheVariants.{Always, Never}
use Rattle.ti_escape.specs.declared.color.Style.{Style}
use Rattle.ti_escape.specs.declared.color.Style.TheVariants.{Bold, Faint, Green, Red}
use Rattle.ti_sink.specs.Pages.{AfterEscape, AmongDigits, Between, Nowhere, Place, StaysPage, as_page, is_between, is_page, is_plain, next_place}

between : (place : Place) → is_between place ≡ true → place ≡ Between
between Between is = refl
between AfterEscape is = absurd cc
between AmongDigits is = absurd cc
between Nowhere is = absurd cc

over : (place : Place) (a b : List ℕ) → fold next_place place (a ++ b) ≡ fold next_place (fold next_place place a) b
over place [] b = refl
over place (byte ∷ a) b = over (next_place place byte) a b

joined : (color : Color) (a b : List ℕ) → is_page color a ≡ true → is_page color b ≡ true → is_page color (a ++ b) ≡ true
joined Never a b of_a of_b = list_all-append is_plain a b ∙ and_from (list_all is_plain a) (list_all is_plain b) of_a of_b
joined Always a b of_a of_b =
    ap is_between (over Between a b) ∙ ap (λ place. is_between (fold next_place place b)) (between (fold next_place Between a) of_a) ∙ of_b

plain_page : (color : Color) (chars : List ℕ) → list_all is_plain chars ≡ true → is_page color chars ≡ true
plain_page Never chars all = all
plain_page Always [] all = refl
plain_page Always (char ∷ chars) all =
    let (first, more) = and_parts (is_plain char) (list_all is_plain chars) all in rw first (plain_page Always chars more)

-- characters that may stand in a page stand there as they are
pub plain_as_page : (chars : List ℕ) → list_all is_plain chars ≡ true → as_page chars ≡ chars
plain_as_page [] all = refl
plain_as_page (char ∷ chars) all =
    let (first, more) = and_parts (is_plain char) (list_all is_plain chars) all in rw first (ap (λ l. char ∷ l) (plain_as_page chars more))

printable_plain : (chars : List ℕ) → list_all is_printable chars ≡ true → list_all is_plain chars ≡ true
printable_plain [] all = refl
printable_plain (char ∷ chars) all =
    let (first, more) = and_parts (is_printable char) (list_all is_printable chars) all in rw first (printable_plain chars more)

pub label_page : (color : Color) (name : List ℕ) → is_page color (label_notation name) ≡ true
label_page color name = plain_page color (label_notation name) (printable_plain (label_notation name) (label_chars_printable (label_notation name) (has_no_space name)))

pub opening_page : (color : Color) (style : Style) → is_page color (opening color style) ≡ true
opening_page Never style = refl
opening_page Always Red = refl
opening_page Always Green = refl
opening_page Always Bold = refl
opening_page Always Faint = refl

pub closing_page : (color : Color) → is_page color (closing color) ≡ true
closing_page Never = refl
closing_page Always = refl

-- after a call that appends all or nothing
pub added : {V E : Type 0} (r : Result V E) (color : Color) (old new more : List ℕ) → is_page color old ≡ true → is_page color more ≡ true
    → OnOk r (new ≡ old ++ more) → OnErr r (new ≡ old) → is_page color new ≡ true
added (Ok v) color old new more of_old of_more is kept = ap (is_page color) is ∙ joined color old more of_old of_more
added (Err e) color old new more of_old of_more is kept = ap (is_page color) kept ∙ of_old

pub stays : (b : Bool) (old new more : List ℕ) → list_all is_plain more ≡ true → new ≡ cond b (old ++ more) old → StaysPage old new
stays true old new more all is color of_old = ap (is_page color) is ∙ joined color old more of_old (plain_page color more all)
stays false old new more all is color of_old = ap (is_page color) is ∙ of_old
