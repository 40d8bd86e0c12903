-- Receivers of a text that is not known, in a body or outside of functions, where it changes no parser.
use Rattle.std.specs.Prelude.{◌≡◌, ℕ, ◌==◌, ◌&&◌, Bool, true, false, not, List, [], ◌∷◌, nat_lt}
use Rattle.std.specs.List.{AllByRecursion}
use Rattle.ti_parser.specs.Given.{is_data}
use Rattle.ti_parser.specs.Machine.{after_text}
use Rattle.ti_parser.specs.Padding.{is_dollar}
use Rattle.ti_parser.specs.States.{is_text}
use Rattle.ti_parser.specs.declared.padding.Front.{Front}
use Rattle.ti_parser.specs.declared.padding.Front.TheVariants.{Text, Literal, Mark}
use Rattle.ti_parser.specs.declared.padding.Marks.{Marks}
use Rattle.ti_parser.specs.declared.padding.Marks.TheVariants.{Untouched, Tputs, TiPad}
use Rattle.ti_parser.specs.declared.padding.Part.{Part}
use Rattle.ti_parser.specs.declared.padding.Part.TheVariants.{Dollar, Open, Whole, Point, Decimals, Star, Slash, Flags}
use Rattle.ti_parser.specs.declared.receiver.Ahead.TheVariants.{Unknown}
use Rattle.ti_parser.specs.declared.receiver.Receiver.{Receiver}
use Rattle.ti_parser.specs.inner.Receivers.{ComesAt, CoverMore, IsAmong, Moment}

-- the parts of a mark into which text may lead
abbrev pub is_part : Marks → Part → Bool
is_part Untouched part = false
is_part Tputs (Whole count) = count == 1
is_part Tputs Point = false
is_part Tputs Star = false
is_part Tputs Slash = false
is_part Tputs part = true
is_part TiPad (Whole count) = nat_lt 0 count && nat_lt count 6
is_part TiPad part = true

-- where the next byte may stand
abbrev pub is_front : Marks → Front → Bool
is_front marks Text = true
is_front Untouched Literal = false
is_front Tputs Literal = true
is_front TiPad Literal = false
is_front marks (Mark part) = is_part marks part

abbrev pub fronts : Marks → List Front
fronts Untouched = Text ∷ []
fronts Tputs = Text ∷ Literal ∷ Mark Dollar ∷ Mark Open ∷ Mark (Whole 1) ∷ Mark Decimals ∷ Mark Flags ∷ []
fronts TiPad =
    Text ∷ Mark Dollar ∷ Mark Open ∷ Mark (Whole 1) ∷ Mark (Whole 2) ∷ Mark (Whole 3) ∷ Mark (Whole 4) ∷ Mark (Whole 5) ∷ Mark Point ∷ Mark Decimals
    ∷ Mark Star ∷ Mark Slash ∷ Mark Flags ∷ []

-- a parser outside of marks
abbrev pub based : Receiver → Receiver
based k = record k { front = Text; ahead = Unknown }

-- outside of marks, where a byte of data is text alone
pub record IsInText (known : Receiver) : Type 0 where
  pub front : known.front ≡ Text
  pub ahead : known.ahead ≡ Unknown
  pub text : is_text known.parser.state ≡ true

-- a byte of data that begins no mark
abbrev pub is_text_byte : ℕ → Bool
is_text_byte byte = is_data byte && not (is_dollar byte)

-- the parser of a receiver is among the bases, as it is and after text
pub record IsBase (marks : Marks) (bases : List Receiver) (k : Receiver) : Type 0 where
  pub text : is_text k.parser.state ≡ true
  pub front : is_front marks k.front ≡ true
  pub before : CoverMore (based k ∷ []) bases
  pub after : CoverMore (based (record k { parser = after_text k.parser }) ∷ []) bases

abbrev pub AreBases : Marks → List Receiver → List Receiver → Type 0
AreBases marks bases here = AllByRecursion (IsBase marks bases) here

-- a parser is wherever the next byte may stand
abbrev pub ArePlaced : Receiver → List Receiver → List Front → Type 0
ArePlaced base after all = AllByRecursion (λ front. CoverMore (record base { front = front; ahead = Unknown } ∷ []) after) all

abbrev pub Spread : Marks → List Receiver → List Receiver → Type 0
Spread marks bases after = (m : Moment) (front : Front) → IsAmong bases m → is_front marks front ≡ true → ComesAt m.marks front Unknown m.rest
    → IsAmong after (record m { front = front })
