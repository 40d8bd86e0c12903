-- Where a text of data leads, within a body and outside of functions.
use Rattle.std.proofs.Common.{◌≡◌, ℕ, zero, suc, ◌+◌, ◌<◌, ◌≤◌, List, [], ◌∷◌, ◌++◌, Bool, true, false, not, ◌||◌, ◌&&◌, ◌⊎◌, inl, inr, length, take, get_or, nat_lt, refl, sym, ◌∙◌, ap, subst, arith}
use Rattle.std.proofs.lemmas.Bool.Decides.{nat_tests}
use Rattle.std.proofs.lemmas.List.{take_more}
use Rattle.std.specs.List.{AllByRecursion}
use Rattle.std.specs.Prelude.{if◌then◌else◌, ◌==◌, codes}
use Rattle.ti_base.specs.Letters.{letter}
use Rattle.ti_parser.specs.Characters.{decoded}
use Rattle.ti_parser.specs.Classes.{class_of}
use Rattle.ti_parser.specs.Covers.{AreSent, CoversConfiguration, IsOf}
use Rattle.ti_parser.specs.Functions.{control, functions_of}
use Rattle.ti_parser.specs.Given.{is_data}
use Rattle.ti_parser.specs.Laws.{is_digit, is_printable}
use Rattle.ti_parser.specs.Machine.{Step, act, after_text, entered, gives, is_ignored, is_query, is_swallowed, moved, plain, put, quiet, run, step, taken}
use Rattle.ti_parser.specs.Padding.{Left, after_number, completed, completes, dropped, has_close, is_dollar, kept, left_in_mark, left_of, tputs_after, turn_of}
use Rattle.ti_parser.specs.States.{is_header, is_string, is_text}
use Rattle.ti_parser.specs.Transitions.{transition_of}
use Rattle.ti_parser.specs.declared.character.Begun.TheVariants.{Nothing}
use Rattle.ti_parser.specs.declared.character.Decoded.{Decoded}
use Rattle.ti_parser.specs.declared.class.ByteClass.{ByteClass}
use Rattle.ti_parser.specs.declared.class.ByteClass.TheVariants.{Intermediate, Digit, Separator, Marker, Final}
use Rattle.ti_parser.specs.declared.configuration.Configuration.{Configuration}
use Rattle.ti_parser.specs.declared.function.Function.{Function}
use Rattle.ti_parser.specs.declared.padding.Front.{Front}
use Rattle.ti_parser.specs.declared.padding.Front.TheVariants.{Text, Literal, Mark}
use Rattle.ti_parser.specs.declared.padding.Marks.{Marks}
use Rattle.ti_parser.specs.declared.padding.Marks.TheVariants.{Untouched, Tputs, TiPad}
use Rattle.ti_parser.specs.declared.padding.Part.{Part}
use Rattle.ti_parser.specs.declared.padding.Part.TheVariants.{Dollar, Open, Whole, Point, Decimals, Star, Slash, Flags}
use Rattle.ti_parser.specs.declared.padding.Turn.{Turn}
use Rattle.ti_parser.specs.declared.padding.Turn.TheVariants.{Holds, Ends, Breaks}
use Rattle.ti_parser.specs.declared.reading.Coding.TheVariants.{Utf8}
use Rattle.ti_parser.specs.declared.reading.Reading.{Reading}
use Rattle.ti_parser.specs.declared.reading.Reception.{Reception}
use Rattle.ti_parser.specs.declared.reading.Within.{Within}
use Rattle.ti_parser.specs.declared.reading.Within.TheVariants.{StartsAnew, GoesOn}
use Rattle.ti_parser.specs.declared.receiver.Ahead.{Ahead}
use Rattle.ti_parser.specs.declared.receiver.Ahead.TheVariants.{Unknown}
use Rattle.ti_parser.specs.declared.receiver.Receiver.{Receiver}
use Rattle.ti_parser.specs.declared.state.State.{State}
use Rattle.ti_parser.specs.declared.state.State.TheVariants.{Ground, AfterEscape, AfterCut, DeviceIgnore, SequenceIgnore, SystemBody, StringBody}
use Rattle.ti_parser.specs.inner.Forms.{data_bytes}
use Rattle.ti_parser.specs.inner.Receivers.{ComesAt, CoverMore, CoversMoment, Heard, Hearing, IsAmong, IsHeard, Lead, Moment, at, hear}
use Rattle.ti_parser.specs.inner.Texts.{AreBases, ArePlaced, IsBase, Spread, based, fronts, is_front, is_part}
use Rattle.ti_parser.proofs.CoversLemmas.{CoversStep, covers_step}
use Rattle.ti_parser.proofs.DataLemmas.{all_data}
use Rattle.ti_parser.proofs.DigitLemmas.{front_holds, none_of, rest_holds}
use Rattle.ti_parser.proofs.HearLemmas.{heard_on, untouched-completes}
use Rattle.ti_parser.proofs.SetLemmas.{split_last}
use Rattle.ti_parser.proofs.TextLemmas.{class-printable, decoded-printable, is_graphic}

-- ---- a byte of text

or_none : (a b : Bool) → b ≡ false → (a || b) ≡ a
or_none true b e = refl
or_none false b e = e

not_true : (a : Bool) → not a ≡ true → a ≡ false
not_true true e = absurd (cc)
not_true false e = refl

asks_same : (next : State) (d : Configuration) (byte : ℕ) → is_query byte ≡ false → quiet (entered next (put byte d)) ≡ quiet (entered next d)
asks_same next d byte e =
    let of : Bool → Step = λ a. quiet (entered next (record d { underway = record d.underway { asks = a } })) in
    ap of (or_none d.underway.asks (is_query byte) e)

text_moved : (state : State) (class : ByteClass) (byte : ℕ) (d : Configuration) → is_text state ≡ true → is_graphic class ≡ true → is_query byte ≡ false
    → moved (transition_of state class) byte d ≡ quiet (entered state d)
unfolding transition_of act is_graphic
text_moved Ground Intermediate byte d t g q = refl
text_moved Ground Digit byte d t g q = refl
text_moved Ground Separator byte d t g q = refl
text_moved Ground Marker byte d t g q = refl
text_moved Ground Final byte d t g q = refl
text_moved DeviceIgnore Intermediate byte d t g q = refl
text_moved DeviceIgnore Digit byte d t g q = refl
text_moved DeviceIgnore Separator byte d t g q = refl
text_moved DeviceIgnore Marker byte d t g q = refl
text_moved DeviceIgnore Final byte d t g q = refl
text_moved SystemBody Intermediate byte d t g q = refl
text_moved SystemBody Digit byte d t g q = refl
text_moved SystemBody Separator byte d t g q = refl
text_moved SystemBody Marker byte d t g q = asks_same SystemBody d byte q
text_moved SystemBody Final byte d t g q = refl
text_moved StringBody Intermediate byte d t g q = refl
text_moved StringBody Digit byte d t g q = refl
text_moved StringBody Separator byte d t g q = refl
text_moved StringBody Marker byte d t g q = asks_same StringBody d byte q
text_moved StringBody Final byte d t g q = refl
text_moved state class byte d t g q = absurd (cc)

high-printable : (byte : ℕ) → is_printable byte ≡ true → nat_lt byte 0x20 ≡ false
high-printable byte h = grind (arith, nat_tests)

printable-swallowed : (within : Within) (byte : ℕ) (state : State) → is_printable byte ≡ true → is_swallowed within byte state ≡ false
printable-swallowed StartsAnew byte state h = refl
printable-swallowed GoesOn byte state h =
    let ignored : Bool = is_ignored (transition_of state (class_of byte)).action in
    let by_test : Bool → Bool = λ b. is_string state && (b && ignored) in
    ap by_test (high-printable byte h) ∙ none_of (is_string state) ignored

pub text_step : (reading : Reading) (c : Configuration) (byte : ℕ) → is_text c.state ≡ true → is_data byte ≡ true → step reading c byte ≡ quiet (after_text c)
unfolding step taken plain
text_step reading c byte t d =
    let clean : Configuration = record c { begun = Nothing } in
    let printable : is_printable byte ≡ true = front_holds (is_printable byte) (not (is_query byte)) d in
    let by_symbol : Decoded → Step = λ x. taken reading.within x.symbol (record c { begun = x.begun }) in
    let by_test : Bool → Step = λ b. if b then gives clean (control byte) else plain byte clean in
    ap by_symbol (decoded-printable reading.coding c.begun (is_header c.state) byte printable) ∙ ap by_test (printable-swallowed reading.within byte c.state printable)
    ∙ text_moved c.state (class_of byte) byte clean t (class-printable byte printable) (not_true (is_query byte) (rest_holds (is_printable byte) (not (is_query byte)) d))

entered_state : (next : State) (d : Configuration) → (entered next d).state ≡ next
entered_state Ground d = refl
entered_state AfterEscape d = refl
entered_state AfterCut d = refl
entered_state SequenceIgnore d = refl
entered_state next d = refl

entered_again : (next : State) (c : Configuration)
    → entered (entered next (record c { begun = Nothing })).state (record (entered next (record c { begun = Nothing })) { begun = Nothing }) ≡ entered next (record c { begun = Nothing })
entered_again Ground c = refl
entered_again AfterEscape c = refl
entered_again AfterCut c = refl
entered_again SequenceIgnore c = refl
entered_again next c = refl

text_after : (c : Configuration) → is_text c.state ≡ true → is_text (after_text c).state ≡ true
text_after c t = ap is_text (entered_state c.state (record c { begun = Nothing })) ∙ t

-- a parser as it was, or after text
abbrev IsEither : Configuration → Configuration → Type 0
IsEither c d = (d ≡ c) ⊎ (d ≡ after_text c)

text_next : (reading : Reading) (c d : Configuration) (byte : ℕ) → is_text c.state ≡ true → IsEither c d → is_data byte ≡ true → step reading d byte ≡ quiet (after_text c)
text_next reading c d byte t (inl e) h = ap (λ x. step reading x byte) e ∙ text_step reading c byte t h
text_next reading c d byte t (inr e) h =
    ap (λ x. step reading x byte) e ∙ text_step reading (after_text c) byte (text_after c t) h ∙ ap quiet (entered_again c.state c)

covers_after : (k c : Configuration) → CoversConfiguration k c → is_text k.state ≡ true → is_text c.state ≡ true → CoversConfiguration (after_text k) (after_text c)
covers_after k c h t u =
    let reading : Reading = record { coding = Utf8; within = StartsAnew } in
    let P : Step → Type 0 = λ x. CoversConfiguration x.configuration (after_text c) in
    let Q : Step → Type 0 = λ x. CoversConfiguration (step reading k 0x20).configuration x.configuration in
    subst P (text_step reading k 0x20 t refl) (subst Q (text_step reading c 0x20 u refl) (covers_step reading 0x20 k c h).configuration)

-- ---- marks

-- a part that text leads to is one of those that are kept
abbrev Stays : Marks → Turn → Type 0
Stays marks (Holds part) = is_part marks part ≡ true
Stays marks turn = Unit {0}

stays_if : (marks : Marks) (b : Bool) (t u : Turn) → Stays marks t → Stays marks u → Stays marks (if b then t else u)
stays_if marks true t u h g = h
stays_if marks false t u h g = g

after_stays : (byte : ℕ) → Stays Tputs (tputs_after byte)
after_stays byte = stays_if Tputs (byte == letter (codes "*")) (Holds Flags) _ refl (stays_if Tputs (byte == letter (codes "/")) (Holds Flags) Ends refl tt)

tputs_stays : (part : Part) (byte : ℕ) → is_part Tputs part ≡ true → Stays Tputs (turn_of Tputs part byte)
unfolding turn_of
tputs_stays Dollar byte e = stays_if Tputs (byte == letter (codes "<")) (Holds Open) Breaks refl tt
tputs_stays Open byte e =
    let point = byte == letter (codes ".") in
    stays_if Tputs (is_digit byte) (Holds (Whole 1)) (if point then Holds Decimals else Breaks) refl (stays_if Tputs point (Holds Decimals) Breaks refl tt)
tputs_stays (Whole count) byte e =
    let point = byte == letter (codes ".") in
    stays_if Tputs (is_digit byte) (Holds (Whole count)) (if point then Holds Decimals else tputs_after byte) e
    (stays_if Tputs point (Holds Decimals) (tputs_after byte) refl (after_stays byte))
tputs_stays Decimals byte e = stays_if Tputs (is_digit byte) (Holds Decimals) (tputs_after byte) refl (after_stays byte)
tputs_stays Flags byte e = after_stays byte
tputs_stays Point byte e = absurd (cc)
tputs_stays Star byte e = absurd (cc)
tputs_stays Slash byte e = absurd (cc)

whole_stays : (count : ℕ) (t : Bool) → nat_lt count 5 ≡ t → Stays TiPad (if t then Holds (Whole (count + 1)) else Breaks)
whole_stays count true e = grind (arith, nat_tests, e)
whole_stays count false e = tt

number_stays : (byte : ℕ) → Stays TiPad (if byte == letter (codes "*") then Holds Star else if byte == letter (codes "/") then Holds Slash else if byte == letter (codes ">") then Ends else Breaks)
number_stays byte =
    let star = byte == letter (codes "*") in
    let slash = byte == letter (codes "/") in
    let close = byte == letter (codes ">") in
    stays_if TiPad star (Holds Star) (if slash then Holds Slash else if close then Ends else Breaks) refl
    (stays_if TiPad slash (Holds Slash) (if close then Ends else Breaks) refl (stays_if TiPad close Ends Breaks tt tt))

pad_stays : (part : Part) (byte : ℕ) → is_part TiPad part ≡ true → Stays TiPad (turn_of TiPad part byte)
unfolding turn_of
pad_stays Dollar byte e = stays_if TiPad (byte == letter (codes "<")) (Holds Open) Breaks refl tt
pad_stays Open byte e =
    let point = byte == letter (codes ".") in
    stays_if TiPad (is_digit byte) (Holds (Whole 1)) (if point then Holds Point else Breaks) refl (stays_if TiPad point (Holds Point) Breaks refl tt)
pad_stays (Whole count) byte e =
    let point = byte == letter (codes ".") in
    stays_if TiPad (is_digit byte) (if nat_lt count 5 then Holds (Whole (count + 1)) else Breaks) (if point then Holds Decimals else after_number byte)
    (whole_stays count (nat_lt count 5) refl) (stays_if TiPad point (Holds Decimals) (after_number byte) refl (number_stays byte))
pad_stays Point byte e = stays_if TiPad (is_digit byte) (Holds Decimals) Breaks refl tt
pad_stays Decimals byte e = stays_if TiPad (is_digit byte) (Holds Decimals) (after_number byte) refl (number_stays byte)
pad_stays Star byte e =
    let slash = byte == letter (codes "/") in
    let close = byte == letter (codes ">") in
    stays_if TiPad slash (Holds Flags) (if close then Ends else Breaks) refl (stays_if TiPad close Ends Breaks tt tt)
pad_stays Slash byte e =
    let star = byte == letter (codes "*") in
    let close = byte == letter (codes ">") in
    stays_if TiPad star (Holds Flags) (if close then Ends else Breaks) refl (stays_if TiPad close Ends Breaks tt tt)
pad_stays Flags byte e = stays_if TiPad (byte == letter (codes ">")) Ends Breaks tt tt

part_stays : (marks : Marks) (part : Part) (byte : ℕ) → is_part marks part ≡ true → Stays marks (turn_of marks part byte)
part_stays Untouched part byte e = absurd (cc)
part_stays Tputs part byte e = tputs_stays part byte e
part_stays TiPad part byte e = pad_stays part byte e

-- what is left of a byte of text
module _ (marks : Marks) (byte : ℕ) (more : List ℕ) (P : Left → Type 0)
    (drops : (f : Front) → is_front marks f ≡ true → ComesAt marks f Unknown more → P (dropped f)) (keeps : (f : Front) → is_front marks f ≡ true → ComesAt marks f Unknown more → P (kept byte f)) where
  left_after : (t : Turn) → Stays marks t → completed t (λ next. completes marks next more) (has_close (byte ∷ more)) ≡ true → P (left_in_mark t byte)
  left_after (Holds part) s h = drops (Mark part) s h
  left_after Ends s h = drops Text refl tt
  left_after Breaks s h = absurd (cc)

  left_text : (beyond : Front) → is_front marks beyond ≡ true → ComesAt marks beyond Unknown more → is_part marks Dollar ≡ true → (t c : Bool) → completes marks Dollar more ≡ c
      → P (if t then (if c then dropped (Mark Dollar) else kept byte beyond) else kept byte Text)
  left_text beyond is comes part true true e = drops (Mark Dollar) part e
  left_text beyond is comes part true false e = keeps beyond is comes
  left_text beyond is comes part false c e = keeps Text refl tt

  left_any : (t c : Bool) → c ≡ false → P (if t then (if c then dropped (Mark Dollar) else kept byte Text) else kept byte Text)
  left_any true true e = absurd (cc)
  left_any true false e = keeps Text refl tt
  left_any false c e = keeps Text refl tt

left_elim : (marks : Marks) (front : Front) (byte : ℕ) (more : List ℕ) (P : Left → Type 0) → is_front marks front ≡ true → ComesAt marks front Unknown (byte ∷ more)
    → ((f : Front) → is_front marks f ≡ true → ComesAt marks f Unknown more → P (dropped f)) → ((f : Front) → is_front marks f ≡ true → ComesAt marks f Unknown more → P (kept byte f))
    → P (left_of marks front byte more)
unfolding completes
left_elim marks (Mark part) byte more P e h d k = left_after marks byte more P d k (turn_of marks part byte) (part_stays marks part byte e) h
left_elim marks Literal byte more P e h d k = k Text refl tt
left_elim Untouched Text byte more P e h d k = left_any Untouched byte more P d k (is_dollar byte) (completes Untouched Dollar more) (untouched-completes Dollar more)
left_elim Tputs Text byte more P e h d k = left_text Tputs byte more P d k Literal refl tt refl (is_dollar byte) (completes Tputs Dollar more) refl
left_elim TiPad Text byte more P e h d k = left_text TiPad byte more P d k Text refl tt refl (is_dollar byte) (completes TiPad Dollar more) refl

-- ---- a text

record TextHeard (r : Reception) (rest : List ℕ) (c : Configuration) (h : Heard) : Type 0 where
  functions : h.functions ≡ []
  parser : IsEither c h.hearing.parser
  front : is_front r.marks h.hearing.front ≡ true
  comes : ComesAt r.marks h.hearing.front Unknown rest

text_heard : (r : Reception) (rest text : List ℕ) (c : Configuration) (x : Hearing) → is_text c.state ≡ true → AllByRecursion (λ byte. is_data byte ≡ true) text → IsEither c x.parser
    → is_front r.marks x.front ≡ true → ComesAt r.marks x.front Unknown (text ++ rest) → TextHeard r rest c (hear r rest x text)
unfolding hear run
text_heard r rest [] c x t all e f h = record { functions = refl; parser = e; front = f; comes = h }
text_heard r rest (byte ∷ text) c x t all e f h =
    let P : Left → Type 0 = λ left. TextHeard r rest c (heard_on r rest x left text) in
    left_elim r.marks x.front byte (text ++ rest) P f h
    (λ front is comes. text_heard r rest text c (record { front = front; parser = x.parser }) t all.1 e is comes)
    (λ front is comes.
    let after : Step → Heard = λ s. hear r rest (record { front = front; parser = s.configuration }) text in
    let Q : Step → Type 0 = λ s. TextHeard r rest c (record { hearing = (after s).hearing; functions = (functions_of s.output ++ []) ++ (after s).functions }) in
    subst Q (sym (text_next r.reading c x.parser byte t e all.0)) (text_heard r rest text c (record { front = front; parser = after_text c }) t all.1 (inr refl) is comes))

-- ---- receivers

whole_of : (P : ℕ → Type 0) (count : ℕ) → P 1 → P 2 → P 3 → P 4 → P 5 → (nat_lt 0 count && nat_lt count 6) ≡ true → P count
whole_of P zero a b c d e h = absurd (cc)
whole_of P (suc zero) a b c d e h = a
whole_of P (suc (suc zero)) a b c d e h = b
whole_of P (suc (suc (suc zero))) a b c d e h = c
whole_of P (suc (suc (suc (suc zero)))) a b c d e h = d
whole_of P (suc (suc (suc (suc (suc zero))))) a b c d e h = e
whole_of P (suc (suc (suc (suc (suc (suc n)))))) a b c d e h = absurd (grind (arith, nat_tests, h))

placed_front : (base : Receiver) (after : List Receiver) (marks : Marks) (front : Front) → ArePlaced base after (fronts marks) → is_front marks front ≡ true
    → CoverMore (record base { front = front; ahead = Unknown } ∷ []) after
placed_front base after Untouched Text h e = h.0
placed_front base after Untouched Literal h e = absurd (cc)
placed_front base after Untouched (Mark part) h e = absurd (cc)
placed_front base after Tputs Text h e = h.0
placed_front base after Tputs Literal h e = h.1.0
placed_front base after Tputs (Mark Dollar) h e = h.1.1.0
placed_front base after Tputs (Mark Open) h e = h.1.1.1.0
placed_front base after Tputs (Mark (Whole count)) h e =
    let same : count ≡ 1 = grind (arith, nat_tests, e) in
    let P : ℕ → Type 0 = λ n. CoverMore (record base { front = Mark (Whole n); ahead = Unknown } ∷ []) after in
    subst P (sym same) h.1.1.1.1.0
placed_front base after Tputs (Mark Decimals) h e = h.1.1.1.1.1.0
placed_front base after Tputs (Mark Flags) h e = h.1.1.1.1.1.1.0
placed_front base after Tputs (Mark part) h e = absurd (cc)
placed_front base after TiPad Text h e = h.0
placed_front base after TiPad Literal h e = absurd (cc)
placed_front base after TiPad (Mark Dollar) h e = h.1.0
placed_front base after TiPad (Mark Open) h e = h.1.1.0
placed_front base after TiPad (Mark (Whole count)) h e =
    let P : ℕ → Type 0 = λ n. CoverMore (record base { front = Mark (Whole n); ahead = Unknown } ∷ []) after in
    let at_five = h.1.1.1.1.1.1.1 in
    whole_of P count h.1.1.1.0 h.1.1.1.1.0 h.1.1.1.1.1.0 h.1.1.1.1.1.1.0 at_five.0 e
placed_front base after TiPad (Mark Point) h e = h.1.1.1.1.1.1.1.1.0
placed_front base after TiPad (Mark Decimals) h e = h.1.1.1.1.1.1.1.1.1.0
placed_front base after TiPad (Mark Star) h e = h.1.1.1.1.1.1.1.1.1.1.0
placed_front base after TiPad (Mark Slash) h e = h.1.1.1.1.1.1.1.1.1.1.1.0
placed_front base after TiPad (Mark Flags) h e = h.1.1.1.1.1.1.1.1.1.1.1.1.0

pub spread_one : (marks : Marks) (base : Receiver) (after : List Receiver) → ArePlaced base after (fronts marks) → Spread marks (base ∷ []) after
spread_one marks base after h m front (inl g) e comes =
    placed_front base after marks front h e (record m { front = front }) (inl (record { front = refl; ahead = comes; parser = g.parser }))
spread_one marks base after h m front (inr g) e comes = absurd g

pub spread_next : (marks : Marks) (xs after more : List Receiver) (i : ℕ) (x : Receiver) → i < length xs → x ≡ get_or xs i x
    → Spread marks (take i xs) after → CoverMore after more → Spread marks (x ∷ []) more → Spread marks (take (i + 1) xs) more
spread_next marks xs after more i x low is old kept new m front h e comes =
    let P : List Receiver → Type 0 = λ ys. IsAmong ys m in
    elim (split_last (take i xs) (get_or xs i x) m (subst P (take_more xs i x low) h)) [
      | inl g ↦ kept _ (old m front g e comes)
      | inr g ↦ let Q : Receiver → Type 0 = λ y. CoversMoment y m in new m front (inl (subst Q (sym is) g)) e comes
    ]

pub take_whole : (xs : List Receiver) (i : ℕ) → length xs ≤ i → take i xs ≡ xs
take_whole [] zero e = refl
take_whole [] (suc i) e = refl
take_whole (x ∷ xs) zero e = absurd (omega arith)
take_whole (x ∷ xs) (suc i) e = ap (λ t. x ∷ t) (take_whole xs i (omega arith))

pub spread_whole : (marks : Marks) (xs after : List Receiver) (i : ℕ) → length xs ≤ i → Spread marks (take i xs) after → Spread marks xs after
spread_whole marks xs after i high h = let P : List Receiver → Type 0 = λ ys. Spread marks ys after in subst P (take_whole xs i high) h

all_placed : (base : Receiver) (after more : List Receiver) (all : List Front) → CoverMore after more → ArePlaced base after all → ArePlaced base more all
all_placed base after more [] k h = tt
all_placed base after more (f ∷ all) k h = (λ m g. k m (h.0 m g), all_placed base after more all k h.1)

last_placed : (P : Front → Type 0) (xs : List Front) (x : Front) → AllByRecursion P xs → P x → AllByRecursion P (xs ++ x ∷ [])
last_placed P [] x h g = (g, tt)
last_placed P (y ∷ xs) x h g = (h.0, last_placed P xs x h.1 g)

-- one place more
pub placed_next : (base : Receiver) (after more : List Receiver) (all : List Front) (i : ℕ) (d : Front) (k : Receiver) → i < length all
    → ArePlaced base after (take i all) → CoverMore after more → k ≡ record base { front = get_or all i d; ahead = Unknown } → CoverMore (k ∷ []) more
    → ArePlaced base more (take (i + 1) all)
placed_next base after more all i d k low old kept is new =
    let P : Front → Type 0 = λ f. CoverMore (record base { front = f; ahead = Unknown } ∷ []) more in
    let Q : List Front → Type 0 = λ fs. ArePlaced base more fs in
    let R : Receiver → Type 0 = λ x. CoverMore (x ∷ []) more in
    subst Q (sym (take_more all i d low)) (last_placed P (take i all) (get_or all i d) (all_placed base after more (take i all) kept old) (subst R is new))

pub placed_whole : (base : Receiver) (after : List Receiver) (all : List Front) (i : ℕ) → length all ≤ i → ArePlaced base after (take i all) → ArePlaced base after all
placed_whole base after all i high h = let P : List Front → Type 0 = λ fs. ArePlaced base after fs in subst P (whole all i high) h
  where
    whole : (xs : List Front) (i : ℕ) → length xs ≤ i → take i xs ≡ xs
    whole [] zero e = refl
    whole [] (suc i) e = refl
    whole (x ∷ xs) zero e = absurd (omega arith)
    whole (x ∷ xs) (suc i) e = ap (λ t. x ∷ t) (whole xs i (omega arith))

bases_more : (marks : Marks) (bases more here : List Receiver) → CoverMore bases more → AreBases marks bases here → AreBases marks more here
bases_more marks bases more [] k h = tt
bases_more marks bases more (x ∷ here) k h =
    (record { text = h.0.text; front = h.0.front; before = λ m g. k m (h.0.before m g); after = λ m g. k m (h.0.after m g) }, bases_more marks bases more here k h.1)

last_base : (P : Receiver → Type 0) (xs : List Receiver) (x : Receiver) → AllByRecursion P xs → P x → AllByRecursion P (xs ++ x ∷ [])
last_base P [] x h g = (g, tt)
last_base P (y ∷ xs) x h g = (h.0, last_base P xs x h.1 g)

-- one receiver more
pub bases_next : (marks : Marks) (bases more here : List Receiver) (i : ℕ) (x : Receiver) → i < length here → x ≡ get_or here i x
    → AreBases marks bases (take i here) → CoverMore bases more → IsBase marks more x → AreBases marks more (take (i + 1) here)
bases_next marks bases more here i x low is old kept new =
    let P : Receiver → Type 0 = λ k. IsBase marks more k in
    let Q : List Receiver → Type 0 = λ xs. AreBases marks more xs in
    subst Q (sym (take_more here i x low)) (last_base P (take i here) (get_or here i x) (bases_more marks bases more (take i here) kept old) (subst P is new))

pub bases_whole : (marks : Marks) (bases here : List Receiver) (i : ℕ) → length here ≤ i → AreBases marks bases (take i here) → AreBases marks bases here
bases_whole marks bases here i high h = let P : List Receiver → Type 0 = λ xs. AreBases marks bases xs in subst P (take_whole here i high) h

comes_less : (marks : Marks) (front : Front) (ahead : Ahead) (rest : List ℕ) → ComesAt marks front ahead rest → ComesAt marks front Unknown rest
comes_less marks (Mark part) ahead rest h = h
comes_less marks Text ahead rest h = tt
comes_less marks Literal ahead rest h = tt

pub lead_text : (r : Reception) (here bases after : List Receiver) (sent : List Function) (text : List ℕ) → AreBases r.marks bases here → Spread r.marks bases after → IsOf data_bytes text
    → Lead r text here sent after
lead_text r [] bases after sent text b s d rest x g = absurd g
lead_text r (k ∷ here) bases after sent text b s d rest x (inr g) = lead_text r here bases after sent text b.1 s d rest x g
lead_text r (k ∷ here) bases after sent text b s d rest x (inl g) = record { ends = ends heard.parser; sends = let P : List Function → Type 0 = λ fs. AreSent sent fs in subst P (sym heard.functions) tt }
  where
    text_is : is_text x.parser.state ≡ true
    text_is = let state : Configuration → Bool = λ c. is_text c.state in sym (ap state g.parser.same) ∙ b.0.text

    front_is : is_front r.marks x.front ≡ true
    front_is = let P : Front → Type 0 = λ f. is_front r.marks f ≡ true in subst P g.front b.0.front

    comes : ComesAt r.marks x.front Unknown (text ++ rest)
    comes = let P : Front → Type 0 = λ f. ComesAt r.marks f Unknown (text ++ rest) in subst P g.front (comes_less r.marks k.front k.ahead (text ++ rest) g.ahead)

    heard : TextHeard r rest x.parser (hear r rest x text)
    heard = text_heard r rest text x.parser x text_is (all_data text d) (inl refl) front_is comes

    now : Configuration → Moment
    now c = record { marks = r.marks; rest = rest; front = Text; parser = c }

    based_at : (known c : Configuration) → CoversConfiguration known c → CoversMoment (based (record k { parser = known })) (now c)
    based_at known c h = record { front = refl; ahead = tt; parser = h }

    ends : IsEither x.parser (hear r rest x text).hearing.parser → IsAmong after (at r rest (hear r rest x text).hearing)
    ends (inl e) =
        let P : Configuration → Type 0 = λ c. CoversConfiguration k.parser c in
        let parser = (hear r rest x text).hearing.parser in
        s (now parser) (hear r rest x text).hearing.front (b.0.before (now parser) (inl (based_at k.parser parser (subst P (sym e) g.parser)))) heard.front heard.comes
    ends (inr e) =
        let P : Configuration → Type 0 = λ c. CoversConfiguration (after_text k.parser) c in
        let parser = (hear r rest x text).hearing.parser in
        s (now parser) (hear r rest x text).hearing.front
        (b.0.after (now parser) (inl (based_at (after_text k.parser) parser (subst P (sym e) (covers_after k.parser x.parser g.parser b.0.text text_is))))) heard.front heard.comes
