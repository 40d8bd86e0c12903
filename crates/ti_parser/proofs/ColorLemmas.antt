-- A digit of a color of the Linux console that is not known stands for each that it may be.
use Rattle.std.proofs.Common.{◌≡◌, ℕ, zero, suc, ◌+◌, ◌<◌, List, [], ◌∷◌, ◌++◌, Bool, true, false, not, ◌&&◌, inl, inr, length, get_or, take, drop, refl, sym, ◌∙◌, ap, subst, arith}
use Rattle.std.proofs.lemmas.Bool.Decides.{nat_tests}
use Rattle.std.proofs.lemmas.List.{take_more}
use Rattle.std.specs.Prelude.{if◌then◌else◌, Option, Some, None, nat_lt, ◌==◌}
use Rattle.ti_parser.specs.Classes.{class_of}
use Rattle.ti_parser.specs.Covers.{CoversConfiguration, CoversFunction, CoversNumber, CoverNumbers, SendMore}
use Rattle.ti_parser.specs.Functions.{control, listed}
use Rattle.ti_parser.specs.Laws.{is_printable}
use Rattle.ti_parser.specs.Machine.{Step, act, added_hex, complete, entered, gives, is_ignored, is_swallowed, moved, plain, quiet, step, taken}
use Rattle.ti_parser.specs.Numbers.{hex_value, is_hex}
use Rattle.ti_parser.specs.Padding.{beyond_dollar, is_dollar}
use Rattle.ti_parser.specs.Transitions.{transition_of}
use Rattle.ti_parser.specs.declared.character.Decoded.{Decoded}
use Rattle.ti_parser.specs.declared.class.ByteClass.{ByteClass}
use Rattle.ti_parser.specs.declared.class.ByteClass.TheVariants.{Digit, Final}
use Rattle.ti_parser.specs.declared.character.Begun.TheVariants.{Nothing}
use Rattle.ti_parser.specs.declared.configuration.Configuration.{Configuration}
use Rattle.ti_parser.specs.declared.function.Function.{Function}
use Rattle.ti_parser.specs.declared.number.FunctionNumber.{FunctionNumber}
use Rattle.ti_parser.specs.declared.number.FunctionNumber.TheVariants.{Absent, Known, Large, Any}
use Rattle.ti_parser.specs.declared.padding.Front.{Front}
use Rattle.ti_parser.specs.declared.padding.Front.TheVariants.{Text}
use Rattle.ti_parser.specs.declared.padding.Marks.{Marks}
use Rattle.ti_parser.specs.declared.padding.Marks.TheVariants.{Untouched, Tputs, TiPad}
use Rattle.ti_parser.specs.declared.padding.Part.TheVariants.{Dollar}
use Rattle.ti_parser.specs.declared.reading.Reading.{Reading}
use Rattle.ti_parser.specs.declared.reading.Reception.{Reception}
use Rattle.ti_parser.specs.declared.reading.Within.{Within}
use Rattle.ti_parser.specs.declared.reading.Within.TheVariants.{StartsAnew, GoesOn}
use Rattle.ti_parser.specs.declared.receiver.Ahead.{Ahead}
use Rattle.ti_parser.specs.declared.receiver.Ahead.TheVariants.{Unknown, Unmarked}
use Rattle.ti_parser.specs.declared.receiver.Move.TheVariants.{Sends}
use Rattle.ti_parser.specs.declared.receiver.Receiver.{Receiver}
use Rattle.ti_parser.specs.declared.state.State.{State}
use Rattle.ti_parser.specs.declared.state.State.TheVariants.{Ground, Palette}
use Rattle.ti_parser.specs.inner.Colors.{AreHex, IsColor, LeadBut, colored, with_any_digit, with_color}
use Rattle.ti_parser.specs.inner.Receivers.{ComesAt, CoverMore, CoversMoment, EachLeads, IsAmong, IsMoved, IsSentOn, Lead, Moment, at, begun, may_begin, move_of, stepped}
use Rattle.ti_parser.proofs.CoversLemmas.{CoversOption, CoversStep, cover_themselves, covers_complete, covers_give, covers_go, covers_if}
use Rattle.ti_parser.proofs.HearLemmas.{lead_heard}
use Rattle.ti_parser.proofs.SetLemmas.{sent_more, split_last}
use Rattle.ti_parser.proofs.TextLemmas.{decoded-printable}

-- ---- what covers a cover

number_twice : (k n m : FunctionNumber) → CoversNumber k n → CoversNumber n m → CoversNumber k m
number_twice Any Absent m h g = absurd h
number_twice Any Any Absent h g = absurd g
number_twice Any Any (Known v) h g = tt
number_twice Any Any Large h g = tt
number_twice Any Any Any h g = tt
number_twice Any (Known v) m h g = let P : FunctionNumber → Type 0 = λ x. CoversNumber Any x in subst P g h
number_twice Any Large m h g = let P : FunctionNumber → Type 0 = λ x. CoversNumber Any x in subst P g h
number_twice Absent n m h g = let P : FunctionNumber → Type 0 = λ x. CoversNumber x m in subst P (sym h) g
number_twice (Known v) n m h g = let P : FunctionNumber → Type 0 = λ x. CoversNumber x m in subst P (sym h) g
number_twice Large n m h g = let P : FunctionNumber → Type 0 = λ x. CoversNumber x m in subst P (sym h) g

numbers_twice : (ks ns ms : List FunctionNumber) → CoverNumbers ks ns → CoverNumbers ns ms → CoverNumbers ks ms
numbers_twice [] [] ms h g = g
numbers_twice (k ∷ ks) (n ∷ ns) (m ∷ ms) h g = (number_twice k n m h.0 g.0, numbers_twice ks ns ms h.1 g.1)
numbers_twice (k ∷ ks) (n ∷ ns) [] h g = absurd g
numbers_twice [] (n ∷ ns) ms h g = absurd h
numbers_twice (k ∷ ks) [] ms h g = absurd h

function_twice : (k f g : Function) → CoversFunction k f → CoversFunction f g → CoversFunction k g
function_twice k f g a b =
    let of : Function → Function = λ x. record x { numbers = k.numbers } in
    record { same = a.same ∙ ap of b.same; numbers = numbers_twice k.numbers f.numbers g.numbers a.numbers b.numbers }

configuration_twice : (k c d : Configuration) → CoversConfiguration k c → CoversConfiguration c d → CoversConfiguration k d
configuration_twice k c d a b =
    let of : Configuration → Configuration = λ x. record x { underway = record x.underway { numbers = k.underway.numbers }; number = k.number } in
    record {
      same = a.same ∙ ap of b.same;
      numbers = numbers_twice k.underway.numbers c.underway.numbers d.underway.numbers a.numbers b.numbers;
      number = number_twice k.number c.number d.number a.number b.number;
    }

-- what one option covers is sent if the option is
sent_instead : (known function : Option Function) (sent : List Function) → CoversOption known function → SendMore (listed known) sent → SendMore (listed function) sent
sent_instead None None sent h s f g = absurd g
sent_instead (Some k) (Some x) sent h s f (inl g) = s f (inl (function_twice k x f h g))
sent_instead (Some k) (Some x) sent h s f (inr g) = absurd g
sent_instead None (Some x) sent h s f g = absurd h
sent_instead (Some k) None sent h s f g = absurd h

-- ---- one digit

hex-printable : (byte : ℕ) → is_hex byte ≡ true → is_printable byte ≡ true
hex-printable byte h = grind (arith, nat_tests)

unfoldable is_hex_class : ByteClass → Bool
is_hex_class Digit = true
is_hex_class Final = true
is_hex_class class = false

class-hex : (byte : ℕ) → is_hex byte ≡ true → is_hex_class (class_of byte) ≡ true
unfolding class_of is_hex_class
class-hex byte h = grind (arith, nat_tests)

low-hex : (byte : ℕ) → is_hex byte ≡ true → nat_lt byte 0x20 ≡ false
low-hex byte h = grind (arith, nat_tests)

hex-dollar : (byte : ℕ) → is_hex byte ≡ true → is_dollar byte ≡ false
hex-dollar byte h = grind (arith, nat_tests)

-- a color ignores no digit
hex-swallowed : (within : Within) (byte : ℕ) → is_hex byte ≡ true → is_swallowed within byte Palette ≡ false
hex-swallowed StartsAnew byte h = refl
hex-swallowed GoesOn byte h =
    let ignored : Bool = is_ignored (transition_of Palette (class_of byte)).action in
    let by_test : Bool → Bool = λ b. b && ignored in
    ap by_test (low-hex byte h)

palette_moved : (class : ByteClass) (byte : ℕ) (c : Configuration) → is_hex_class class ≡ true → moved (transition_of Palette class) byte c ≡ added_hex Palette byte c
unfolding transition_of act is_hex_class
palette_moved Digit byte c h = refl
palette_moved Final byte c h = refl
palette_moved class byte c h = absurd (cc)

color_step : (reading : Reading) (c : Configuration) (byte : ℕ) → c.state ≡ Palette → is_hex byte ≡ true
    → step reading c byte ≡ with_color Palette (Known (hex_value byte)) (record c { begun = Nothing })
unfolding step taken plain
color_step reading c byte e is =
    let d : Configuration = record c { begun = Nothing } in
    let by_symbol : Decoded → Step = λ x. taken reading.within x.symbol (record c { begun = x.begun }) in
    let by_state : State → Step = λ s. if is_swallowed reading.within byte s then gives d (control byte) else moved (transition_of s (class_of byte)) byte d in
    let by_test : Bool → Step = λ b. if b then gives d (control byte) else moved (transition_of Palette (class_of byte)) byte d in
    let by_hex : Bool → Step = λ b. if not b then quiet (entered Ground d) else with_color Palette (Known (hex_value byte)) d in
    ap by_symbol (decoded-printable reading.coding c.begun _ byte (hex-printable byte is)) ∙ ap by_state e ∙ ap by_test (hex-swallowed reading.within byte is)
    ∙ palette_moved (class_of byte) byte d (class-hex byte is) ∙ ap by_hex is

covers_color : (value : ℕ) (c : Configuration) → CoversStep (with_color Palette Any c) (with_color Palette (Known value) c)
covers_color value c =
    let known : Configuration = colored Any c in
    let one : Configuration = colored (Known value) c in
    let e : CoversConfiguration known one = record { same = refl; numbers = cover_themselves (complete c).numbers; number = tt } in
    let is_six : Bool = length (complete c).numbers == 6 in
    covers_if is_six is_six _ _ _ _ refl (covers_give Ground known one (complete known) (complete one) e (covers_complete known one e)) (covers_go Palette known one e)

covers_any_digit : (reading : Reading) (c : Configuration) (byte : ℕ) → c.state ≡ Palette → is_hex byte ≡ true → CoversStep (with_any_digit c) (step reading c byte)
covers_any_digit reading c byte e is =
    let P : Step → Type 0 = λ s. CoversStep (with_any_digit c) s in
    subst P (sym (color_step reading c byte e is)) (covers_color (hex_value byte) (record c { begun = Nothing }))

-- ---- receivers

other-begins : (marks : Marks) (byte : ℕ) → is_dollar byte ≡ false → may_begin marks Text byte ≡ false
other-begins Untouched byte h = refl
other-begins Tputs byte h = h
other-begins TiPad byte h = h

-- a receiver outside of marks sends a byte on that begins none
module _ (r : Reception) (byte : ℕ) (k : Receiver) (sent : List Function) (after : List Receiver) (no : is_dollar byte ≡ false) (front : k.front ≡ Text) (ahead : k.ahead ≡ Unknown) where
  moves : IsSentOn r.reading byte k (stepped r.reading byte k Text Unknown) sent after → IsMoved r.reading byte k (move_of r.marks k.front k.ahead byte) sent after
  moves h =
      let P : Front → Type 0 = λ f. IsMoved r.reading byte k (move_of r.marks f k.ahead byte) sent after in
      let Q : Ahead → Type 0 = λ a. IsMoved r.reading byte k (move_of r.marks Text a byte) sent after in
      let R : Bool → Type 0 = λ b. IsMoved r.reading byte k (if b then Sends (beyond_dollar r.marks) (Unmarked Dollar) else Sends Text Unknown) sent after in
      subst P (sym front) (subst Q (sym ahead) (subst R (sym (other-begins r.marks byte no)) h))

  begins : may_begin r.marks k.front byte ≡ true → CoverMore (begun k ∷ []) after
  begins e =
      let P : Front → Type 0 = λ f. may_begin r.marks f byte ≡ true in
      let none : may_begin r.marks Text byte ≡ false = other-begins r.marks byte no in
      let yes : may_begin r.marks Text byte ≡ true = subst P front e in
      absurd (cc)

  pub lead_outside : IsSentOn r.reading byte k (stepped r.reading byte k Text Unknown) sent after → Lead r (byte ∷ []) (k ∷ []) sent after
  lead_outside h = lead_heard r byte k sent after begins (moves h)

-- a receiver in a color after a digit that is not known
abbrev pub after_any : Receiver → Receiver
after_any k = record k { parser = (with_any_digit k.parser).configuration }

module _ (r : Reception) (byte : ℕ) (k : Receiver) (sent : List Function) (after : List Receiver) (hex : is_hex byte ≡ true) (is : IsColor k) where
  covered : CoversStep (with_any_digit k.parser) (step r.reading k.parser byte) → CoverMore (after_any k ∷ []) after → CoverMore (stepped r.reading byte k Text Unknown ∷ []) after
  covered one c m (inr g) = absurd g
  covered one c m (inl g) =
      let P : Front → Type 0 = λ f. ComesAt m.marks f k.ahead m.rest in
      let Q : Ahead → Type 0 = λ a. ComesAt m.marks Text a m.rest in
      c m (inl (record {
        front = is.front ∙ g.front;
        ahead = subst P (sym is.front) (subst Q (sym is.ahead) g.ahead);
        parser = configuration_twice _ _ _ one.configuration g.parser;
      }))

  lead_color : CoverMore (after_any k ∷ []) after → SendMore (listed (with_any_digit k.parser).output.ended) sent → SendMore (listed (with_any_digit k.parser).output.function) sent
      → Lead r (byte ∷ []) (k ∷ []) sent after
  lead_color c ended function =
      let one : CoversStep (with_any_digit k.parser) (step r.reading k.parser byte) = covers_any_digit r.reading k.parser byte is.state hex in
      lead_outside r byte k sent after (hex-dollar byte hex) is.front is.ahead (record {
        covers = covered one c;
        ended = sent_instead _ _ sent one.ended ended;
        function = sent_instead _ _ sent one.function function;
      })

-- ---- receivers in a color, and others

pub but_color : (r : Reception) (byte : ℕ) (k : Receiver) (others : List Receiver) (sent : List Function) (after : List Receiver) → is_hex byte ≡ true → IsColor k
    → CoverMore (after_any k ∷ []) after → SendMore (listed (with_any_digit k.parser).output.ended) sent → SendMore (listed (with_any_digit k.parser).output.function) sent
    → LeadBut r (byte ∷ []) (k ∷ []) others sent after
but_color r byte k others sent after hex is c ended function rest x h = inr (lead_color r byte k sent after hex is c ended function rest x h)

pub but_other : (r : Reception) (bytes : List ℕ) (before others : List Receiver) (sent : List Function) (after : List Receiver) → CoverMore before others
    → LeadBut r bytes before others sent after
but_other r bytes before others sent after c rest x h = inl (c _ h)

pub but_more : (r : Reception) (bytes : List ℕ) (before others more after all : List Receiver) (sent functions : List Function) → LeadBut r bytes before others sent after
    → CoverMore others more → SendMore sent functions → CoverMore after all → LeadBut r bytes before more functions all
but_more r bytes before others more after all sent functions h o s a rest x g = elim (h rest x g) [
  | inl c ↦ inl (o _ c)
  | inr c ↦ inr (record { ends = a _ c.ends; sends = sent_more sent functions _ s c.sends })
]

pub but_next : (r : Reception) (bytes : List ℕ) (xs others after : List Receiver) (sent : List Function) (i : ℕ) (x : Receiver) → i < length xs → x ≡ get_or xs i x
    → LeadBut r bytes (take i xs) others sent after → LeadBut r bytes (x ∷ []) others sent after → LeadBut r bytes (take (i + 1) xs) others sent after
but_next r bytes xs others after sent i x low e h g rest c k =
    let m : Moment = at r (bytes ++ rest) c in
    let P : List Receiver → Type 0 = λ ys. IsAmong ys m in
    elim (split_last (take i xs) (get_or xs i x) m (subst P (take_more xs i x low) k)) [
      | inl o ↦ h rest c o
      | inr o ↦ let Q : Receiver → Type 0 = λ y. CoversMoment y m in g rest c (inl (subst Q (sym e) o))
    ]

-- ---- the digits among some bytes

pub but_all : (r : Reception) (bytes : List ℕ) (before others after all : List Receiver) (sent functions : List Function) → LeadBut r bytes before others sent after
    → SendMore sent functions → CoverMore after all → Lead r bytes others functions all → Lead r bytes before functions all
but_all r bytes before others after all sent functions h s a g rest x k = elim (h rest x k) [
  | inl c ↦ g rest x c
  | inr c ↦ record { ends = a _ c.ends; sends = sent_more sent functions _ s c.sends }
]

pub each_but : (r : Reception) (bytes : List ℕ) (before others after all : List Receiver) (sent functions : List Function) → AreHex bytes
    → ((byte : ℕ) → is_hex byte ≡ true → LeadBut r (byte ∷ []) before others sent after)
    → SendMore sent functions → CoverMore after all → EachLeads r bytes others functions all → EachLeads r bytes before functions all
each_but r [] before others after all sent functions hex h s a g = tt
each_but r (b ∷ bytes) before others after all sent functions hex h s a g =
    (but_all r (b ∷ []) before others after all sent functions (h b hex.0) s a g.0, each_but r bytes before others after all sent functions hex.1 h s a g.1)

pub each_parts : (r : Reception) (bytes : List ℕ) (i : ℕ) (before after : List Receiver) (sent : List Function) → EachLeads r (take i bytes) before sent after
    → EachLeads r (drop i bytes) before sent after → EachLeads r bytes before sent after
each_parts r bytes zero before after sent h g = g
each_parts r [] (suc i) before after sent h g = g
each_parts r (b ∷ bytes) (suc i) before after sent h g = (h.0, each_parts r bytes i before after sent h.1 g)

-- one digit more
pub hex_next : (bytes : List ℕ) (i d : ℕ) → i < length bytes → AreHex (take i bytes) → is_hex (get_or bytes i d) ≡ true → AreHex (take (i + 1) bytes)
hex_next bytes i d low h e = let P : List ℕ → Type 0 = λ x. AreHex x in subst P (sym (take_more bytes i d low)) (hex_last (take i bytes) (get_or bytes i d) h e)
  where
    hex_last : (xs : List ℕ) (x : ℕ) → AreHex xs → is_hex x ≡ true → AreHex (xs ++ x ∷ [])
    hex_last [] x h e = (e, tt)
    hex_last (y ∷ xs) x h e = (h.0, hex_last xs x h.1 e)
