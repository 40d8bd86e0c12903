-- A configuration that keeps no more than its state allows: what is in a state without a function is blank.
use Rattle.std.proofs.Common.{◌≡◌, ℕ, List, [], ◌∷◌, Bool, true, false, not, ◌&&◌, refl, sym, ◌∙◌, ap, subst}
use Rattle.std.specs.Prelude.{if◌then◌else◌, Option, Some, None, length, ◌==◌, ◌-◌}
use Rattle.ti_parser.specs.Classes.{class_of}
use Rattle.ti_parser.specs.Functions.{blank, control, escape}
use Rattle.ti_parser.specs.Machine.{Opening, Step, act, anew, collected, complete, entered, gives, goes_on, ground, hexed, introduced, introduced_by, is_swallowed, marked, named, next_by_character, opening_of, plain, put, quiet, read, run, separated, step, taken}
use Rattle.ti_parser.specs.Numbers.{is_absent, is_hex, with_digit}
use Rattle.ti_parser.specs.declared.function.Function.{Function}
use Rattle.ti_parser.specs.declared.transition.Transition.{Transition}
use Rattle.ti_parser.specs.States.{is_fresh}
use Rattle.ti_parser.specs.Transitions.{transition_of}
use Rattle.ti_parser.specs.declared.character.Begun.{Begun}
use Rattle.ti_parser.specs.declared.character.Begun.TheVariants.{Nothing}
use Rattle.ti_parser.specs.declared.character.Symbol.{Symbol}
use Rattle.ti_parser.specs.declared.character.Symbol.TheVariants.{Unfinished, Character, Plain, Upper}
use Rattle.ti_parser.specs.declared.configuration.Configuration.{Configuration}
use Rattle.ti_parser.specs.declared.number.FunctionNumber.TheVariants.{Absent}
use Rattle.ti_parser.specs.declared.reading.Reading.{Reading}
use Rattle.ti_parser.specs.declared.reading.Within.{Within}
use Rattle.ti_parser.specs.declared.state.State.{State}
use Rattle.ti_parser.specs.declared.state.State.TheVariants.{Ground, AfterEscape, AfterCut, Palette}
use Rattle.ti_parser.specs.declared.transition.ParserAction.{ParserAction}
use Rattle.ti_parser.specs.declared.transition.ParserAction.TheVariants.{Ignore, Execute, End, Abort, Collect, HandOutEscape, Introduce, AddDigit, Separate, Mark, HandOutSequence, Name, NameSystem, Put, AddHex}

-- going to its own state changes nothing
pub record IsSettled (c : Configuration) : Type 0 where
  pub same : entered c.state c ≡ c

-- what was entered is settled
pub settled_entered : (next : State) (c : Configuration) → IsSettled (entered next c)
settled_entered Ground c = record { same = refl }
settled_entered AfterEscape c = record { same = refl }
settled_entered AfterCut c = record { same = refl }
settled_entered next c = record { same = refl }

-- whatever test chooses
settled_if : (b : Bool) (s t : Step) → IsSettled s.configuration → IsSettled t.configuration → IsSettled (if b then s else t).configuration
settled_if true s t h k = h
settled_if false s t h k = k

settled_introduced_by : (found : Option Opening) (byte : ℕ) (c : Configuration) → IsSettled (introduced_by found byte c).configuration
settled_introduced_by (Some found) byte c = settled_entered found.state (record c { underway = record c.underway { kind = found.kind } })
settled_introduced_by None byte c = settled_entered Ground c

settled_introduced : (byte : ℕ) (c : Configuration) → IsSettled (introduced byte c).configuration
unfolding introduced
settled_introduced byte c = settled_introduced_by (opening_of byte) byte c

settled_named : (a b : Bool) (next : State) (c d : Configuration) (function : Function)
    → IsSettled (if a then gives (entered Ground c) function else if b then quiet (entered Palette d) else quiet (entered next d)).configuration
settled_named true b next c d function = settled_entered Ground c
settled_named false true next c d function = settled_entered Palette d
settled_named false false next c d function = settled_entered next d

settled_hexed : (a b : Bool) (next : State) (c d : Configuration) (function : Function)
    → IsSettled (if a then quiet (entered Ground c) else if b then gives (entered Ground d) function else quiet (entered next d)).configuration
settled_hexed true b next c d function = settled_entered Ground c
settled_hexed false true next c d function = settled_entered Ground d
settled_hexed false false next c d function = settled_entered next d

settled_act : (action : ParserAction) (next : State) (byte : ℕ) (c : Configuration) → IsSettled (act action next byte c).configuration
unfolding act
settled_act Introduce next byte c = settled_introduced byte c
settled_act NameSystem next byte c = settled_named (is_absent c.number && byte == 82) (is_absent c.number && byte == 80) next c (named byte c) (named byte c).underway
settled_act AddHex next byte c =
    settled_hexed (not (is_hex byte)) (length (hexed byte c).underway.numbers == 6) next c (hexed byte c) (complete (hexed byte c))
settled_act Ignore next byte c = settled_entered next c
settled_act Execute next byte c = settled_entered next c
settled_act End next byte c = settled_entered next c
settled_act Abort next byte c = settled_entered next c
settled_act Collect next byte c = settled_entered next (collected byte c)
settled_act HandOutEscape next byte c = settled_entered next c
settled_act AddDigit next byte c = settled_entered next (record c { number = with_digit c.number (byte - 0x30) })
settled_act Separate next byte c = settled_entered next (separated c)
settled_act Mark next byte c = settled_entered next (marked byte c)
settled_act HandOutSequence next byte c = settled_entered next c
settled_act Name next byte c = settled_entered next (named byte c)
settled_act Put next byte c = settled_entered next (put byte c)

settled_plain : (byte : ℕ) (c : Configuration) → IsSettled (plain byte c).configuration
unfolding plain
settled_plain byte c =
    let found : Transition = transition_of c.state (class_of byte) in settled_act found.action found.next byte c

settled_anew : (byte : ℕ) (c : Configuration) → IsSettled (anew byte c).configuration
unfolding anew
settled_anew byte c = settled_introduced byte (plain 0x1b c).configuration

settled_taken : (within : Within) (symbol : Symbol) (c : Configuration) → IsSettled c → IsSettled (taken within symbol c).configuration
unfolding taken
settled_taken within Unfinished c h = h
settled_taken within Character c h = settled_entered (next_by_character c.state) c
settled_taken within (Plain byte) c h =
    settled_if (is_swallowed within byte c.state) (gives c (control byte)) (plain byte c) h (settled_plain byte c)
settled_taken within (Upper byte) c h =
    settled_if (goes_on within byte c.state) (gives c (escape byte blank)) (anew byte c) h (settled_anew byte c)

-- the character that is begun has no part in it
entered-begun : (b : Bool) (next : State) (c : Configuration) (begun : Begun)
    → (if b then record (record c { begun = begun }) { state = next; underway = blank; number = Absent } else record (record c { begun = begun }) { state = next })
    ≡ record (if b then record c { state = next; underway = blank; number = Absent } else record c { state = next }) { begun = begun }
entered-begun true next c begun = refl
entered-begun false next c begun = refl

settled_begun : (c : Configuration) (begun : Begun) → IsSettled c → IsSettled (record c { begun = begun })
settled_begun c begun h =
    let with_begun : Configuration → Configuration = λ x. record x { begun = begun } in
    record { same = entered-begun (is_fresh c.state) c.state c begun ∙ ap with_begun h.same }

pub settled_step : (reading : Reading) (c : Configuration) (byte : ℕ) → IsSettled c → IsSettled (step reading c byte).configuration
unfolding step
settled_step reading c byte h =
    settled_taken reading.within (read reading c byte).symbol (record c { begun = (read reading c byte).begun }) (settled_begun c (read reading c byte).begun h)

pub settled_run : (reading : Reading) (c : Configuration) (bytes : List ℕ) → IsSettled c → IsSettled (run reading c bytes).configuration
unfolding run
settled_run reading c [] h = h
settled_run reading c (byte ∷ bytes) h = settled_run reading (step reading c byte).configuration bytes (settled_step reading c byte h)

-- what is settled in the ground state is new, but for a character that is begun
new-settled : (c : Configuration) (state : State) (begun : Begun) → entered c.state c ≡ c → c.state ≡ state → c.begun ≡ begun → state ≡ Ground → begun ≡ Nothing → c ≡ ground
new-settled c state begun same is_state is_begun is_ground is_nothing =
    let P : State → Type 0 = λ s. entered s c ≡ c in
    let reset : entered Ground c ≡ c = subst P (is_state ∙ is_ground) same in
    let with_begun : Begun → Configuration = λ b. record ground { begun = b } in
    sym reset ∙ ap with_begun (is_begun ∙ is_nothing)

pub settled_new : (c : Configuration) → IsSettled c → c.state ≡ Ground → c.begun ≡ Nothing → c ≡ ground
settled_new c h is_ground is_nothing = new-settled c c.state c.begun h.same refl refl is_ground is_nothing
