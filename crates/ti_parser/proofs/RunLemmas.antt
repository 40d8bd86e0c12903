-- How runs go on, and what an escape leaves.
use Rattle.std.proofs.Common.{◌≡◌, ℕ, List, [], ◌∷◌, ◌++◌, Bool, true, false, refl, sym, ◌∙◌, ap, append_assoc}
use Rattle.std.specs.Prelude.{if◌then◌else◌, not, Option, Some, None}
use Rattle.ti_parser.specs.Characters.{decoded}
use Rattle.ti_parser.specs.Classes.{class_of}
use Rattle.ti_parser.specs.Functions.{blank, control, escape, functions_of}
use Rattle.ti_parser.specs.Laws.{escaped, followed_by, uncut}
use Rattle.ti_parser.specs.Machine.{Opening, Run, Step, act, anew, gives, ground, introduced, introduced_by, is_introducer, is_swallowed, moved, opening_of, plain, run, step, taken, then_run}
use Rattle.ti_parser.specs.Transitions.{escape_row, transition_of}
use Rattle.ti_parser.specs.declared.character.Symbol.{Symbol}
use Rattle.ti_parser.specs.declared.character.Symbol.TheVariants.{Unfinished, Character, Plain, Upper}
use Rattle.ti_parser.specs.declared.class.ByteClass.{ByteClass}
use Rattle.ti_parser.specs.declared.class.ByteClass.TheVariants.{Control, Bell, Cancel, Escape, Intermediate, Digit, Separator, Marker, Final, Delete}
use Rattle.ti_parser.specs.declared.configuration.Configuration.{Configuration}
use Rattle.ti_parser.specs.declared.reading.Reading.{Reading}
use Rattle.ti_parser.specs.declared.reading.Within.{Within}
use Rattle.ti_parser.specs.declared.reading.Within.TheVariants.{StartsAnew, GoesOn}
use Rattle.ti_parser.specs.declared.state.State.{State}
use Rattle.ti_parser.specs.declared.state.State.TheVariants.{Ground, AfterEscape, AfterCut, EscapeIntermediate, SequenceEntry, SequenceParameters, SequenceIntermediate, SequenceIgnore, DeviceEntry, DeviceParameters, DeviceIntermediate, DeviceIgnore, SystemNumber, SystemBody, Palette, StringStart, StringBody}

-- ---- joined bytes

pub run-append : (reading : Reading) (c : Configuration) (a b : List ℕ)
    → run reading c (a ++ b) ≡ followed_by (run reading c a) (run reading (run reading c a).configuration b)
unfolding run
run-append reading c [] b = refl
run-append reading c (byte ∷ a) b =
    let first : Step = step reading c byte in
    let middle : Run = run reading first.configuration a in
    ap (λ rest. then_run first rest) (run-append reading first.configuration a b)
    ∙ ap (λ functions. record { configuration = (run reading middle.configuration b).configuration; functions = functions })
    (sym (append_assoc (functions_of first.output) middle.functions (run reading middle.configuration b).functions))

-- ---- an escape

-- an escape leaves the same of every state, but for whether it was that of a string
leaves : (state : State) (c : Configuration)
    → uncut (moved (transition_of state Escape) 0x1b c).configuration ≡ uncut (record ground { state = AfterEscape; begun = c.begun })
unfolding transition_of act
leaves Ground c = refl
leaves AfterEscape c = refl
leaves AfterCut c = refl
leaves EscapeIntermediate c = refl
leaves SequenceEntry c = refl
leaves SequenceParameters c = refl
leaves SequenceIntermediate c = refl
leaves SequenceIgnore c = refl
leaves DeviceEntry c = refl
leaves DeviceParameters c = refl
leaves DeviceIntermediate c = refl
leaves DeviceIgnore c = refl
leaves SystemNumber c = refl
leaves SystemBody c = refl
leaves Palette c = refl
leaves StringStart c = refl
leaves StringBody c = refl

-- a string ignores no escape
escape-swallowed : (within : Within) (state : State) → is_swallowed within 0x1b state ≡ false
unfolding class_of transition_of
escape-swallowed StartsAnew state = refl
escape-swallowed GoesOn Ground = refl
escape-swallowed GoesOn AfterEscape = refl
escape-swallowed GoesOn AfterCut = refl
escape-swallowed GoesOn EscapeIntermediate = refl
escape-swallowed GoesOn SequenceEntry = refl
escape-swallowed GoesOn SequenceParameters = refl
escape-swallowed GoesOn SequenceIntermediate = refl
escape-swallowed GoesOn SequenceIgnore = refl
escape-swallowed GoesOn DeviceEntry = refl
escape-swallowed GoesOn DeviceParameters = refl
escape-swallowed GoesOn DeviceIntermediate = refl
escape-swallowed GoesOn DeviceIgnore = refl
escape-swallowed GoesOn SystemNumber = refl
escape-swallowed GoesOn SystemBody = refl
escape-swallowed GoesOn Palette = refl
escape-swallowed GoesOn StringStart = refl
escape-swallowed GoesOn StringBody = refl

uncut-escaped : (reading : Reading) (c : Configuration) → uncut (escaped reading c) ≡ record ground { state = AfterEscape }
unfolding step taken plain decoded class_of
uncut-escaped reading c =
    let by_test : Bool → Configuration = λ b. uncut (if b then gives (record c { begun = ground.begun }) (control 0x1b) else plain 0x1b (record c { begun = ground.begun })).configuration in
    ap by_test (escape-swallowed reading.within c.state) ∙ leaves c.state (record c { begun = ground.begun })

-- ---- whether a string was cut plays no part

-- two steps hand out the same, and differ at most in whether a string was cut
pub record AreAlike (s t : Step) : Type 0 where
  pub output : s.output ≡ t.output
  pub configuration : uncut s.configuration ≡ uncut t.configuration

alike_if : (b : Bool) (s t u v : Step) → AreAlike s u → AreAlike t v → AreAlike (if b then s else t) (if b then u else v)
alike_if true s t u v h k = h
alike_if false s t u v h k = k

alike_introduced : (found : Option Opening) (byte : ℕ) (c : Configuration)
    → AreAlike (introduced_by found byte (record c { state = AfterCut })) (introduced_by found byte (record c { state = AfterEscape }))
alike_introduced (Some found) byte c = record { output = refl; configuration = refl }
alike_introduced None byte c = record { output = refl; configuration = refl }

alike_moved : (class : ByteClass) (byte : ℕ) (c : Configuration)
    → AreAlike (moved (escape_row AfterCut class) byte (record c { state = AfterCut })) (moved (escape_row AfterEscape class) byte (record c { state = AfterEscape }))
unfolding act introduced
alike_moved Control byte c = record { output = refl; configuration = refl }
alike_moved Bell byte c = record { output = refl; configuration = refl }
alike_moved Cancel byte c = record { output = refl; configuration = refl }
alike_moved Escape byte c = record { output = refl; configuration = refl }
alike_moved Intermediate byte c = record { output = refl; configuration = refl }
alike_moved Digit byte c = record { output = refl; configuration = refl }
alike_moved Separator byte c = record { output = refl; configuration = refl }
alike_moved Marker byte c = record { output = refl; configuration = refl }
alike_moved Final byte c = alike_introduced (opening_of byte) byte c
alike_moved Delete byte c = record { output = refl; configuration = refl }

alike_upper : (within : Within) (byte : ℕ) (c : Configuration)
    → AreAlike (taken within (Upper byte) (record c { state = AfterCut })) (taken within (Upper byte) (record c { state = AfterEscape }))
unfolding taken anew plain class_of transition_of act
alike_upper StartsAnew byte c = record { output = refl; configuration = refl }
alike_upper GoesOn byte c =
    let cut : Configuration = record c { state = AfterCut } in
    let whole : Configuration = record c { state = AfterEscape } in
    alike_if (not (is_introducer byte)) (gives cut (escape byte blank)) (anew byte cut) (gives whole (escape byte blank)) (anew byte whole)
    (record { output = refl; configuration = refl }) (record { output = refl; configuration = refl })

alike_taken : (within : Within) (symbol : Symbol) (c : Configuration)
    → AreAlike (taken within symbol (record c { state = AfterCut })) (taken within symbol (record c { state = AfterEscape }))
unfolding taken plain transition_of
alike_taken within Unfinished c = record { output = refl; configuration = refl }
alike_taken within Character c = record { output = refl; configuration = refl }
alike_taken StartsAnew (Plain byte) c = alike_moved (class_of byte) byte c
alike_taken GoesOn (Plain byte) c = alike_moved (class_of byte) byte c
alike_taken within (Upper byte) c = alike_upper within byte c

same_step : (s : Step) → AreAlike s s
same_step s = record { output = refl; configuration = refl }

-- a step from a state, and from it with the cut forgotten
alike_uncut : (reading : Reading) (state : State) (c : Configuration) (byte : ℕ)
    → AreAlike (step reading (record c { state = state }) byte) (step reading (uncut (record c { state = state })) byte)
unfolding step
alike_uncut reading AfterCut c byte =
    alike_taken reading.within (decoded reading.coding c.begun true byte).symbol (record c { begun = (decoded reading.coding c.begun true byte).begun })
alike_uncut reading state c byte = same_step _

alike_steps : (reading : Reading) (c d : Configuration) (byte : ℕ) → uncut c ≡ uncut d → AreAlike (step reading c byte) (step reading d byte)
alike_steps reading c d byte e =
    let from_c : AreAlike (step reading c byte) (step reading (uncut c) byte) = alike_uncut reading c.state c byte in
    let from_d : AreAlike (step reading d byte) (step reading (uncut d) byte) = alike_uncut reading d.state d byte in
    record {
      output = from_c.output ∙ ap (λ x. (step reading x byte).output) e ∙ sym from_d.output;
      configuration = from_c.configuration ∙ ap (λ x. uncut (step reading x byte).configuration) e ∙ sym from_d.configuration;
    }

-- two runs hand out the same, and differ at most in whether a string was cut
pub record RunAlike (r s : Run) : Type 0 where
  pub functions : r.functions ≡ s.functions
  pub configuration : uncut r.configuration ≡ uncut s.configuration

alike_runs : (reading : Reading) (bytes : List ℕ) (c d : Configuration) → uncut c ≡ uncut d → RunAlike (run reading c bytes) (run reading d bytes)
unfolding run
alike_runs reading [] c d e = record { functions = refl; configuration = e }
alike_runs reading (byte ∷ bytes) c d e =
    let first : AreAlike (step reading c byte) (step reading d byte) = alike_steps reading c d byte e in
    let rest = alike_runs reading bytes (step reading c byte).configuration (step reading d byte).configuration first.configuration in
    record {
      functions = ap (λ o. functions_of o ++ (run reading (step reading c byte).configuration bytes).functions) first.output
          ∙ ap (λ fs. functions_of (step reading d byte).output ++ fs) rest.functions;
      configuration = rest.configuration;
    }

pub escaped_alike : (reading : Reading) (c d : Configuration) (bytes : List ℕ)
    → RunAlike (run reading (escaped reading c) bytes) (run reading (escaped reading d) bytes)
escaped_alike reading c d bytes =
    alike_runs reading bytes (escaped reading c) (escaped reading d) (uncut-escaped reading c ∙ sym (uncut-escaped reading d))
