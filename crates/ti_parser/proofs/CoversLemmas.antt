-- A byte keeps what is covered.
use Rattle.std.proofs.Common.{◌≡◌, ℕ, List, [], ◌∷◌, ◌++◌, Bool, true, false, not, ◌&&◌, length, refl, sym, ap, subst}
use Rattle.std.specs.Prelude.{suc, if◌then◌else◌, Option, Some, None, nat_lt, ◌==◌, ◌-◌}
use Rattle.ti_parser.specs.Classes.{class_of}
use Rattle.ti_parser.specs.Covers.{CoversNumber, CoverNumbers, CoversFunction, CoversConfiguration}
use Rattle.ti_parser.specs.Functions.{blank, control, escape, finished, pushed}
use Rattle.ti_parser.specs.Machine.{Opening, Step, act, added_hex, anew, collected, complete, entered, gives, goes_on, hexed, introduced, introduced_by, is_swallowed, marked, named, next_by_character, opening_of, plain, put, quiet, read, separated, step, system_named, taken}
use Rattle.ti_parser.specs.Numbers.{is_absent, is_hex, most_numbers, with_digit}
use Rattle.ti_parser.specs.States.{is_fresh}
use Rattle.ti_parser.specs.Transitions.{transition_of}
use Rattle.ti_parser.specs.declared.character.Symbol.{Symbol}
use Rattle.ti_parser.specs.declared.character.Symbol.TheVariants.{Unfinished, Character, Plain, Upper}
use Rattle.ti_parser.specs.declared.configuration.Configuration.{Configuration}
use Rattle.ti_parser.specs.declared.function.Function.{Function}
use Rattle.ti_parser.specs.declared.number.FunctionNumber.{FunctionNumber}
use Rattle.ti_parser.specs.declared.number.FunctionNumber.TheVariants.{Absent, Known, Large, Any}
use Rattle.ti_parser.specs.declared.reading.Reading.{Reading}
use Rattle.ti_parser.specs.declared.reading.Within.{Within}
use Rattle.ti_parser.specs.declared.state.State.{State}
use Rattle.ti_parser.specs.declared.state.State.TheVariants.{Ground, Palette}
use Rattle.ti_parser.specs.declared.transition.ParserAction.{ParserAction}
use Rattle.ti_parser.specs.declared.transition.ParserAction.TheVariants.{Ignore, Execute, End, Abort, Collect, HandOutEscape, Introduce, AddDigit, Separate, Mark, HandOutSequence, Name, NameSystem, Put, AddHex}

abbrev pub CoversOption : Option Function → Option Function → Type 0
CoversOption None None = Unit {0}
CoversOption (Some known) (Some function) = CoversFunction known function
CoversOption known function = ⊥

pub record CoversStep (known s : Step) : Type 0 where
  pub configuration : CoversConfiguration known.configuration s.configuration
  pub ended : CoversOption known.output.ended s.output.ended
  pub function : CoversOption known.output.function s.output.function

-- ---- numbers

covers_itself : (n : FunctionNumber) → CoversNumber n n
covers_itself Absent = refl
covers_itself (Known value) = refl
covers_itself Large = refl
covers_itself Any = tt

pub cover_themselves : (ns : List FunctionNumber) → CoverNumbers ns ns
cover_themselves [] = tt
cover_themselves (n ∷ ns) = (covers_itself n, cover_themselves ns)

covers_equal : (k n : FunctionNumber) → k ≡ n → CoversNumber k n
covers_equal k n e = let P : FunctionNumber → Type 0 = λ x. CoversNumber k x in subst P e (covers_itself k)

any_bounded : (b : Bool) (value : ℕ) → CoversNumber Any (if b then Known value else Large)
any_bounded true value = tt
any_bounded false value = tt

covers_digit : (k n : FunctionNumber) (digit : ℕ) → CoversNumber k n → CoversNumber (with_digit k digit) (with_digit n digit)
covers_digit Any Absent digit h = absurd h
covers_digit Any (Known value) digit h = any_bounded _ _
covers_digit Any Large digit h = tt
covers_digit Any Any digit h = tt
covers_digit Absent n digit h = covers_equal _ _ (ap (λ x. with_digit x digit) h)
covers_digit (Known v) n digit h = covers_equal _ _ (ap (λ x. with_digit x digit) h)
covers_digit Large n digit h = covers_equal _ _ (ap (λ x. with_digit x digit) h)

covers_absent : (k n : FunctionNumber) → CoversNumber k n → is_absent k ≡ is_absent n
covers_absent Any Absent h = absurd h
covers_absent Any (Known value) h = refl
covers_absent Any Large h = refl
covers_absent Any Any h = refl
covers_absent Absent n h = ap is_absent h
covers_absent (Known v) n h = ap is_absent h
covers_absent Large n h = ap is_absent h

same_length : (ks ns : List FunctionNumber) → CoverNumbers ks ns → length ks ≡ length ns
same_length [] [] h = refl
same_length (k ∷ ks) (n ∷ ns) h = ap suc (same_length ks ns h.1)
same_length [] (n ∷ ns) h = absurd h
same_length (k ∷ ks) [] h = absurd h

cover_one_more : (ks ns : List FunctionNumber) (k n : FunctionNumber) → CoverNumbers ks ns → CoversNumber k n → CoverNumbers (ks ++ k ∷ []) (ns ++ n ∷ [])
cover_one_more [] [] k n h g = (g, tt)
cover_one_more (x ∷ ks) (y ∷ ns) k n h g = (h.0, cover_one_more ks ns k n h.1 g)
cover_one_more [] (n ∷ ns) k m h g = absurd h
cover_one_more (x ∷ ks) [] k m h g = absurd h

-- ---- functions

pub covers_function : (f : Function) → CoversFunction f f
covers_function f = record { same = refl; numbers = cover_themselves f.numbers }

with_all : List FunctionNumber → Function → Function
with_all ns f = record f { numbers = ns }

push_if : Bool → FunctionNumber → Function → Function
push_if room n f = if room then record f { numbers = f.numbers ++ n ∷ [] } else record f { is_overfull = true }

covers_push_if : (room : Bool) (k n : FunctionNumber) (ks : List FunctionNumber) (f : Function) → CoverNumbers ks f.numbers → CoversNumber k n
    → CoversFunction (push_if room k (with_all ks f)) (push_if room n f)
unfolding push_if with_all
covers_push_if true k n ks f h g = record { same = refl; numbers = cover_one_more ks f.numbers k n h g }
covers_push_if false k n ks f h g = record { same = refl; numbers = h }

covers_pushed : (k n : FunctionNumber) (ks : List FunctionNumber) (f : Function) → CoverNumbers ks f.numbers → CoversNumber k n
    → CoversFunction (pushed k (record f { numbers = ks })) (pushed n f)
unfolding push_if with_all
covers_pushed k n ks f h g =
    let P : ℕ → Type 0 = λ x. CoversFunction (push_if (nat_lt x most_numbers) k (with_all ks f)) (push_if (nat_lt (length f.numbers) most_numbers) n f) in
    subst P (sym (same_length ks f.numbers h)) (covers_push_if (nat_lt (length f.numbers) most_numbers) k n ks f h g)

finish_if : Bool → Function → Function
finish_if empty f = if empty then f else pushed Absent f

covers_finish_if : (empty : Bool) (ks : List FunctionNumber) (f : Function) → CoverNumbers ks f.numbers
    → CoversFunction (finish_if empty (record f { numbers = ks })) (finish_if empty f)
unfolding finish_if
covers_finish_if true ks f h = record { same = refl; numbers = h }
covers_finish_if false ks f h = covers_pushed Absent Absent ks f h refl

covers_finished : (k n : FunctionNumber) (ks : List FunctionNumber) (f : Function) → CoverNumbers ks f.numbers → CoversNumber k n
    → CoversFunction (finished k (record f { numbers = ks })) (finished n f)
unfolding finish_if
covers_finished Absent Absent ks f h g =
    let P : ℕ → Type 0 = λ x. CoversFunction (finish_if (x == 0) (record f { numbers = ks })) (finish_if (length f.numbers == 0) f) in
    subst P (sym (same_length ks f.numbers h)) (covers_finish_if (length f.numbers == 0) ks f h)
covers_finished Absent (Known v) ks f h g = absurd (cc)
covers_finished Absent Large ks f h g = absurd (cc)
covers_finished Absent Any ks f h g = absurd (cc)
covers_finished (Known v) Absent ks f h g = absurd (cc)
covers_finished (Known v) (Known w) ks f h g = covers_pushed (Known v) (Known w) ks f h g
covers_finished (Known v) Large ks f h g = absurd (cc)
covers_finished (Known v) Any ks f h g = absurd (cc)
covers_finished Large Absent ks f h g = absurd (cc)
covers_finished Large (Known w) ks f h g = absurd (cc)
covers_finished Large Large ks f h g = covers_pushed Large Large ks f h g
covers_finished Large Any ks f h g = absurd (cc)
covers_finished Any Absent ks f h g = absurd h2
  where
    h2 : ⊥
    h2 = g
covers_finished Any (Known w) ks f h g = covers_pushed Any (Known w) ks f h g
covers_finished Any Large ks f h g = covers_pushed Any Large ks f h g
covers_finished Any Any ks f h g = covers_pushed Any Any ks f h g

-- ---- configurations

-- a configuration with these numbers
abbrev with_these : List FunctionNumber → FunctionNumber → Configuration → Configuration
with_these ks k c = record c { underway = record c.underway { numbers = ks }; number = k }

-- what holds of a configuration with other numbers that cover its own holds of each that covers it
lifted : (P : Configuration → Configuration → Type 0)
    → ((c : Configuration) (ks : List FunctionNumber) (k : FunctionNumber) → CoverNumbers ks c.underway.numbers → CoversNumber k c.number → P (with_these ks k c) c)
    → (d c : Configuration) → CoversConfiguration d c → P d c
lifted P f d c h = let Q : Configuration → Type 0 = λ x. P x c in subst Q (sym h.same) (f c _ _ h.numbers h.number)

pub covers_configuration : (c : Configuration) → CoversConfiguration c c
covers_configuration c = record { same = refl; numbers = cover_themselves c.underway.numbers; number = covers_itself c.number }

-- with another function underway, and another number
covers_with : (c : Configuration) (g f : Function) (k n : FunctionNumber) → CoversFunction g f → CoversNumber k n
    → CoversConfiguration (record c { underway = g; number = k }) (record c { underway = f; number = n })
covers_with c g f k n h e =
    let of : Function → Configuration = λ x. record c { underway = x; number = k } in
    record { same = ap of h.same; numbers = h.numbers; number = e }

entered_if : (fresh : Bool) (next : State) (c : Configuration) (ks : List FunctionNumber) (k : FunctionNumber) → CoverNumbers ks c.underway.numbers → CoversNumber k c.number
    → CoversConfiguration (if fresh then record c { state = next; underway = blank; number = Absent } else record (with_these ks k c) { state = next })
    (if fresh then record c { state = next; underway = blank; number = Absent } else record c { state = next })
entered_if true next c ks k h g = record { same = refl; numbers = tt; number = refl }
entered_if false next c ks k h g = record { same = refl; numbers = h; number = g }

covers_entered : (next : State) (d c : Configuration) → CoversConfiguration d c → CoversConfiguration (entered next d) (entered next c)
covers_entered next d c h =
    lifted (λ x y. CoversConfiguration (entered next x) (entered next y)) (λ c ks k h g. entered_if (is_fresh next) next c ks k h g) d c h

pub covers_complete : (d c : Configuration) → CoversConfiguration d c → CoversFunction (complete d) (complete c)
covers_complete d c h =
    lifted (λ x y. CoversFunction (complete x) (complete y)) (λ c ks k h g. covers_finished k c.number ks c.underway h g) d c h

-- ---- steps

covers_quiet : (d c : Configuration) → CoversConfiguration d c → CoversStep (quiet d) (quiet c)
covers_quiet d c h = record { configuration = h; ended = tt; function = tt }

covers_gives : (d c : Configuration) (g f : Function) → CoversConfiguration d c → CoversFunction g f → CoversStep (gives d g) (gives c f)
covers_gives d c g f h e = record { configuration = h; ended = tt; function = e }

pub covers_go : (next : State) (d c : Configuration) → CoversConfiguration d c → CoversStep (quiet (entered next d)) (quiet (entered next c))
covers_go next d c h = covers_quiet (entered next d) (entered next c) (covers_entered next d c h)

pub covers_give : (next : State) (d c : Configuration) (g f : Function) → CoversConfiguration d c → CoversFunction g f → CoversStep (gives (entered next d) g) (gives (entered next c) f)
covers_give next d c g f h e = covers_gives (entered next d) (entered next c) g f (covers_entered next d c h) e

pub covers_if : (a b : Bool) (s t u v : Step) → a ≡ b → CoversStep s u → CoversStep t v → CoversStep (if a then s else t) (if b then u else v)
covers_if true true s t u v e h k = h
covers_if false false s t u v e h k = k
covers_if true false s t u v e h k = absurd (cc)
covers_if false true s t u v e h k = absurd (cc)

covers_introduced_by : (found : Option Opening) (byte : ℕ) (c : Configuration) (ks : List FunctionNumber) (k : FunctionNumber)
    → CoverNumbers ks c.underway.numbers → CoversNumber k c.number → CoversStep (introduced_by found byte (with_these ks k c)) (introduced_by found byte c)
covers_introduced_by (Some found) byte c ks k h g =
    let change : Configuration → Configuration = λ x. record x { underway = record x.underway { kind = found.kind } } in
    covers_go found.state (change (with_these ks k c)) (change c) (record { same = refl; numbers = h; number = g })
covers_introduced_by None byte c ks k h g =
    covers_give Ground (with_these ks k c) c (escape byte (with_these ks k c).underway) (escape byte c.underway)
    (record { same = refl; numbers = h; number = g }) (record { same = refl; numbers = h })

covers_introduced : (byte : ℕ) (d c : Configuration) → CoversConfiguration d c → CoversStep (introduced byte d) (introduced byte c)
unfolding introduced
covers_introduced byte d c h =
    lifted (λ x y. CoversStep (introduced_by (opening_of byte) byte x) (introduced_by (opening_of byte) byte y))
    (λ c ks k h g. covers_introduced_by (opening_of byte) byte c ks k h g) d c h

covers_system : (next : State) (byte : ℕ) (c : Configuration) (ks : List FunctionNumber) (k : FunctionNumber)
    → CoverNumbers ks c.underway.numbers → CoversNumber k c.number → CoversStep (system_named next byte (with_these ks k c)) (system_named next byte c)
covers_system next byte c ks k h g =
    let e = covers_absent k c.number g in
    let d : Configuration = with_these ks k c in
    let name : CoversConfiguration (named byte d) (named byte c) = record { same = refl; numbers = h; number = g } in
    let is_r : Bool → Bool = λ b. b && byte == 82 in
    let is_p : Bool → Bool = λ b. b && byte == 80 in
    covers_if _ _ _ _ _ _ (ap is_r e)
    (covers_give Ground d c (named byte d).underway (named byte c).underway (record { same = refl; numbers = h; number = g }) (record { same = refl; numbers = h }))
    (covers_if _ _ _ _ _ _ (ap is_p e) (covers_go Palette (named byte d) (named byte c) name) (covers_go next (named byte d) (named byte c) name))

covers_hex : (next : State) (byte : ℕ) (d c : Configuration) → CoversConfiguration d c → CoversStep (added_hex next byte d) (added_hex next byte c)
covers_hex next byte d c h =
    let f : CoversFunction (complete d) (complete c) = covers_complete d c h in
    let e : CoversConfiguration (hexed byte d) (hexed byte c) = hexed_covered d c h in
    let is_six : ℕ → Bool = λ n. n == 6 in
    covers_if (not (is_hex byte)) (not (is_hex byte)) _ _ _ _ refl (covers_go Ground d c h)
    (covers_if _ _ _ _ _ _ (ap is_six (same_length (complete d).numbers (complete c).numbers f.numbers))
    (covers_give Ground (hexed byte d) (hexed byte c) (complete (hexed byte d)) (complete (hexed byte c)) e (covers_complete (hexed byte d) (hexed byte c) e))
    (covers_go next (hexed byte d) (hexed byte c) e))
  where
    hexed_covered : (d c : Configuration) → CoversConfiguration d c → CoversConfiguration (hexed byte d) (hexed byte c)
    hexed_covered d c h =
        lifted (λ x y. CoversConfiguration (hexed byte x) (hexed byte y))
        (λ c ks k h g. covers_with c _ _ _ _ (covers_finished k c.number ks c.underway h g) refl) d c h

-- an action that hands out nothing, or changes no number
covers_act : (action : ParserAction) (next : State) (byte : ℕ) (c : Configuration) (ks : List FunctionNumber) (k : FunctionNumber)
    → CoverNumbers ks c.underway.numbers → CoversNumber k c.number → CoversStep (act action next byte (with_these ks k c)) (act action next byte c)
unfolding act
covers_act Ignore next byte c ks k h g = covers_go next (with_these ks k c) c (record { same = refl; numbers = h; number = g })
covers_act Execute next byte c ks k h g =
    covers_give next (with_these ks k c) c (control byte) (control byte) (record { same = refl; numbers = h; number = g }) (covers_function (control byte))
covers_act End next byte c ks k h g = record {
  configuration = covers_entered next (with_these ks k c) c (record { same = refl; numbers = h; number = g });
  ended = covers_finished k c.number ks c.underway h g;
  function = tt;
}
covers_act Abort next byte c ks k h g = record {
  configuration = covers_entered next (with_these ks k c) c (record { same = refl; numbers = h; number = g });
  ended = covers_finished k c.number ks c.underway h g;
  function = covers_function (control byte);
}
covers_act Collect next byte c ks k h g = covers_go next (collected byte (with_these ks k c)) (collected byte c) (record { same = refl; numbers = h; number = g })
covers_act HandOutEscape next byte c ks k h g =
    covers_give next (with_these ks k c) c (escape byte (with_these ks k c).underway) (escape byte c.underway)
    (record { same = refl; numbers = h; number = g }) (record { same = refl; numbers = h })
covers_act Introduce next byte c ks k h g = covers_introduced byte (with_these ks k c) c (record { same = refl; numbers = h; number = g })
covers_act AddDigit next byte c ks k h g =
    covers_go next (record (with_these ks k c) { number = with_digit k (byte - 0x30) }) (record c { number = with_digit c.number (byte - 0x30) })
    (record { same = refl; numbers = h; number = covers_digit k c.number (byte - 0x30) g })
covers_act Separate next byte c ks k h g =
    covers_go next (separated (with_these ks k c)) (separated c) (covers_with c _ _ Absent Absent (covers_pushed k c.number ks c.underway h g) refl)
covers_act Mark next byte c ks k h g = covers_go next (marked byte (with_these ks k c)) (marked byte c) (record { same = refl; numbers = h; number = g })
covers_act HandOutSequence next byte c ks k h g =
    let f : CoversFunction (complete (with_these ks k c)) (complete c) = covers_finished k c.number ks c.underway h g in
    let change : Function → Function = λ x. record x { letter = Some byte } in
    covers_give next (with_these ks k c) c (change (complete (with_these ks k c))) (change (complete c))
    (record { same = refl; numbers = h; number = g }) (record { same = ap change f.same; numbers = f.numbers })
covers_act Name next byte c ks k h g = covers_go next (named byte (with_these ks k c)) (named byte c) (record { same = refl; numbers = h; number = g })
covers_act NameSystem next byte c ks k h g = covers_system next byte c ks k h g
covers_act Put next byte c ks k h g = covers_go next (put byte (with_these ks k c)) (put byte c) (record { same = refl; numbers = h; number = g })
covers_act AddHex next byte c ks k h g = covers_hex next byte (with_these ks k c) c (record { same = refl; numbers = h; number = g })

covers_plain : (byte : ℕ) (d c : Configuration) → CoversConfiguration d c → CoversStep (plain byte d) (plain byte c)
unfolding plain
covers_plain byte d c h =
    lifted (λ x y. CoversStep (plain byte x) (plain byte y))
    (λ c ks k h g. covers_act (transition_of c.state (class_of byte)).action (transition_of c.state (class_of byte)).next byte c ks k h g) d c h

covers_anew : (byte : ℕ) (d c : Configuration) → CoversConfiguration d c → CoversStep (anew byte d) (anew byte c)
unfolding anew
covers_anew byte d c h =
    let cut = covers_plain 0x1b d c h in
    let new = covers_introduced byte (plain 0x1b d).configuration (plain 0x1b c).configuration cut.configuration in
    record { configuration = new.configuration; ended = cut.ended; function = new.function }

covers_taken : (within : Within) (symbol : Symbol) (c : Configuration) (ks : List FunctionNumber) (k : FunctionNumber)
    → CoverNumbers ks c.underway.numbers → CoversNumber k c.number → CoversStep (taken within symbol (with_these ks k c)) (taken within symbol c)
unfolding taken
covers_taken within Unfinished c ks k h g = covers_quiet (with_these ks k c) c (record { same = refl; numbers = h; number = g })
covers_taken within Character c ks k h g = covers_go (next_by_character c.state) (with_these ks k c) c (record { same = refl; numbers = h; number = g })
covers_taken within (Plain byte) c ks k h g =
    let same : CoversConfiguration (with_these ks k c) c = record { same = refl; numbers = h; number = g } in
    covers_if (is_swallowed within byte c.state) (is_swallowed within byte c.state) _ _ _ _ refl
    (covers_gives (with_these ks k c) c (control byte) (control byte) same (covers_function (control byte))) (covers_plain byte (with_these ks k c) c same)
covers_taken within (Upper byte) c ks k h g =
    let same : CoversConfiguration (with_these ks k c) c = record { same = refl; numbers = h; number = g } in
    covers_if (goes_on within byte c.state) (goes_on within byte c.state) _ _ _ _ refl
    (covers_gives (with_these ks k c) c (escape byte blank) (escape byte blank) same (covers_function (escape byte blank))) (covers_anew byte (with_these ks k c) c same)

pub covers_step : (reading : Reading) (byte : ℕ) (d c : Configuration) → CoversConfiguration d c → CoversStep (step reading d byte) (step reading c byte)
unfolding step
covers_step reading byte d c h =
    lifted (λ x y. CoversStep (step reading x byte) (step reading y byte))
    (λ c ks k h g. covers_taken reading.within (read reading c byte).symbol (record c { begun = (read reading c byte).begun }) ks k h g) d c h
