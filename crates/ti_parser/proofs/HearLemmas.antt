-- What receivers hear of a byte, and of joined bytes.
use Rattle.std.proofs.Common.{◌≡◌, ℕ, List, [], ◌∷◌, ◌++◌, Bool, true, false, ◌||◌, inl, inr, append_assoc, refl, sym, ◌∙◌, ap, subst}
use Rattle.std.proofs.lemmas.List.{append-nil}
use Rattle.std.specs.Prelude.{Option, Some, None, if◌then◌else◌}
use Rattle.ti_parser.specs.Covers.{AreSent, CoversConfiguration, SendMore}
use Rattle.ti_parser.specs.Functions.{functions_of, listed}
use Rattle.ti_parser.specs.Machine.{Run, run, step}
use Rattle.ti_parser.specs.Padding.{Left, completed, completes, dropped, has_close, is_close, is_dollar, kept, left_from, left_in_mark, left_of, turn_of}
use Rattle.ti_parser.specs.declared.function.Function.{Function}
use Rattle.ti_parser.specs.declared.function.HandedOut.{HandedOut}
use Rattle.ti_parser.specs.declared.padding.Front.{Front}
use Rattle.ti_parser.specs.declared.padding.Front.TheVariants.{Text, Literal, Mark}
use Rattle.ti_parser.specs.declared.padding.Marks.{Marks}
use Rattle.ti_parser.specs.declared.padding.Marks.TheVariants.{Untouched, Tputs, TiPad}
use Rattle.ti_parser.specs.declared.padding.Part.{Part}
use Rattle.ti_parser.specs.declared.padding.Part.TheVariants.{Dollar}
use Rattle.ti_parser.specs.declared.padding.Turn.{Turn}
use Rattle.ti_parser.specs.declared.padding.Turn.TheVariants.{Holds, Ends, Breaks}
use Rattle.ti_parser.specs.declared.reading.FirstCharacter.{FirstCharacter}
use Rattle.ti_parser.specs.declared.reading.Reading.{Reading}
use Rattle.ti_parser.specs.declared.reading.Reception.{Reception}
use Rattle.ti_parser.specs.declared.receiver.Ahead.{Ahead}
use Rattle.ti_parser.specs.declared.receiver.Ahead.TheVariants.{Unknown, Closed, Unclosed, Unmarked}
use Rattle.ti_parser.specs.declared.receiver.Move.TheVariants.{Sends}
use Rattle.ti_parser.specs.declared.receiver.Receiver.{Receiver}
use Rattle.ti_parser.specs.inner.Receivers.{Comes, ComesAt, CoverMore, Heard, Hearing, IsHeard, IsMoved, IsSentOn, Lead, ahead_by, begun, hear, may_begin, move_of, next_ahead, sends_on, skips_on, stepped}
use Rattle.ti_parser.proofs.CoversLemmas.{CoversOption, CoversStep, covers_step}
use Rattle.ti_parser.proofs.RunLemmas.{run-append}
use Rattle.ti_parser.proofs.SetLemmas.{sent_both}

-- ---- joined bytes

-- a byte of which so much is left, and more bytes
abbrev pub heard_on : Reception → List ℕ → Hearing → Left → List ℕ → Heard
heard_on r rest x left bytes =
    let now = run r.reading x.parser left.bytes in
    let more = hear r rest (record { front = left.front; parser = now.configuration }) bytes in
    record { hearing = more.hearing; functions = now.functions ++ more.functions }

pub hear-append : (r : Reception) (rest : List ℕ) (x : Hearing) (xs ys : List ℕ)
    → hear r rest x (xs ++ ys)
    ≡ record {
      hearing = (hear r rest (hear r (ys ++ rest) x xs).hearing ys).hearing;
      functions = (hear r (ys ++ rest) x xs).functions ++ (hear r rest (hear r (ys ++ rest) x xs).hearing ys).functions;
    }
unfolding hear
hear-append r rest x [] ys = refl
hear-append r rest x (byte ∷ xs) ys =
    let left : Left = left_of r.marks x.front byte (xs ++ (ys ++ rest)) in
    let now : Run = run r.reading x.parser left.bytes in
    let next : Hearing = record { front = left.front; parser = now.configuration } in
    let one : Heard = hear r (ys ++ rest) next xs in
    let two : Heard = hear r rest one.hearing ys in
    let by : List ℕ → Heard = λ t. heard_on r rest x (left_of r.marks x.front byte t) (xs ++ ys) in
    let onto : Heard → Heard = λ h. record { hearing = h.hearing; functions = now.functions ++ h.functions } in
    let with_all : List Function → Heard = λ fs. record { hearing = two.hearing; functions = fs } in
    ap by (append_assoc xs ys rest) ∙ ap onto (hear-append r rest next xs ys) ∙ ap with_all (sym (append_assoc now.functions one.functions two.functions))

-- what is heard up to the end is the run of what is left of the text
pub heard_whole : (r : Reception) (x : Hearing) (bytes : List ℕ) → run r.reading x.parser (left_from r.marks x.front bytes)
    ≡ record { configuration = (hear r [] x bytes).hearing.parser; functions = (hear r [] x bytes).functions }
unfolding hear left_from run
heard_whole r x [] = refl
heard_whole r x (byte ∷ bytes) =
    let left : Left = left_of r.marks x.front byte bytes in
    let now : Run = run r.reading x.parser left.bytes in
    let next : Hearing = record { front = left.front; parser = now.configuration } in
    let onto : Run → Run = λ h. record { configuration = h.configuration; functions = now.functions ++ h.functions } in
    let same : Heard → Run = λ h. record { configuration = h.hearing.parser; functions = h.functions } in
    let by : List ℕ → Run = λ t. same (heard_on r [] x (left_of r.marks x.front byte t) bytes) in
    run-append r.reading x.parser left.bytes (left_from r.marks left.front bytes) ∙ ap onto (heard_whole r next bytes) ∙ ap by (sym (append-nil bytes))

-- ---- what is known of the bytes that come

abbrev ComesSome : Marks → Option Ahead → List ℕ → Type 0
ComesSome marks None rest = ⊥
ComesSome marks (Some ahead) rest = Comes marks ahead rest

none_closes : (marks : Marks) (rest : List ℕ) (t : Bool) → (t || has_close rest) ≡ false → ComesSome marks (if t then None else Some Unclosed) rest
none_closes marks rest true h = absurd (cc)
none_closes marks rest false h = h

some_closes : (marks : Marks) (rest : List ℕ) (t : Bool) → (t || has_close rest) ≡ true → Comes marks (if t then Unknown else Closed) rest
some_closes marks rest true h = tt
some_closes marks rest false h = h

comes_by : (marks : Marks) (t : Turn) (byte : ℕ) (rest : List ℕ)
    → completed t (λ next. completes marks next rest) (has_close (byte ∷ rest)) ≡ false → ComesSome marks (ahead_by t byte) rest
comes_by marks (Holds part) byte rest h = h
comes_by marks Ends byte rest h = none_closes marks rest (is_close byte) h
comes_by marks Breaks byte rest h = tt

comes_next : (marks : Marks) (ahead : Ahead) (byte : ℕ) (rest : List ℕ) → Comes marks ahead (byte ∷ rest) → ComesSome marks (next_ahead marks ahead byte) rest
unfolding completes
comes_next marks Unknown byte rest h = tt
comes_next marks Closed byte rest h = some_closes marks rest (is_close byte) h
comes_next marks Unclosed byte rest h = none_closes marks rest (is_close byte) h
comes_next marks (Unmarked part) byte rest h = comes_by marks (turn_of marks part byte) byte rest h

pub untouched-completes : (part : Part) (rest : List ℕ) → completes Untouched part rest ≡ false
unfolding completes turn_of
untouched-completes part [] = refl
untouched-completes part (byte ∷ rest) = refl

-- ---- one byte

listed_sent : (known function : Option Function) (sent : List Function) → CoversOption known function → SendMore (listed known) sent → AreSent sent (listed function)
listed_sent None None sent h s = tt
listed_sent (Some k) (Some f) sent h s = (s f (inl h), tt)
listed_sent None (Some f) sent h s = absurd h
listed_sent (Some k) None sent h s = absurd h

module _ (r : Reception) (rest : List ℕ) (byte : ℕ) (k : Receiver) (x : Hearing) (sent : List Function) (after : List Receiver) (parser : CoversConfiguration k.parser x.parser) where
  -- the byte is left of what is heard
  abbrev Hears : Left → Type 0
  Hears left = IsHeard r rest after sent (heard_on r rest x left [])

  takes : (front : Front) (ahead : Ahead) → ComesAt r.marks front ahead rest → IsSentOn r.reading byte k (stepped r.reading byte k front ahead) sent after → Hears (kept byte front)
  unfolding hear run
  takes front ahead comes h =
      let one : CoversStep (step r.reading k.parser byte) (step r.reading x.parser byte) = covers_step r.reading byte k.parser x.parser parser in
      let output : HandedOut = (step r.reading x.parser byte).output in
      let both : AreSent sent (functions_of output) =
      sent_both sent (listed output.ended) (listed output.function)
      (listed_sent (step r.reading k.parser byte).output.ended output.ended sent one.ended h.ended)
      (listed_sent (step r.reading k.parser byte).output.function output.function sent one.function h.function)
      in
      record {
        ends = h.covers _ (inl (record { front = refl; ahead = comes; parser = one.configuration }));
        sends = sent_both sent (functions_of output ++ []) [] (sent_both sent (functions_of output) [] both tt) tt;
      }

  drops : (front : Front) (ahead : Ahead) → ComesAt r.marks front ahead rest → CoverMore (record k { front = front; ahead = ahead } ∷ []) after → Hears (dropped front)
  unfolding hear run
  drops front ahead comes h = record { ends = h _ (inl (record { front = refl; ahead = comes; parser = parser })); sends = tt }

  takes_some : (ahead : Option Ahead) → ComesSome r.marks ahead rest → IsMoved r.reading byte k (sends_on Text ahead) sent after → Hears (kept byte Text)
  takes_some None h m = absurd h
  takes_some (Some ahead) h m = takes Text ahead h m

  in_mark : (t : Turn) → completed t (λ next. completes r.marks next rest) (has_close (byte ∷ rest)) ≡ true → IsMoved r.reading byte k (skips_on t byte) sent after
      → Hears (left_in_mark t byte)
  in_mark (Holds part) h m = drops (Mark part) Unknown h m
  in_mark Ends h m = drops Text (if is_close byte then Unknown else Closed) (some_closes r.marks rest (is_close byte) h) m
  in_mark Breaks h m = absurd (cc)

  -- a byte that begins a mark, or begins none
  in_text : (beyond : Front) (ahead : Option Ahead) (is_dollar completes : Bool) → (completes ≡ true → ComesAt r.marks (Mark Dollar) Unknown rest)
      → (completes ≡ false → ComesAt r.marks beyond (Unmarked Dollar) rest) → ComesSome r.marks ahead rest
      → (is_dollar ≡ true → CoverMore (begun k ∷ []) after) → IsMoved r.reading byte k (if is_dollar then Sends beyond (Unmarked Dollar) else sends_on Text ahead) sent after
      → Hears (if is_dollar then (if completes then dropped (Mark Dollar) else kept byte beyond) else kept byte Text)
  in_text beyond ahead true true marks none comes b m = drops (Mark Dollar) Unknown (marks refl) (b refl)
  in_text beyond ahead true false marks none comes b m = takes beyond (Unmarked Dollar) (none refl) m
  in_text beyond ahead false c marks none comes b m = takes_some ahead comes m

  -- with marks untouched each byte is taken
  in_any : (ahead : Option Ahead) (is_dollar completes : Bool) → completes ≡ false → ComesSome r.marks ahead rest → IsMoved r.reading byte k (sends_on Text ahead) sent after
      → Hears (if is_dollar then (if completes then dropped (Mark Dollar) else kept byte Text) else kept byte Text)
  in_any ahead true true e comes m = absurd (cc)
  in_any ahead true false e comes m = takes_some ahead comes m
  in_any ahead false c e comes m = takes_some ahead comes m

-- what a receiver hears of a byte, by the padding and by where the byte stands
heard_front : (marks : Marks) (reading : Reading) (first : FirstCharacter) (rest : List ℕ) (byte : ℕ) (k : Receiver) (x : Hearing) (sent : List Function) (after : List Receiver)
    → CoversConfiguration k.parser x.parser → (front : Front) (ahead : Ahead) → ComesAt marks front ahead (byte ∷ rest)
    → (may_begin marks front byte ≡ true → CoverMore (begun k ∷ []) after) → IsMoved reading byte k (move_of marks front ahead byte) sent after
    → IsHeard (record { reading = reading; marks = marks; first_character = first }) rest after sent (heard_on (record { reading = reading; marks = marks; first_character = first }) rest x (left_of marks front byte rest) [])
unfolding completes
heard_front marks reading first rest byte k x sent after parser (Mark part) ahead h b m =
    in_mark (record { reading = reading; marks = marks; first_character = first }) rest byte k x sent after parser (turn_of marks part byte) h m
heard_front Untouched reading first rest byte k x sent after parser Literal ahead h b m =
    takes_some (record { reading = reading; marks = Untouched; first_character = first }) rest byte k x sent after parser (next_ahead Untouched ahead byte) (comes_next Untouched ahead byte rest h) m
heard_front Tputs reading first rest byte k x sent after parser Literal ahead h b m =
    takes_some (record { reading = reading; marks = Tputs; first_character = first }) rest byte k x sent after parser (next_ahead Tputs ahead byte) (comes_next Tputs ahead byte rest h) m
heard_front TiPad reading first rest byte k x sent after parser Literal ahead h b m =
    takes_some (record { reading = reading; marks = TiPad; first_character = first }) rest byte k x sent after parser (next_ahead TiPad ahead byte) (comes_next TiPad ahead byte rest h) m
heard_front Untouched reading first rest byte k x sent after parser Text ahead h b m =
    in_any (record { reading = reading; marks = Untouched; first_character = first }) rest byte k x sent after parser (next_ahead Untouched ahead byte) (is_dollar byte) (completes Untouched Dollar rest)
    (untouched-completes Dollar rest) (comes_next Untouched ahead byte rest h) m
heard_front Tputs reading first rest byte k x sent after parser Text ahead h b m =
    in_text (record { reading = reading; marks = Tputs; first_character = first }) rest byte k x sent after parser Literal (next_ahead Tputs ahead byte) (is_dollar byte) (completes Tputs Dollar rest)
    (λ e. e) (λ e. e) (comes_next Tputs ahead byte rest h) b m
heard_front TiPad reading first rest byte k x sent after parser Text ahead h b m =
    in_text (record { reading = reading; marks = TiPad; first_character = first }) rest byte k x sent after parser Text (next_ahead TiPad ahead byte) (is_dollar byte) (completes TiPad Dollar rest)
    (λ e. e) (λ e. e) (comes_next TiPad ahead byte rest h) b m

pub lead_heard : (r : Reception) (byte : ℕ) (k : Receiver) (sent : List Function) (after : List Receiver)
    → (may_begin r.marks k.front byte ≡ true → CoverMore (begun k ∷ []) after) → IsMoved r.reading byte k (move_of r.marks k.front k.ahead byte) sent after
    → Lead r (byte ∷ []) (k ∷ []) sent after
unfolding hear
lead_heard r byte k sent after b m rest x (inl h) =
    let P : Front → Type 0 = λ f. IsHeard r rest after sent (heard_on r rest x (left_of r.marks f byte rest) []) in
    subst P h.front (heard_front r.marks r.reading r.first_character rest byte k x sent after h.parser k.front k.ahead h.ahead b m)
lead_heard r byte k sent after b m rest x (inr h) = absurd h
