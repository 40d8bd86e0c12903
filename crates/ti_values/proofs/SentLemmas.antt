-- What is sent for one more value.
use Rattle.std.proofs.Common.{◌≡◌, ◌∙◌, ◌<◌, ◌==◌, ◌||◌, ℕ, ◌+◌, Bool, true, false, List, [], ◌∷◌, ◌++◌, ap, get_or, length, refl, subst, sym, take, true≢false, Vec}
use Rattle.std.specs.Prelude.{codes, flat_map}
use Rattle.std.specs.List.{list_any}
use Rattle.std.proofs.lemmas.List.{map-append, take_more}
use Rattle.ti_base.specs.Letters.{letter}
use Rattle.ti_pad.specs.Marks.{pieces, pieces_from}
use Rattle.ti_pad.proofs.PaddedTextLemmas.{mark_at-plain}
use Rattle.ti_pad.proofs.PiecesLemmas.{pieces-literal}
use Rattle.ti_values.specs.Ranges.{parameters_of}
use Rattle.ti_values.specs.Sent.{AreSent, Sends, literal_bytes, texts_of, without_marks}
use Rattle.ti_values.specs.declared.tried.Tried.{Tried}

and_one : (text : List ℕ) (values : List Tried) (all : List (List ℕ)) (value : Tried) (sent : List ℕ) → AreSent text values all
    → Sends text (parameters_of value) sent → AreSent text (values ++ value ∷ []) (all ++ sent ∷ [])
and_one text [] [] value sent are more = (more, refl)
and_one text [] (s ∷ all) value sent are more = absurd (cc)
and_one text (v ∷ values) [] value sent are more = absurd are
and_one text (v ∷ values) (s ∷ all) value sent are more = (are.0, and_one text values all value sent are.1 more)

pub sent_more : {B : Type 0} (text : List ℕ) (values : List Tried) (k : ℕ) (d : Tried) (old new : List (Vec ℕ B)) (sent : Vec ℕ B) → k < length values
    → AreSent text (take k values) (texts_of old) → Sends text (parameters_of (get_or values k d)) sent.items → new ≡ old ++ sent ∷ []
    → AreSent text (take (k + 1) values) (texts_of new)
sent_more {B} text values k d old new sent within are more next =
    let P : List Tried → Type 0 = λ vs. AreSent text vs (texts_of old ++ sent.items ∷ []) in
    let R : List (List ℕ) → Type 0 = λ all. AreSent text (take (k + 1) values) all in
    let S : List (Vec ℕ B) → Type 0 = λ l. R (texts_of l) in
    subst S (sym next) (subst R (sym (map-append (λ (t : Vec ℕ B). t.items) old (sent ∷ [])))
    (subst P (sym (take_more values k d within)) (and_one text (take k values) (texts_of old) (get_or values k d) sent.items are more)))

-- ---- an output in which no mark can start

abbrev pub is_dollar : ℕ → Bool
is_dollar byte = byte == letter (codes "$")

pub unmarked : (bytes : List ℕ) → list_any is_dollar bytes ≡ false → without_marks bytes ≡ bytes
unfolding pieces_from
unmarked [] none = refl
unmarked (byte ∷ rest) none = by (is_dollar byte) refl none (unmarked rest)
  where
    by : (b : Bool) → is_dollar byte ≡ b → (b || list_any is_dollar rest) ≡ false → (list_any is_dollar rest ≡ false → without_marks rest ≡ rest) → without_marks (byte ∷ rest) ≡ byte ∷ rest
    by true is any more = absurd (true≢false any)
    by false is any more = ap (flat_map literal_bytes) (pieces-literal byte rest (mark_at-plain byte rest is)) ∙ ap (λ l. byte ∷ l) (more any)
