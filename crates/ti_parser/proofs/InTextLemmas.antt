-- Receivers that take text as text, and others.
use Rattle.std.proofs.Common.{◌≡◌, ℕ, List, [], ◌∷◌, Bool, true, false, not, inl, inr, refl, sym, subst}
use Rattle.std.specs.Prelude.{if◌then◌else◌}
use Rattle.ti_parser.specs.Covers.{SendMore}
use Rattle.ti_parser.specs.Functions.{listed}
use Rattle.ti_parser.specs.Given.{is_data}
use Rattle.ti_parser.specs.Machine.{Step, after_text, quiet, step}
use Rattle.ti_parser.specs.Padding.{is_dollar}
use Rattle.ti_parser.specs.declared.function.Function.{Function}
use Rattle.ti_parser.specs.declared.padding.Front.TheVariants.{Text}
use Rattle.ti_parser.specs.declared.reading.Reception.{Reception}
use Rattle.ti_parser.specs.declared.receiver.Ahead.TheVariants.{Unknown}
use Rattle.ti_parser.specs.declared.receiver.Receiver.{Receiver}
use Rattle.ti_parser.specs.inner.Colors.{LeadBut}
use Rattle.ti_parser.specs.inner.Receivers.{CoverMore, Lead}
use Rattle.ti_parser.specs.inner.Texts.{IsInText, based, is_text_byte}
use Rattle.ti_parser.proofs.ColorLemmas.{but_all, lead_outside}
use Rattle.ti_parser.proofs.DigitLemmas.{front_holds, rest_holds}
use Rattle.ti_parser.proofs.SpreadLemmas.{text_step}

no_dollar : (b : Bool) → not b ≡ true → b ≡ false
no_dollar true e = absurd (cc)
no_dollar false e = refl

pub but_text : (r : Reception) (byte : ℕ) (k : Receiver) (others : List Receiver) (sent : List Function) (after : List Receiver) → is_text_byte byte ≡ true → IsInText k
    → CoverMore (based (record k { parser = after_text k.parser }) ∷ []) after → LeadBut r (byte ∷ []) (k ∷ []) others sent after
but_text r byte k others sent after h is c rest x g =
    let e : step r.reading k.parser byte ≡ quiet (after_text k.parser) = text_step r.reading k.parser byte is.text (front_holds (is_data byte) (not (is_dollar byte)) h) in
    let P : Step → Type 0 = λ s. CoverMore (record k { front = Text; ahead = Unknown; parser = s.configuration } ∷ []) after in
    let Q : Step → Type 0 = λ s. SendMore (listed s.output.ended) sent in
    let R : Step → Type 0 = λ s. SendMore (listed s.output.function) sent in
    inr (lead_outside r byte k sent after (no_dollar (is_dollar byte) (rest_holds (is_data byte) (not (is_dollar byte)) h)) is.front is.ahead (record {
      covers = subst P (sym e) c;
      ended = subst Q (sym e) (λ f a. absurd a);
      function = subst R (sym e) (λ f a. absurd a);
    }) rest x g)

-- a byte leads on from all, if it does from those that do not take it as text
pub lead_unless : (r : Reception) (byte : ℕ) (all others after more : List Receiver) (sent functions : List Function) (is : Bool) → is_text_byte byte ≡ is
    → (is_text_byte byte ≡ true → LeadBut r (byte ∷ []) all others sent after) → SendMore sent functions → CoverMore after more
    → Lead r (byte ∷ []) (if is then others else all) functions more → Lead r (byte ∷ []) all functions more
lead_unless r byte all others after more sent functions true e h s c g = but_all r (byte ∷ []) all others after more sent functions (h e) s c g
lead_unless r byte all others after more sent functions false e h s c g = g
