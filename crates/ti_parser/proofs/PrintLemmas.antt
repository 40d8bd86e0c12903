-- Where printed numbers lead.
use Rattle.std.proofs.Common.{◌≡◌, ◌≢◌, ℕ, List, [], ◌++◌, refl, sym, subst, ℤ, pos, negsuc, codes}
use Rattle.ti_cap.specs.declared.language.Conversion.{Conversion}
use Rattle.ti_cap.specs.declared.language.Conversion.TheVariants.{Signed, Text}
use Rattle.ti_cap.specs.declared.language.Format.{Format}
use Rattle.ti_expand.specs.Effect.{print_for}
use Rattle.ti_expand.specs.Printed.{print_of_number}
use Rattle.ti_expand.specs.State.{number_on}
use Rattle.ti_expand.specs.declared.values.Value.{Value}
use Rattle.ti_parser.specs.Covers.{SendMore}
use Rattle.ti_parser.specs.inner.Receivers.{CoverMore, Lead}
use Rattle.ti_parser.specs.inner.Forms.{plus_of, sign_of}
use Rattle.ti_parser.specs.declared.receiver.Receiver.{Receiver}
use Rattle.ti_parser.specs.declared.function.Function.{Function}
use Rattle.ti_parser.specs.declared.reading.Reception.{Reception}
use Rattle.ti_parser.proofs.FormLemmas.{NumberParts}
use Rattle.ti_parser.proofs.LeadLemmas.{lead_more, lead_then}

-- a sign or none
pub lead_sign : (r : Reception) (f : Format) (here positive negative both : List Receiver) (s t : List Function) → Lead r (plus_of f) here s positive → SendMore s t
    → Lead r (codes "-") here t negative → CoverMore positive both → CoverMore negative both → (n : ℤ) → Lead r (sign_of Signed f n) here t both
lead_sign r f here positive negative both s t p m g a b (pos n) = lead_more r (plus_of f) here positive both s t p m a
lead_sign r f here positive negative both s t p m g a b (negsuc n) = lead_more r (codes "-") here negative both t t g (λ x h. h) b

pub no_sign : (c : Conversion) (f : Format) (n : ℤ) → c ≢ Signed → sign_of c f n ≡ []
no_sign Signed f n h = absurd (h refl)
no_sign c f n h = refl

-- the parts of a number, one after the other
pub lead_number : (r : Reception) (c : Conversion) (f : Format) (n : ℤ) (text : List ℕ) (p : NumberParts c f n text) (start front signed number after : List Receiver) (s t u v : List Function)
    → Lead r p.before start s front → SendMore s t → Lead r (sign_of c f n) front t signed → SendMore t u → Lead r p.digits signed u number → SendMore u v → Lead r p.after number v after
    → Lead r text start v after
lead_number r c f n text p start front signed number after s t u v a st b tu d uv e =
    let P : List ℕ → Type 0 = λ x. Lead r x start v after in
    let rest : Lead r (p.digits ++ p.after) signed v after = lead_then r p.digits p.after signed number after u v d uv e in
    let more : Lead r (sign_of c f n ++ (p.digits ++ p.after)) front v after = lead_then r (sign_of c f n) (p.digits ++ p.after) front signed after t v b (λ x h. uv x (tu x h)) rest in
    subst P (sym p.joined) (lead_then r p.before (sign_of c f n ++ (p.digits ++ p.after)) start front after s v a (λ x h. uv x (tu x (st x h))) more)

pub print_numeric : (c : Conversion) (f : Format) (stack : List Value) → c ≢ Text → print_for c f stack ≡ print_of_number f (number_on stack)
print_numeric Text f stack h = absurd (h refl)
print_numeric c f stack h = refl
