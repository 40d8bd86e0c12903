-- What is due for the text of a notation.
use Rattle.std.proofs.Common.{◌≡◌, ◌∙◌, ◌<◌, ◌≤◌, ℕ, Bool, true, false, List, Ok, Err, ap, cond, inr, length, refl, subst, sym}
use Rattle.std.specs.Prelude.{Result, MatchResult}
use Rattle.std.proofs.lemmas.Bool.{le-ltb, lt-ltb}
use Rattle.ti_escape.specs.Reading.{reading}
use Rattle.ti_escape.specs.declared.reading.NotationRefused.{NotationRefused}
use Rattle.ti_tool.specs.declared.fault.ToolFault.{ToolFault}
use Rattle.ti_tool.specs.declared.fault.ToolFault.TheVariants as fault
use Rattle.ti_tool.specs.Sources.{IsDueForSource, IsDueForText, most_notation_chars, notation_in, text_in_source, text_of, text_read, too_long}
use Rattle.ti_tool.specs.Calls.{FailsAsDue}
use Rattle.ti_tool.specs.Pasted.{has_name}

abbrev text_by : Bool → Result (List ℕ) NotationRefused → Result (List ℕ) ToolFault
text_by long read = cond long (Err (fault.Cap too_long)) (text_read read)

-- a notation of too many characters
pub long_text : (notation : List ℕ) → most_notation_chars < length notation → text_of notation ≡ Err (fault.Cap too_long)
long_text notation long = ap (λ b. text_by b (reading notation)) (lt-ltb most_notation_chars (length notation) long)

-- one that is read
pub short_text : (notation : List ℕ) (read : Result (List ℕ) NotationRefused) → length notation ≤ most_notation_chars → reading notation ≡ read → text_of notation ≡ text_read read
short_text notation read short is = ap (λ b. text_by b (reading notation)) (le-ltb most_notation_chars (length notation) short) ∙ ap text_read is

module _ (due : List ℕ → Result (List ℕ) ToolFault → Type 0) (input : List ℕ) where
  -- a fault of the notation is due
  source_due : (e : ToolFault) → text_in_source input ≡ Err e → FailsAsDue (IsDueForSource due input) e
  source_due e is =
      let Due : Result (List ℕ) ToolFault → Type 0 = λ text. IsDueForText due text (Err e) in
      inr (subst Due (sym is) refl)

  pub name_due : has_name input ≡ true → FailsAsDue (IsDueForSource due input) fault.HasName
  name_due named = source_due fault.HasName (ap (λ b. cond b (Err fault.HasName) (text_of (notation_in input))) named)

  alone : has_name input ≡ false → text_in_source input ≡ text_of (notation_in input)
  alone unnamed = ap (λ b. cond b (Err fault.HasName) (text_of (notation_in input))) unnamed

  pub fault_due : (e : ToolFault) → has_name input ≡ false → text_of (notation_in input) ≡ Err e → FailsAsDue (IsDueForSource due input) e
  fault_due e unnamed is = source_due e (alone unnamed ∙ is)

  -- what is due for the text is due for its notation
  pub text_due : {V : Type 0} (r : Result V ToolFault) (bytes_of : V → List ℕ) (text : List ℕ) → has_name input ≡ false → text_of (notation_in input) ≡ Ok text
      → MatchResult r (λ v. due text (Ok (bytes_of v))) (FailsAsDue (due text))
      → MatchResult r (λ v. IsDueForSource due input (Ok (bytes_of v))) (FailsAsDue (IsDueForSource due input))
  text_due {V} r bytes_of text unnamed is h =
      let Due : Result (List ℕ) ToolFault → Type 0 = λ read. MatchResult r (λ v. IsDueForText due read (Ok (bytes_of v))) (FailsAsDue (IsDueForText due read)) in
      subst Due (sym (alone unnamed ∙ is)) h
