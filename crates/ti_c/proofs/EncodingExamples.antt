-- Worked rows of items that arrays of C hold, and of the faults of writing them.
use Rattle.std.proofs.Common.{◌≡◌, inr, pos, negsuc, [], ◌∷◌, refl, lit≤}
use Rattle.std.specs.Prelude.{codes}
use Rattle.ti_words.specs.declared.Flag.TheVariants as flags
use Rattle.ti_words.specs.declared.Number.TheVariants as numbers
use Rattle.ti_words.specs.declared.Width.TheVariants.{Legacy, Wide}
use Rattle.ti_words.specs.Texts.{CancelledText, TextOf}
use Rattle.ti_c.specs.Encoding.{flag_given, number_given, text_marked, width_given}
use Rattle.ti_c.specs.Words.{IsWord}

-- a boolean of another number than 0 and the marks, and a missing one
another_flag : flag_given (pos 7) ≡ flags.Yes
another_flag = refl

missing_flag : flag_given (negsuc 0) ≡ flags.Missing
missing_flag = refl

-- a number below -2
low_number : number_given (negsuc 2) ≡ numbers.Value (negsuc 2)
low_number = refl

-- a text that is there, and one that is cancelled, whatever bytes stand beside
there : text_marked (pos 0) (65 ∷ []) ≡ TextOf (65 ∷ [])
there = refl

cancelled : text_marked (negsuc 1) (65 ∷ []) ≡ CancelledText
cancelled = refl

wide : width_given 32 ≡ Wide
wide = refl

no_width : width_given 64 ≡ Legacy
no_width = refl

-- a fault of writing
nul_row : IsWord 502 (codes "NulInText")
nul_row = inr (inr (10, lit≤ tt, refl))
