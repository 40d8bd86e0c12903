-- Worked rows of the definitions: what an entry is in the arrays of C.
use Rattle.std.proofs.Common.{◌≡◌, pos, negsuc, [], ◌∷◌, refl}
use Rattle.ti_words.specs.declared.Flag.TheVariants as flags
use Rattle.ti_words.specs.declared.Number.TheVariants as numbers
use Rattle.ti_words.specs.declared.Width.TheVariants.{Legacy}
use Rattle.ti_words.specs.Texts.{AbsentText, CancelledText, TextOf}
use Rattle.ti_words.specs.Value.{EntryValue}
use Rattle.ti_words.specs.Spelling.{part_names}
use Rattle.ti_layout.specs.declared.fault.Fault.TheVariants as faults
use Rattle.ti_c.specs.Numbers.{entry_number}
use Rattle.ti_c.specs.Entries.{flag_marks, number_words, texts_shown}

-- the flags yes and cancelled, the numbers 80 and absent, the texts A, absent and cancelled; of its own the missing flag
-- F, the number N, 7, and the text S, of no byte
some_entry : EntryValue
some_entry = record {
  width = Legacy;
  names = 116 ∷ [];
  standard = record {
    flags = flags.Yes ∷ flags.Cancelled ∷ [];
    numbers = numbers.Value (pos 80) ∷ numbers.Absent ∷ [];
    texts = TextOf (65 ∷ []) ∷ AbsentText ∷ CancelledText ∷ [];
  };
  extended = record {
    flags = (70 ∷ [], flags.Missing) ∷ [];
    numbers = (78 ∷ [], numbers.Value (pos 7)) ∷ [];
    texts = (83 ∷ [], TextOf []) ∷ [];
  };
}

its_flags : flag_marks some_entry ≡ pos 1 ∷ negsuc 1 ∷ negsuc 0 ∷ []
unfolding some_entry
its_flags = refl

its_numbers : number_words some_entry ≡ pos 80 ∷ negsuc 0 ∷ pos 7 ∷ []
unfolding some_entry
its_numbers = refl

its_texts : texts_shown some_entry ≡ (pos 0, 65 ∷ []) ∷ (negsuc 0, []) ∷ (negsuc 1, []) ∷ (pos 0, []) ∷ []
unfolding some_entry
its_texts = refl

its_names : part_names some_entry.extended ≡ (70 ∷ []) ∷ (78 ∷ []) ∷ (83 ∷ []) ∷ []
unfolding some_entry
its_names = refl

first_fault : entry_number faults.Truncated ≡ 1
first_fault = refl

last_fault : entry_number faults.Trailing ≡ 14
last_fault = refl
