-- The capability that writes a text sends it, so what it keeps to, the text does.
use Rattle.std.proofs.Common.{◌≡◌, ◌∙◌, ℕ, zero, suc, ℤ, pos, Bool, true, false, cond, List, [], ◌∷◌, ◌++◌, ap, append_assoc, arith, inl, inr, length, map, nat_eq, refl, replicate, subst, sym}
use Rattle.std.specs.Prelude.{codes, FitsSigned}
use Rattle.std.specs.Int.{w32}
use Rattle.std.specs.List.{AllByRecursion}
use Rattle.std.proofs.lemmas.Bool.Decides.{nat_tests}
use Rattle.std.proofs.lemmas.Int.{ints}
use Rattle.std.proofs.lemmas.List.{append-nil}
use Rattle.ti_allow.specs.Harmless.{IsHarmless, OnlyTable, OnlyTableAlways, OnlyTableIn, OnlyTableOf, PlainOnlyTable, first_character}
use Rattle.ti_allow.specs.Plain.{doubled, doubled_byte}
use Rattle.ti_allow.specs.declared.row.Row.{Row}
use Rattle.ti_cap.specs.Capability.{IsWellFormed}
use Rattle.ti_cap.specs.Spelling.{Spells, Writes, Written}
use Rattle.ti_cap.specs.Tree.{Sequence, Empty, Simple, Conditional, tokens}
use Rattle.ti_cap.proofs.WrittenLemmas.{one_cutting}
use Rattle.ti_cap.specs.declared.language.Token.{Token}
use Rattle.ti_cap.specs.declared.language.Token.TheVariants.{Byte}
use Rattle.ti_expand.specs.Effect.{effect}
use Rattle.ti_expand.specs.Meaning.{meaning}
use Rattle.ti_expand.specs.Sound.{AreVariables}
use Rattle.ti_expand.specs.State.{State, start}
use Rattle.ti_expand.specs.declared.values.Value.{Value}
use Rattle.ti_expand.specs.declared.values.Value.TheVariants.{Num}
use Rattle.ti_parser.specs.Given.{AreGiven}
use Rattle.ti_parser.specs.Machine.{ground, run}
use Rattle.ti_parser.specs.Padding.{without_marks}
use Rattle.ti_parser.specs.declared.padding.Marks.TheVariants.{Tputs, TiPad}
use Rattle.ti_parser.specs.declared.reading.Coding.{Coding}
use Rattle.ti_parser.specs.declared.reading.Coding.TheVariants.{Utf8, Utf8WithC1, Bytes}
use Rattle.ti_parser.specs.declared.reading.FirstCharacter.{FirstCharacter}
use Rattle.ti_parser.specs.declared.reading.FirstCharacter.TheVariants.{Any, Printable, Designator}
use Rattle.ti_parser.specs.declared.reading.Reading.{Reading}
use Rattle.ti_parser.specs.declared.reading.Reception.{Reception}
use Rattle.ti_parser.specs.declared.reading.Within.{Within}
use Rattle.ti_parser.specs.declared.reading.Within.TheVariants.{StartsAnew, GoesOn}

-- ---- the tokens of a text

abbrev bytes_of : List ℕ → List Token
bytes_of text = map (λ byte. Byte byte) text

same : (m n : ℕ) → nat_eq m n ≡ true → m ≡ n
same m n e = grind (arith, nat_tests)

spells_byte : (byte : ℕ) → Spells (Byte byte) (doubled_byte byte)
unfolding doubled_byte
spells_byte byte = by (nat_eq byte 37) refl
  where
    by : (b : Bool) → nat_eq byte 37 ≡ b → Spells (Byte byte) (cond b (byte ∷ byte ∷ []) (byte ∷ []))
    by true e = let is : byte ≡ 37 = same byte 37 e in inr (37 ∷ [], (is, refl), ap (λ n. n ∷ n ∷ []) is)
    by false e = inl (byte, refl, (λ is. absurd (grind (arith, nat_tests, e, is))), refl)

writes_doubled : (text : List ℕ) → Written (bytes_of text) (doubled text)
writes_doubled [] = refl
writes_doubled (byte ∷ text) = (doubled_byte byte, doubled text, spells_byte byte, writes_doubled text, refl)

-- a tree of these tokens writes the text
writes_text : (tree : Sequence) (text : List ℕ) (s : State) → tokens tree ≡ bytes_of text → (meaning tree s).output ≡ s.output ++ text
writes_text Empty [] s e = sym (append-nil s.output)
writes_text Empty (byte ∷ text) s e = absurd (cc)
writes_text (Simple t rest) [] s e = absurd (cc)
writes_text (Simple t rest) (byte ∷ text) s e =
    let is : t ≡ Byte byte = cc in
    let more : tokens rest ≡ bytes_of text = cc in
    writes_text rest text (effect t s) more ∙ ap (λ u. (effect u s).output ++ text) is ∙ append_assoc s.output (byte ∷ []) text
writes_text (Conditional arms closed rest) [] s e = absurd (cc)
writes_text (Conditional arms closed rest) (byte ∷ text) s e = absurd (cc)

-- ---- parameters of which it makes no use

zero_fits : FitsSigned w32 (pos 0)
zero_fits = omega (arith, ints)

all_zero : (k : ℕ) → AllByRecursion (λ n. FitsSigned w32 n) (replicate k (pos 0))
all_zero zero = tt
all_zero (suc k) = (zero_fits, all_zero k)

zeros : AreVariables (replicate 52 (pos 0))
zeros = record { count = refl; fit = all_zero 52 }

given : (first : FirstCharacter) → AreGiven first (Num (pos 48) ∷ [])
given Any = record { texts = (tt, tt); character = refl }
given Printable = record { texts = (tt, tt); character = refl }
given Designator = record { texts = (tt, tt); character = refl }

-- ---- so the text keeps to the table

sent : (rows : List Row) (name text : List ℕ) (r : Reception) → IsWellFormed (doubled text) → OnlyTable rows name r (doubled text)
    → IsHarmless rows name (run r.reading ground (without_marks r.marks text))
unfolding OnlyTable
sent rows name text r formed only =
    let tree = formed.tree in
    let writes = formed.writes in
    let s : State = start (replicate 52 (pos 0)) (Num (pos 48) ∷ []) in
    let output : (meaning tree s).output ≡ text =
    writes_text tree text s (one_cutting (tokens tree) (bytes_of text) (doubled text) writes.written (writes_doubled text)) in
    let P : List ℕ → Type 0 = λ l. IsHarmless rows name (run r.reading ground (without_marks r.marks l)) in
    subst P output (only tree writes (replicate 52 (pos 0)) (Num (pos 48) ∷ []) zeros (given r.first_character))

sent_in : (rows : List Row) (name text : List ℕ) (reading : Reading) → IsWellFormed (doubled text) → OnlyTableIn rows name reading (doubled text)
    → IsHarmless rows name (run reading ground (without_marks Tputs text)) × IsHarmless rows name (run reading ground (without_marks TiPad text))
unfolding OnlyTableIn
sent_in rows name text reading formed only = (sent rows name text _ formed only.0, sent rows name text _ formed only.1)

pub plain_only : (rows : List Row) (name text : List ℕ) → IsWellFormed (doubled text) → OnlyTableAlways rows name (doubled text)
    → PlainOnlyTable rows name text
unfolding OnlyTableAlways OnlyTableOf PlainOnlyTable
plain_only rows name text formed only reading = by reading.coding reading.within
  where
    by : (coding : Coding) (within : Within)
        → IsHarmless rows name (run (record { coding = coding; within = within }) ground (without_marks Tputs text))
        × IsHarmless rows name (run (record { coding = coding; within = within }) ground (without_marks TiPad text))
    by Utf8 StartsAnew = sent_in rows name text (record { coding = Utf8; within = StartsAnew }) formed only.0.0
    by Utf8 GoesOn = sent_in rows name text (record { coding = Utf8; within = GoesOn }) formed only.0.1
    by Utf8WithC1 StartsAnew = sent_in rows name text (record { coding = Utf8WithC1; within = StartsAnew }) formed only.1.0
    by Utf8WithC1 GoesOn = sent_in rows name text (record { coding = Utf8WithC1; within = GoesOn }) formed only.1.1
    by Bytes StartsAnew = sent_in rows name text (record { coding = Bytes; within = StartsAnew }) formed only.2.0
    by Bytes GoesOn = sent_in rows name text (record { coding = Bytes; within = GoesOn }) formed only.2.1
