-- What two files lead to.
use Rattle.std.proofs.Common.{◌≡◌, ◌∙◌, ◌==◌, ◌<◌, ℕ, Bool, true, false, true≢false, List, [], ◌∷◌, length, map, inl, inr, refl, ap, arith, subst, sym}
use Rattle.std.proofs.lemmas.Bool.{eqb-true}
use Rattle.std.specs.Prelude.{Option, Result, Ok, Err, IfOk, IfSome, MatchResult, unwrap_or}
use Rattle.ti_words.specs.Spelling.{Spells}
use Rattle.ti_words.specs.Value.{EntryValue}
use Rattle.ti_line.specs.declared.options.Comparison.{Comparison}
use Rattle.ti_line.specs.declared.options.Likeness.{Likeness}
use Rattle.ti_line.specs.declared.request.Pair.{Pair}
use Rattle.ti_tool.specs.declared.fault.ToolFault.TheVariants as fault
use Rattle.ti_line.specs.CommandLine.{is_minus}
use Rattle.ti_tool.specs.FaultLines.{fault_line}
use Rattle.ti_tool.specs.Streams.{KnownFiles, Stream, Streams}
use Rattle.ti_tool.specs.FileRuns.{Contents, Delivered, IsReadFrom, IsUnread, NoMemory, Supply, Unread}
use Rattle.ti_listing.specs.Differences.{DifferenceValue}
use Rattle.ti_tool.specs.Comparisons.{AreCompared, AreSupplied, IsCompared, IsComparison, IsRefusedFile, RanDifference, status_of}

-- the status of what is told
pub low_status : {X : Type 0} (value : X → DifferenceValue) (told : List X) (len : ℕ) → length told ≡ len → (len == 0) ≡ true → 0 ≡ status_of (map value told)
low_status value [] len is none = refl
low_status value (d ∷ ds) len is none = let empty = eqb-true len 0 none in absurd (omega (arith, empty, is))

pub high_status : {X : Type 0} (value : X → DifferenceValue) (told : List X) (len : ℕ) → length told ≡ len → (len == 0) ≡ false → 1 ≡ status_of (map value told)
high_status value [] len is some = absurd (true≢false (ap (λ n. n == 0) is ∙ some))
high_status value (d ∷ ds) len is some = refl

module _ (F : Type 0) (O : Type 0) (bytes line : O → List ℕ) (status : O → ℕ) (has_advice : Bool) (by : Likeness) (form : Comparison) (file other : List ℕ) where
  -- both are entries
  pub both_entries : (r : Result O F) (contents of_other : List ℕ) (v w : EntryValue) → Spells contents v → Spells of_other w → IfOk r (λ o. AreCompared by form v w (bytes o) (line o) (status o))
      → IfOk r (λ o. IsCompared has_advice by form file other contents of_other (bytes o) (line o) (status o))
  both_entries (Ok o) contents of_other v w spells spells_too led = inl (v, w, spells, spells_too, led)
  both_entries (Err e) contents of_other v w spells spells_too led = tt

  -- the other file is no entry
  pub other_refused : (r : Result O F) (contents of_other : List ℕ) (v : EntryValue) → Spells contents v → IfOk r (λ o. IsRefusedFile has_advice other of_other (bytes o) (line o) (status o))
      → IfOk r (λ o. IsCompared has_advice by form file other contents of_other (bytes o) (line o) (status o))
  other_refused (Ok o) contents of_other v spells refused = inr (inr ((v, spells), refused))
  other_refused (Err e) contents of_other v spells refused = tt

-- bytes are read as the contents of a file
abbrev Reads : KnownFiles → List ℕ → Stream → Stream → List ℕ → Type 0
Reads known name before after read = IsReadFrom (is_minus name) (known.contents name) before after read

-- what the two files hold, or that one is not read
module _ {F O : Type 0} (bytes line : O → List ℕ) (status : O → ℕ) (known : KnownFiles) (has_advice : Bool) (d : Pair) (left0 between left1 : Stream) where
  abbrev pub Led : Result O F → Type 0
  Led r = IfOk r (λ o. (one : Supply) × (two : Supply) × AreSupplied known d left0 left1 one two × IsComparison has_advice d.likeness d.form d.file.now d.other.now one two (bytes o) (line o) (status o))

  pub first_unread : (r : Result O F) → IfOk r (λ o. IsUnread d.file.now (bytes o) (line o) (status o)) → Led r
  first_unread (Ok o) unread = (Unread, Unread, (between, tt, tt), unread)
  first_unread (Err e) unread = tt

  pub other_unread : (r : Result O F) (contents : List ℕ) → Reads known d.file.now left0 between contents → IfOk r (λ o. IsUnread d.other.now (bytes o) (line o) (status o)) → Led r
  other_unread (Ok o) contents read unread = (Contents contents, Unread, (between, (refl, read), tt), unread)
  other_unread (Err e) contents read unread = tt

  pub both_read : (r : Result O F) (contents of_other one two : List ℕ) → Reads known d.file.now left0 between contents → Reads known d.other.now between left1 of_other → one ≡ contents → two ≡ of_other
      → IfOk r (λ o. IsCompared has_advice d.likeness d.form d.file.now d.other.now one two (bytes o) (line o) (status o)) → Led r
  both_read (Ok o) contents of_other one two read again is too compared = (
    Contents one,
    Contents two,
    (between, (refl, subst (Reads known d.file.now left0 between) (sym is) read), (refl, subst (Reads known d.other.now between left1) (sym too) again)),
    compared,
  )
  both_read (Err e) contents of_other one two read again is too compared = tt

-- what they led to is written
pub ran_difference : {F O : Type 0} (bytes line : O → List ℕ) (code : O → ℕ) (known : KnownFiles) (has_advice : Bool) (d : Pair) (before after : Streams) (outcome : Result O F) (answer : Option ℕ) (status : ℕ) (V : Type 0)
    → IfOk outcome (λ o. (one : Supply) × (two : Supply) × AreSupplied known d before.left after.left one two × IsComparison has_advice d.likeness d.form d.file.now d.other.now one two (bytes o) (line o) (code o))
    → MatchResult outcome (λ o. Delivered has_advice before.held after.held before.told after.told answer (bytes o) (line o) (code o)) (λ _. Delivered has_advice before.held after.held before.told after.told answer [] (fault_line fault.Memory) 6)
    → status ≡ unwrap_or answer 5 → IfSome answer (λ s. 1 < s → V) → RanDifference known has_advice d V before after status
ran_difference bytes line code known has_advice d before after (Ok o) answer status V (one, two, supplied, led) delivered is kept = (one, two, supplied, (bytes o, line o, code o, led, (answer, delivered, is, kept)))
ran_difference bytes line code known has_advice d before after (Err e) answer status V led delivered is kept =
    (NoMemory, NoMemory, (before.left, tt, tt), ([], fault_line fault.Memory, 6, (refl, refl, refl), (answer, delivered, is, kept)))
