-- How the analysis goes on with each token; proofs/ ties it to the paths of a tree.
use Rattle.std.specs.Prelude.{ℕ, ◌+◌, max, map, List, [], ◌∷◌, length, Option, Some, None, Bool, true, false, ◌||◌, nat_le, nat_lt, if◌then◌else◌, fold}
use Rattle.ti_base.specs.Limits.{most_open, most_values}
use Rattle.ti_cap.specs.declared.language.Token.{Token}
use Rattle.ti_cap.specs.declared.language.Token.TheVariants.{CondOpen, CondThen, CondElse, CondClose}
use Rattle.ti_cap.specs.declared.language.CapFault.{CapFault}
use Rattle.ti_cap.specs.declared.language.CapFault.TheVariants.{StrayThen, StrayElse, StrayEnd, NoThen, NestTooDeep, StackTooDeep}
use Rattle.ti_cap.specs.Sizes.{token_size}
use Rattle.ti_cap.specs.Height.{next_height}
use Rattle.ti_cap.specs.declared.scan.ConditionalPart.{ConditionalPart}
use Rattle.ti_cap.specs.declared.scan.ConditionalPart.TheVariants.{FirstTest, Body, Otherwise}

-- what waits in an open conditional: the greatest value with which its last test failed, if a body is being passed
-- through, and the greatest with which one of its bodies ended, if any did; otherwise 0
pub record Frame : Type 0 where
  pub part : ConditionalPart
  pub failed : ℕ
  pub done : ℕ

-- the greatest value with which a pass runs here, and what waits in the open conditionals, innermost first
pub record Progress : Type 0 where
  pub running : ℕ
  pub frames : List Frame

-- where a place lies in them
abbrev pub parts_of : List Frame → List ConditionalPart
parts_of frames = map (λ f. f.part) frames

-- ---- one token more; `after` is what it makes of the value that runs

abbrev pub progress_then : ℕ → List Frame → Progress
progress_then after [] = record { running = after; frames = [] }
progress_then after (f ∷ fs) = record { running = after; frames = record { part = Body; failed = after; done = f.done } ∷ fs }

abbrev pub progress_else : ℕ → List Frame → Progress
progress_else after [] = record { running = after; frames = [] }
progress_else after (f ∷ fs) =
    record { running = f.failed; frames = record { part = Otherwise; failed = 0; done = max f.done after } ∷ fs }

abbrev pub progress_close : ℕ → List Frame → Progress
progress_close after [] = record { running = after; frames = [] }
progress_close after (f ∷ fs) = record { running = max f.done (max f.failed after); frames = fs }

abbrev pub progress_open : ℕ → List Frame → Progress
progress_open after fs = record { running = after; frames = record { part = FirstTest; failed = 0; done = 0 } ∷ fs }

abbrev pub next_progress : Progress → Token → ℕ → Progress
next_progress s CondOpen after = progress_open after s.frames
next_progress s CondThen after = progress_then after s.frames
next_progress s CondElse after = progress_else after s.frames
next_progress s CondClose after = progress_close after s.frames
next_progress s token after = record { running = after; frames = s.frames }

-- the greatest of what runs and what waits
abbrev pub greatest_of : List Frame → ℕ → ℕ
greatest_of frames y = fold (λ z f. max f.done (max f.failed z)) y frames

-- whether some open conditional is in its first test
abbrev pub is_first : ConditionalPart → Bool
is_first FirstTest = true
is_first _ = false

abbrev pub are_in_test : List Frame → Bool
are_in_test frames = fold (λ found f. found || is_first f.part) false frames

-- ---- faults of a token by its place

abbrev pub then_fault : List ConditionalPart → Option CapFault
then_fault (FirstTest ∷ parts) = None
then_fault (Otherwise ∷ parts) = None
then_fault _ = Some StrayThen

abbrev pub else_fault : List ConditionalPart → Option CapFault
else_fault (Body ∷ parts) = None
else_fault (FirstTest ∷ parts) = Some NoThen
else_fault _ = Some StrayElse

abbrev pub close_fault : List ConditionalPart → Option CapFault
close_fault [] = Some StrayEnd
close_fault (FirstTest ∷ parts) = Some NoThen
close_fault _ = None

-- the fault of a token that may not stand in these parts
abbrev pub place_fault : Token → List ConditionalPart → Option CapFault
place_fault CondOpen parts = if nat_lt (length parts) most_open then None else Some NestTooDeep
place_fault CondThen parts = then_fault parts
place_fault CondElse parts = else_fault parts
place_fault CondClose parts = close_fault parts
place_fault token parts = None

-- ---- what parsing has found so far

pub record Findings : Type 0 where
  -- the heights of the stack
  pub heights : Progress
  -- the bytes written
  pub sizes : Progress
  pub depth : ℕ
  pub nest : ℕ

abbrev pub no_findings : Findings
no_findings = record { heights = record { running = 0; frames = [] }; sizes = record { running = 0; frames = [] }; depth = 0; nest = 0 }

-- one token more, if no text is longer than `longest`
abbrev pub findings_after : ℕ → Findings → Token → Findings
findings_after longest found token =
    let heights = next_progress found.heights token (next_height found.heights.running token) in
    record {
      heights = heights;
      sizes = next_progress found.sizes token (found.sizes.running + token_size longest token);
      depth = max found.depth heights.running;
      nest = max found.nest (length heights.frames);
    }

abbrev pub first_fault : Option CapFault → Option CapFault → Option CapFault
first_fault (Some fault) other = Some fault
first_fault None other = other

-- the fault of a token where parsing has come so far: by its place, or a height above the limit
abbrev pub fault_of : Findings → Token → Option CapFault
fault_of found token =
    first_fault (place_fault token (parts_of found.heights.frames))
    (if nat_le (next_height found.heights.running token) most_values then None else Some StackTooDeep)
