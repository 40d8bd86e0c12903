-- Why bytes are no capability, and where.
use Rattle.std.specs.Prelude.{Bool, ◌≡◌, ◌≢◌, ℕ, suc, ◌<◌, ◌≤◌, ◌⊎◌, List, [], ◌∷◌, ◌++◌, length, take, drop, if◌then◌else◌, nat_eq, nat_le, ◌&&◌, ◌||◌, codes}
use Rattle.ti_base.specs.Letters.{letter}
use Rattle.ti_base.specs.Limits.{most_capability_bytes, most_open, most_values}
use Rattle.ti_cap.specs.declared.language.Token.{Token}
use Rattle.ti_cap.specs.declared.language.Token.TheVariants.{CondOpen, CondThen, CondElse, CondClose}
use Rattle.ti_cap.specs.declared.language.CapFault.{CapFault}
use Rattle.ti_cap.specs.declared.language.CapFault.TheVariants.{TooLong, CutShort, UnknownEscape, BadParameter, BadVariable, BadConstant, BadFormat, StrayThen, StrayElse, StrayEnd, NoThen, NestTooDeep, StackTooDeep}
use Rattle.ti_cap.specs.declared.language.CapRefused.{CapRefused}
use Rattle.ti_cap.specs.declared.scan.ConditionalPart.{ConditionalPart}
use Rattle.ti_cap.specs.declared.scan.ConditionalPart.TheVariants.{FirstTest, Body, Otherwise}
use Rattle.ti_cap.specs.Tree.{Sequence, IsTree, tokens}
use Rattle.ti_cap.specs.Path.{Walk, IsWalk, path_of}
use Rattle.ti_cap.specs.Height.{end_height}
use Rattle.ti_cap.specs.Spelling.{Spells, Written}

-- some tree's tokens begin with these
abbrev pub Begins : List Token → Type 0
Begins before = (tree : Sequence) × (after : List Token) × IsTree tree × (tokens tree ≡ before ++ after)

-- the parts of the open conditionals after a token, innermost first
abbrev pub next_parts : List ConditionalPart → Token → List ConditionalPart
next_parts parts CondOpen = FirstTest ∷ parts
next_parts (part ∷ parts) CondThen = Body ∷ parts
next_parts (part ∷ parts) CondElse = Otherwise ∷ parts
next_parts (part ∷ parts) CondClose = parts
next_parts parts token = parts

abbrev pub parts_from : List ConditionalPart → List Token → List ConditionalPart
parts_from parts [] = parts
parts_from parts (token ∷ before) = parts_from (next_parts parts token) before

abbrev pub open_parts : List Token → List ConditionalPart
open_parts before = parts_from [] before

abbrev pub IsInFirstTest : List ConditionalPart → Type 0
IsInFirstTest (FirstTest ∷ parts) = Unit {0}
IsInFirstTest _ = ⊥

-- a spelling of the token is next
abbrev pub IsNext : Token → List ℕ → Type 0
IsNext token rest = (s : List ℕ) × (tail : List ℕ) × Spells token s × (rest ≡ s ++ tail)

-- the rest is a spelling's front, but not the whole of it
abbrev pub IsCut : List ℕ → Type 0
IsCut rest = (token : Token) × (s : List ℕ) × (b : ℕ) × (more : List ℕ) × Spells token s × (s ≡ rest ++ b ∷ more)

-- the bytes with which a format starts, but for its conversion: a colon, a flag, a digit and a dot
abbrev pub opens_format : ℕ → Bool
opens_format c =
    nat_eq c (letter (codes ":")) || (nat_eq c (letter (codes "#")) || (nat_eq c (letter (codes " "))
    || (nat_eq c (letter (codes ".")) || (nat_le (letter (codes "0")) c && nat_le c (letter (codes "9"))))))

-- the fault of an escape that has no spelling, by the byte after its `%`
abbrev pub escape_fault : ℕ → CapFault
escape_fault c =
    if nat_eq c (letter (codes "p")) then BadParameter
    else if nat_eq c (letter (codes "P")) || nat_eq c (letter (codes "g")) then BadVariable
    else if nat_eq c (letter (codes "'")) || nat_eq c (letter (codes "{")) then BadConstant
    else if opens_format c then BadFormat
    else UnknownEscape

-- no spelling is next, and this is why
pub record IsUnreadable (rest : List ℕ) (fault : CapFault) : Type 0 where
  pub no_token : (token : Token) → ¬ IsNext token rest
  pub why : ((fault ≡ CutShort) × IsCut rest)
      ⊎ ((c : ℕ) × (tail : List ℕ) × (rest ≡ letter (codes "%") ∷ c ∷ tail) × ¬ IsCut rest × (fault ≡ escape_fault c))

-- the token is next, and no tree goes on with it
abbrev pub IsStray : Token → List Token → List ℕ → Type 0
IsStray token before rest = IsNext token rest × ¬ Begins (before ++ token ∷ [])

-- some walk of some tree meets the token after these, as the last of its path so far, and has this height after it
pub record Climbs (before : List Token) (token : Token) (height : ℕ) : Type 0 where
  pub tree : Sequence
  pub after : List Token
  pub walk : Walk
  pub formed : IsTree tree
  pub spans : tokens tree ≡ before ++ token ∷ after
  pub walked : IsWalk tree walk
  pub on_path : path_of walk (before ++ token ∷ []) ≡ path_of walk before ++ token ∷ []
  pub height_is : end_height 0 (path_of walk (before ++ token ∷ [])) ≡ height

-- each fault, with these tokens before it and this rest after it
abbrev pub IsFaultBetween : CapFault → List Token → List ℕ → Type 0
IsFaultBetween TooLong before rest = ⊥
IsFaultBetween StrayThen before rest = IsStray CondThen before rest
IsFaultBetween StrayElse before rest = IsStray CondElse before rest × ¬ IsInFirstTest (open_parts before)
IsFaultBetween StrayEnd before rest = IsStray CondClose before rest × (open_parts before ≡ [])
IsFaultBetween NoThen before rest =
    (IsStray CondElse before rest × IsInFirstTest (open_parts before))
    ⊎ ((IsStray CondClose before rest × (open_parts before ≢ []))
    ⊎ ((rest ≡ []) × ((tree : Sequence) → IsTree tree → tokens tree ≢ before)))
IsFaultBetween NestTooDeep before rest = IsNext CondOpen rest × (most_open ≤ length (open_parts before))
IsFaultBetween StackTooDeep before rest = (token : Token) × IsNext token rest × Climbs before token (suc most_values)
IsFaultBetween fault before rest = (rest ≢ []) × IsUnreadable rest fault

-- the fault stands at this place
pub record HasFault (bytes : List ℕ) (fault : CapFault) (place : ℕ) : Type 0 where
  pub before : List Token
  pub within : place ≤ length bytes
  pub written : Written before (take place bytes)
  pub begins : Begins before
  pub is : IsFaultBetween fault before (drop place bytes)

-- no fault stands before this place
abbrev pub IsSoundBelow : List ℕ → ℕ → Type 0
IsSoundBelow bytes place = (fault : CapFault) (q : ℕ) → q < place → ¬ HasFault bytes fault q

-- the refusal: too long, or else the fault at the least place
abbrev pub IsRefusal : List ℕ → CapRefused → Type 0
IsRefusal bytes r =
    ((most_capability_bytes < length bytes) × (r ≡ record { fault = TooLong; place = most_capability_bytes }))
    ⊎ ((length bytes ≤ most_capability_bytes) × HasFault bytes r.fault r.place × IsSoundBelow bytes r.place)

-- bytes with no fault
abbrev pub IsFaultless : List ℕ → Type 0
IsFaultless bytes = (length bytes ≤ most_capability_bytes) × ((fault : CapFault) (place : ℕ) → ¬ HasFault bytes fault place)
