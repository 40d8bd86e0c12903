-- What is due for a file, and how it ends.
use Rattle.std.proofs.Common.{◌≡◌, ◌<◌, ℕ, Bool, true, false, List, [], arith, inr, refl, subst, sym}
use Rattle.std.specs.Prelude.{Result, Ok, Err, IfOk}
use Rattle.ti_words.specs.Spelling.{Spells}
use Rattle.ti_words.specs.Value.{EntryValue}
use Rattle.ti_tool.specs.declared.fault.ToolFault.{ToolFault}
use Rattle.ti_tool.specs.declared.fault.ToolFault.TheVariants as fault
use Rattle.ti_line.specs.declared.options.ListOptions.{ListOptions}
use Rattle.ti_line.specs.declared.request.EntryAction.{EntryAction}
use Rattle.ti_line.specs.declared.request.EntryAction.TheVariants as of_entry
use Rattle.ti_listing.specs.Listing.{entry_lines}
use Rattle.ti_tool.specs.Files.{IsDueOfFile, IsResultOfFile, before_findings, one_of_several}
use Rattle.ti_tool.specs.inner.Several.{IsDueOfSeveral}
use Rattle.ti_tool.specs.Results.{IsDueIn}
use Rattle.ti_tool.specs.Statuses.{status_for}

-- what is due for an entry, with the name of the file, is due for the bytes that spell it
pub due_of_file : (several : Bool) (action : EntryAction) (name : List ℕ) (passed : Bool) (contents : List ℕ) (v : EntryValue) (before plain out : List ℕ) → before ≡ before_findings several name
    → Spells contents v → IsDueIn before action passed contents v (Ok plain) → IsResultOfFile several action name plain out
    → IsDueOfFile several action name passed contents out
due_of_file several action name passed contents v before plain out named spells due is =
    (plain, inr (v, spells, subst (λ (b : List ℕ). IsDueIn b action passed contents v (Ok plain)) named due), is)

pub due_of_several : (action : EntryAction) (name : List ℕ) (passed : Bool) (contents : List ℕ) (v : EntryValue) (out : List ℕ)
    → Spells contents v → IsDueOfSeveral action name passed contents v out → IsDueOfFile true action name passed contents out
due_of_several action name passed contents v out spells (plain, due, is) = (plain, inr (v, spells, due), is)

-- a listing comes after the name of its file
pub due_of_listing : (action : EntryAction) (options : ListOptions) (name : List ℕ) (passed : Bool) (contents : List ℕ) (v : EntryValue) (out : List ℕ) → action ≡ of_entry.Show options
    → out ≡ one_of_several (of_entry.Show options) name (entry_lines options v) → IsDueOfSeveral action name passed contents v out
due_of_listing action options name passed contents v out is named =
    subst (λ (a : EntryAction). IsDueOfSeveral a name passed contents v out) (sym is) (entry_lines options v, refl, named)

-- a result that does not have the name of its file
abbrev pub is_nameless : EntryAction → Bool
is_nameless (of_entry.Expand e) = true
is_nameless (of_entry.Convert width) = true
is_nameless (of_entry.Get g) = true
is_nameless (of_entry.Trace t) = true
is_nameless _ = false

pub due_as_it_is : {F A : Type 0} (passed : A → Bool) (bytes : A → List ℕ) (r : Result A F) (action : EntryAction) (name contents : List ℕ) (v : EntryValue) → is_nameless action ≡ true
    → IfOk r (λ a. IsDueIn [] action (passed a) contents v (Ok (bytes a))) → IfOk r (λ a. IsDueOfSeveral action name (passed a) contents v (bytes a))
due_as_it_is passed bytes (Err f) action name contents v nameless due = tt
due_as_it_is passed bytes (Ok a) (of_entry.Expand e) name contents v nameless due = (bytes a, due, refl)
due_as_it_is passed bytes (Ok a) (of_entry.Convert width) name contents v nameless due = (bytes a, due, refl)
due_as_it_is passed bytes (Ok a) (of_entry.Get g) name contents v nameless due = (bytes a, due, refl)
due_as_it_is passed bytes (Ok a) (of_entry.Trace t) name contents v nameless due = (bytes a, due, refl)
due_as_it_is passed bytes (Ok a) action name contents v nameless due = absurd (cc (nameless))

-- a fault ends with a status above that of refused words
pub fault_is_high : (e : ToolFault) → 2 < status_for (Err e)
fault_is_high (fault.Entry refused) = omega arith
fault_is_high other = omega arith
