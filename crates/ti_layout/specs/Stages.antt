-- Which checks are left at a stage of reading an entry, whose bytes are all there or still come.
-- Only the stage itself, and the view and the reader of `ti_entry`, cite this.
use Rattle.std.specs.Prelude.{◌≡◌, ℕ, ◌+◌, ◌-◌, ◌*◌, ◌<◌, ◌≤◌, Bool, true, false, List, if◌then◌else◌, ◌++◌, length, drop, get_or, nat_lt}
use Rattle.std.specs.List.{flat_map}
use Rattle.ti_base.specs.Limits.{most_entry_bytes}
use Rattle.ti_layout.specs.declared.fault.Fault.{Fault}
use Rattle.ti_layout.specs.declared.fault.Fault.TheVariants.{ExtendedTooBig, Trailing}
use Rattle.ti_layout.specs.declared.part.Part.{Part}
use Rattle.ti_layout.specs.declared.section.Half.TheVariants.{Standard, Extended}
use Rattle.ti_layout.specs.declared.section.SectionItem.TheVariants.{Flag}
use Rattle.ti_layout.specs.declared.section.SectionItems.{SectionItems}
use Rattle.ti_layout.specs.declared.section.Section.{Section}
use Rattle.ti_layout.specs.declared.section.Section.TheVariants.{Magic, Header, Names, Flags, Numbers, Offsets, NameOffsets, TableEnd, ExtendedHeader, End}
use Rattle.ti_layout.specs.declared.stage.Stage.{Stage}
use Rattle.ti_layout.specs.Layout.{standard, flags_end, end_of, extended_from, extended_after, no_capability, pad_end}
use Rattle.ti_layout.specs.Table.{names_base}
use Rattle.ti_layout.specs.Checks.{Check, Ends, verdict}
use Rattle.ti_layout.specs.Refusal.{item_size, items, items_checks, part_of, items_of, closing_checks, section_checks, sections, checks}

-- so many of the items, and those after them
abbrev pub first_items : ℕ → SectionItems → SectionItems
first_items n s = items s.item s.at n

abbrev pub items_after : ℕ → SectionItems → SectionItems
items_after n s = items s.item (s.at + item_size s.item * n) (s.left - n)

-- how many sections come before one
abbrev pub rank : Section → ℕ
rank Magic = 0
rank Header = 1
rank Names = 2
rank (Flags Standard) = 3
rank (Numbers Standard) = 4
rank (Offsets Standard) = 5
rank (NameOffsets Standard) = 6
rank TableEnd = 7
rank ExtendedHeader = 8
rank (Flags Extended) = 9
rank (Numbers Extended) = 10
rank (Offsets Extended) = 11
rank (NameOffsets Extended) = 12
rank End = 13

abbrev pub sections_after : Section → List Section
sections_after section = drop (rank section + 1) sections

abbrev pub next : Section → Section
next section = get_or sections (rank section + 1) End

-- ---- stages

-- the checks that are left at a stage
abbrev pub checks_left : List ℕ → Stage → List Check
checks_left bytes s =
    items_checks bytes s.items
    ++ (closing_checks s.section s.standard s.extended bytes ++ flat_map (section_checks bytes) (sections_after s.section))

-- the parts that are known in a section, and what the places of the extended names are counted from
abbrev pub standard_known : Section → List ℕ → Part
standard_known section bytes = if nat_lt (rank section) (rank Names) then no_capability else standard bytes

abbrev pub extended_known : Section → List ℕ → Part
extended_known section bytes =
    if nat_lt (rank section) (rank (Flags Extended)) then no_capability else extended_after (standard bytes) bytes

abbrev pub base_known : Section → List ℕ → ℕ
base_known section bytes =
    if nat_lt (rank section) (rank End) then 0 else names_base bytes (extended_after (standard bytes) bytes)

-- the bytes that the checks before a section have met, and the room that they have found
abbrev pub Reached : Section → ℕ → Part → Part → Type 0
Reached Magic len s x = 0 ≤ len
Reached Header len s x = 0 ≤ len
Reached TableEnd len s x = (14 ≤ s.flags_from) × (end_of s ≤ len)
Reached ExtendedHeader len s x = (14 ≤ s.flags_from) × (extended_from s + 10 ≤ most_entry_bytes)
Reached End len s x = (14 ≤ s.flags_from) × (end_of x ≤ len)
Reached _ len s x = 14 ≤ s.flags_from

-- A stage and bytes: what is left to check decides, and no section lies past the limit.
pub record StandsAt (bytes : List ℕ) (s : Stage) : Type 0 where
  pub decides : verdict (length bytes) (checks bytes) ≡ verdict (length bytes) (checks_left bytes s)
  pub standard : s.standard ≡ standard_known s.section bytes
  pub extended : s.extended ≡ extended_known s.section bytes
  pub base : s.base ≡ base_known s.section bytes
  pub left : s.items.left ≤ (items_of s.section s.standard s.extended).left
  pub within : s.items.at + item_size s.items.item * s.items.left ≤ most_entry_bytes
  pub fits : end_of s.standard ≤ most_entry_bytes
  pub extended_fits : end_of s.extended ≤ most_entry_bytes
  pub base_fits : s.base ≤ most_entry_bytes
  pub reached : Reached s.section (length bytes) s.standard s.extended

-- the checks before a stage have passed on the bytes, so on every continuation
abbrev pub Stands : List ℕ → Stage → Type 0
Stands bytes s = (more : List ℕ) → StandsAt (bytes ++ more) s

abbrev pub new_stage : Stage
new_stage = record {
  section = Magic;
  items = items Flag 0 0;
  standard = no_capability;
  extended = no_capability;
  base = 0;
}

-- the parts that are known after the last checks of a section, and the base of the names
abbrev pub standard_after : Section → Part → List ℕ → Part
standard_after Header s b = standard b
standard_after _ s b = s

abbrev pub extended_known_after : Section → Part → Part → List ℕ → Part
extended_known_after ExtendedHeader s x b = extended_after s b
extended_known_after _ s x b = x

abbrev pub base_after : Section → Part → Part → ℕ → List ℕ → ℕ
base_after (NameOffsets half) s x base b = names_base b (part_of half s x)
base_after _ s x base b = base

-- the stage after the checks that close a section
abbrev pub stage_after : Stage → List ℕ → Stage
stage_after s b = record s {
  standard = standard_after s.section s.standard b;
  extended = extended_known_after s.section s.standard s.extended b;
  base = base_after s.section s.standard s.extended s.base b;
}

-- the stage at the front of its section
abbrev pub at_front : Stage → Stage
at_front s = record s { items = items_of s.section s.standard s.extended }

-- the stage at the front of the next section
abbrev pub at_next_section : Stage → Stage
at_next_section s = record s { section = next s.section; items = items_of (next s.section) s.standard s.extended }

-- the bytes that the checks at the end of a section read
abbrev pub closing_end : Section → Part → Part → ℕ
closing_end Magic s x = 2
closing_end Header s x = 12
closing_end Names s x = s.flags_from
closing_end (Flags half) s x = pad_end (flags_end (part_of half s x))
closing_end (NameOffsets half) s x = end_of (part_of half s x)
closing_end TableEnd s x = end_of s + 1
closing_end ExtendedHeader s x = extended_from s + 10
closing_end End s x = end_of x + 1
closing_end _ s x = 0

-- the bytes without which the next check is not made: those up to the end of the next item, or of what
-- the checks after the items read
abbrev pub bytes_awaited : Stage → ℕ
bytes_awaited s =
    if nat_lt 0 s.items.left then s.items.at + item_size s.items.item
    else closing_end s.section s.standard s.extended

-- the bytes that came may be a whole entry
abbrev pub is_whole : Section → Bool
is_whole TableEnd = true
is_whole End = true
is_whole _ = false

-- the fault of a byte after an entry of the greatest length
abbrev pub fault_when_full : Section → Fault
fault_when_full TableEnd = ExtendedTooBig
fault_when_full _ = Trailing

-- the bytes that came decide no more checks than were made
pub record Waits (bytes : List ℕ) (s : Stage) : Type 0 where
  pub decides : verdict (length bytes) (checks bytes) ≡ Ends (is_whole s.section)
  pub short : length bytes < bytes_awaited s

-- the steps that are still to come, for the measure
abbrev pub steps_left : Stage → ℕ
steps_left s = (most_entry_bytes + 1) * length (sections_after s.section) + s.items.left
