-- What a scan has found, by its counts and the open conditionals.
use Rattle.std.specs.Prelude.{ℕ, ◌≡◌, ◌+◌, ◌-◌, ◌≤◌, max, map, List, take, reverse, fold, Option}
use Rattle.ti_base.specs.Limits.{most_open}
use Rattle.ti_cap.specs.declared.extent.Extent.{Extent}
use Rattle.ti_cap.specs.declared.language.CapFault.{CapFault}
use Rattle.ti_cap.specs.declared.language.CapFault.TheVariants.{NestTooDeep}
use Rattle.ti_cap.specs.declared.language.Token.{Token}
use Rattle.ti_cap.specs.declared.scan.OpenExtents.{OpenExtents}
use Rattle.ti_cap.specs.declared.scan.Scan.{Scan}
use Rattle.ti_cap.specs.inner.Analysis.{Frame, Findings, findings_after, fault_of, greatest_of}

-- the greater height and the greater size
abbrev pub greater_extent : Extent → Extent → Extent
greater_extent w e = record { height = max w.height e.height; size = max w.size e.size }

abbrev pub height_frame : OpenExtents → Frame
height_frame o = record { part = o.part; failed = o.failed.height; done = o.done.height }

abbrev pub size_frame : OpenExtents → Frame
size_frame o = record { part = o.part; failed = o.failed.size; done = o.done.size }

-- the open conditionals, innermost first
abbrev pub innermost_first : ℕ → List OpenExtents → List OpenExtents
innermost_first n opens = reverse (take n opens)

abbrev pub findings_of : Scan → List OpenExtents → Findings
findings_of s opens = record {
  heights = record { running = s.here.height; frames = map height_frame (innermost_first s.nesting opens) };
  sizes = record { running = s.here.size; frames = map size_frame (innermost_first s.nesting opens) };
  depth = s.depth;
  nest = s.nest;
}

-- the fault of a token where a scan stands
abbrev pub fault_at : Scan → List OpenExtents → Token → Option CapFault
fault_at s opens token = fault_of (findings_of s opens) token

-- the token brings a scan from one place to another, if no text is longer than `longest`
abbrev pub Brings : ℕ → Token → Scan → List OpenExtents → Scan → List OpenExtents → Type 0
Brings longest token s opens next next_opens = findings_of next next_opens ≡ findings_after longest (findings_of s opens) token

-- the greatest of how far the paths have come and of what waits
abbrev pub greatest_end : List OpenExtents → Extent → Extent
greatest_end opens e = fold (λ here o. greater_extent o.done (greater_extent o.failed here)) e opens

-- the most bytes that a path writes, were this the end
abbrev pub greatest_size : Scan → List OpenExtents → ℕ
greatest_size s opens = greatest_of (map size_frame (innermost_first s.nesting opens)) s.here.size

-- the greatest counts are no less than those of here, and there is room for the open conditionals
pub record IsInOrder (room : ℕ) (s : Scan) : Type 0 where
  pub high : s.here.height ≤ s.depth
  pub many : s.nesting ≤ s.nest
  pub few : s.nest ≤ room

-- a fault that more room for open conditionals does not cure
abbrev pub IsSure : ℕ → CapFault → Type 0
IsSure room fault = fault ≡ NestTooDeep → room ≡ most_open

-- the counts after values are popped and bytes are written
abbrev pub after_write : Scan → ℕ → ℕ → Scan
after_write s popped size = record s {
  here = record { height = s.here.height - popped; size = s.here.size + size };
}

-- the counts after values are popped and one is pushed
abbrev pub after_push : Scan → ℕ → Scan
after_push s popped = record s {
  here = record s.here { height = s.here.height - popped + 1 };
  depth = max s.depth (s.here.height - popped + 1);
}
