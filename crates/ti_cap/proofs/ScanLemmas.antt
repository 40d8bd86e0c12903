-- What a scan keeps, by height and by size.
use Rattle.std.proofs.Common.{◌≡◌, ℕ, zero, suc, ◌+◌, ◌-◌, ◌<◌, ◌≤◌, max, refl, sym, ◌∙◌, ap, arith, List, [], ◌∷◌, length, take, get_or, map}
use Rattle.std.specs.Prelude.{reverse}
use Rattle.std.proofs.Math.Seq.{take-suc}
use Rattle.std.proofs.lemmas.List.{reverse-append, length-reverse, length-take, length-map}
use Rattle.ti_cap.specs.declared.language.Token.TheVariants.{CondClose}
use Rattle.ti_cap.specs.declared.extent.Extent.{Extent}
use Rattle.ti_cap.specs.declared.scan.OpenExtents.{OpenExtents}
use Rattle.ti_cap.specs.declared.scan.Scan.{Scan}
use Rattle.ti_cap.specs.inner.Analysis.{Frame, Findings, greatest_of, findings_after}
use Rattle.ti_cap.specs.inner.Scan.{greater_extent, greatest_end, height_frame, size_frame, innermost_first, findings_of}

-- the greatest size at the end is the greatest of the sizes
pub greatest_end_size : (opens : List OpenExtents) (e : Extent) → (greatest_end opens e).size ≡ greatest_of (map size_frame opens) e.size
greatest_end_size [] e = refl
greatest_end_size (o ∷ os) e = greatest_end_size os (greater_extent o.done (greater_extent o.failed e))

-- the innermost open conditional, and the others
innermost_first_more : (n : ℕ) (opens : List OpenExtents) (d : OpenExtents) → 0 < n → n ≤ length opens → innermost_first n opens ≡ get_or opens (n - 1) d ∷ innermost_first (n - 1) opens
innermost_first_more zero opens d some within = absurd (omega arith)
innermost_first_more (suc m) opens d some within =
    let e : suc m - 1 ≡ m = omega arith in
    let h : m < length opens = omega arith in
    rw e (ap reverse (take-suc opens m d h) ∙ reverse-append (take m opens) (get_or opens m d ∷ []))

-- what a scan has found while these conditionals are open
abbrev found_with : Scan → List OpenExtents → Findings
found_with s stack = record {
  heights = record { running = s.here.height; frames = map height_frame stack };
  sizes = record { running = s.here.size; frames = map size_frame stack };
  depth = s.depth;
  nest = s.nest;
}

abbrev found : List Frame → List Frame → ℕ → ℕ → ℕ → ℕ → Findings
found fs gs h z d n = record { heights = record { running = h; frames = fs }; sizes = record { running = z; frames = gs }; depth = d; nest = n }

same_found : {h h2 z z2 d d2 n n2 : ℕ} (fs gs : List Frame) → h ≡ h2 → z ≡ z2 → d ≡ d2 → n ≡ n2 → found fs gs h z d n ≡ found fs gs h2 z2 d2 n2
same_found fs gs p q r t = cc

-- the end of a conditional
pub found_closed : (s : Scan) (opens : List OpenExtents) (d : OpenExtents) (here : Extent) (depth : ℕ) → 0 < s.nesting → s.nesting ≤ s.nest → s.nesting ≤ length opens
    → here ≡ greater_extent (get_or opens (s.nesting - 1) d).done (greater_extent (get_or opens (s.nesting - 1) d).failed s.here) → depth ≡ max s.depth here.height
    → findings_of (record { here = here; depth = depth; nesting = s.nesting - 1; nest = s.nest }) opens ≡ findings_after 0 (findings_of s opens) CondClose
found_closed s opens d here depth some many within here_is depth_is =
    let o : OpenExtents = get_or opens (s.nesting - 1) d in
    let xs : List OpenExtents = innermost_first (s.nesting - 1) opens in
    let flat : s.here.height ≡ s.here.height - 0 + 0 = omega arith in
    let still : s.here.size ≡ s.here.size + 0 = omega arith in
    let height : here.height ≡ max o.done.height (max o.failed.height (s.here.height - 0 + 0)) = ap (λ e. e.height) here_is ∙ ap (λ y. max o.done.height (max o.failed.height y)) flat in
    let size : here.size ≡ max o.done.size (max o.failed.size (s.here.size + 0)) = ap (λ e. e.size) here_is ∙ ap (λ y. max o.done.size (max o.failed.size y)) still in
    let deep : depth ≡ max s.depth (max o.done.height (max o.failed.height (s.here.height - 0 + 0))) = depth_is ∙ ap (λ y. max s.depth y) height in
    let few : length (map height_frame xs) ≤ s.nest = omega (arith, length-map xs height_frame, length-reverse (take (s.nesting - 1) opens), length-take (s.nesting - 1) opens) in
    let nest : s.nest ≡ max s.nest (length (map height_frame xs)) = omega arith in
    same_found (map height_frame xs) (map size_frame xs) height size deep nest ∙ ap (λ stack. findings_after 0 (found_with s stack) CondClose) (sym (innermost_first_more s.nesting opens d some within))
