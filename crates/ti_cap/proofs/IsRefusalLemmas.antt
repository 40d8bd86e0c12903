-- What has been read up to a place, one turn of parsing, and its ends.
use Rattle.std.proofs.Common.{◌≡◌, ◌≢◌, ℕ, suc, ◌+◌, ◌-◌, ◌<◌, ◌≤◌, ◌⊎◌, inl, inr, max, List, [], ◌∷◌, ◌++◌, length, take, drop, get_or, refl, sym, ◌∙◌, ap, subst, arith, Bool, true, false, cond, nat_eq, ◌||◌, length-append, drop-cons, Ok, Err, length-drop}
use Rattle.std.specs.Prelude.{Option, Some, None, nat_le, ◌^◌}
use Rattle.std.proofs.Math.Seq.{take-length, take-add}
use Rattle.std.proofs.lemmas.List.{take-append-le, take-append-drop, take_at, drop_all, length-take-le, get_or-drop, drop-drop, length-map}
use Rattle.ti_base.specs.Limits.{most_capability_bytes, most_open, most_values}
use Rattle.ti_cap.specs.declared.language.Token.{Token}
use Rattle.ti_cap.specs.declared.language.Token.TheVariants.{Compute, CondOpen, CondThen, CondElse, CondClose}
use Rattle.ti_cap.specs.declared.language.CapFault.{CapFault}
use Rattle.ti_cap.specs.declared.language.CapFault.TheVariants.{TooLong, CutShort, UnknownEscape, BadParameter, BadVariable, BadConstant, BadFormat, StrayThen, StrayElse, StrayEnd, NoThen, NestTooDeep, StackTooDeep}
use Rattle.ti_cap.specs.declared.language.CapRefused.{CapRefused}
use Rattle.ti_cap.specs.declared.limits.Limits.{Limits}
use Rattle.ti_cap.specs.Tree.{Sequence, IsTree, tokens}
use Rattle.ti_cap.specs.Height.{pushes, next_height, size, IsDepth, IsBound}
use Rattle.ti_cap.specs.Path.{path_of}
use Rattle.ti_cap.specs.declared.mode.Mode.{Mode}
use Rattle.ti_cap.specs.declared.mode.Mode.TheVariants.{Run}
use Rattle.ti_cap.specs.Pass.{next_mode}
use Rattle.ti_cap.specs.Spelling.{Spells, Written}
use Rattle.ti_cap.specs.inner.Lexer.{token_read}
use Rattle.ti_cap.specs.declared.scan.ConditionalPart.{ConditionalPart}
use Rattle.ti_cap.specs.Refusal.{Begins, Climbs, open_parts, IsNext, IsFaultBetween, IsUnreadable, IsSoundBelow, HasFault, escape_fault, IsRefusal, IsFaultless, opens_format}
use Rattle.ti_cap.specs.inner.Analysis.{Frame, Progress, parts_of, are_in_test, place_fault, next_progress, greatest_of, Findings, no_findings, findings_after, first_fault, fault_of}
use Rattle.ti_cap.specs.Capability.{IsCapability}
use Rattle.ti_cap.proofs.SpellsLemmas.{Front, token_sound, AreBytes}
use Rattle.ti_cap.proofs.IsUnreadableLemmas.{unreadable}
use Rattle.ti_cap.proofs.WrittenLemmas.{Same, one_form, one_cutting, cut_once, spelled_long, written-append, written_one}
use Rattle.ti_cap.proofs.PartsLemmas.{allowed, Leads, leads-append, AreSettled}
use Rattle.ti_cap.proofs.BeginsLemmas.{Context, context_start, context_step, context_begins, context_ends}
use Rattle.ti_cap.proofs.ReachesLemmas.{is_met, passed_by, Came, came_from, reaches_on}
use Rattle.ti_cap.proofs.ProgressLemmas.{Comes, Certain, IsBest, Sums, sums_start}
use Rattle.ti_cap.proofs.IsGreatestLemmas.{Peaks, peak, value-le, peaks_start, peaks_step, greatest_value, height_rising, height_flat}
use Rattle.ti_cap.proofs.IsGreatestLemmas
use Rattle.ti_cap.proofs.ClimbsLemmas.{climbs_low, climbs_now}
use Rattle.ti_cap.proofs.NextProgressLemmas.{IsStill, Moves, sums_move}
use Rattle.ti_cap.proofs.NestLemmas.{below-le, levels, levels-snoc, level_after, end_level, end-level-le, allowed_level, leads_level, level_tree}
use Rattle.ti_cap.proofs.PlaceFaultLemmas.{leads_open, goes_on, has_room, misplaced_fault, settled, settled_by, unsettled_by}
use Rattle.ti_cap.proofs.SizesLemmas.{size_act, size_rising, size_still, value-size, value_is}

-- a place within the next spelling, where other tokens end
inside : (bytes : List ℕ) (place : ℕ) (before : List Token) (token : Token) (s tail : List ℕ) → Written before (take place bytes)
    → drop place bytes ≡ s ++ tail → Spells token s → (q : ℕ) (others : List Token) → place ≤ q → q < place + length s
    → Written others (take q bytes) → (q ≡ place) × (others ≡ before)
inside bytes place before token s tail written rest spelled q others low high w =
    let b : ℕ = q - place in
    let sum : q ≡ place + b = omega arith in
    let split : take q bytes ≡ take place bytes ++ take b s =
    ap (λ x. take x bytes) sum ∙ take-add place b bytes ∙ ap (λ x. take place bytes ++ take b x) rest
    ∙ ap (λ x. take place bytes ++ x) (take-append-le b s tail (omega arith)) in
    let whole : s ≡ take b s ++ get_or s b 0 ∷ drop (suc b) s =
    sym (take-append-drop b s) ∙ ap (λ x. take b s ++ x) (drop-cons s b 0 (omega arith)) in
    let P : List ℕ → Type 0 = λ x. Written others x in
    let S : List ℕ → Type 0 = λ x. Spells token x in
    let r : (take b s ≡ []) × (others ≡ before) = cut_once before others (take place bytes) (take b s) (drop (suc b) s) (get_or s b 0) token written (subst P split w) (subst S whole spelled) in
    (omega (arith, ap length r.0, length-take-le b s (omega arith)), r.1)

-- no fault before a place, none at it: none up to the end of the next spelling
sound_step : (bytes : List ℕ) (place : ℕ) (before : List Token) (token : Token) (s tail : List ℕ) → Written before (take place bytes)
    → drop place bytes ≡ s ++ tail → Spells token s → IsSoundBelow bytes place
    → ((f : CapFault) → ¬ IsFaultBetween f before (drop place bytes)) → IsSoundBelow bytes (place + length s)
sound_step bytes place before token s tail written rest spelled sound fine f q high has =
    elim (which q place) [
      | inl lt ↦ sound f q lt has
      | inr le ↦
          let r : (q ≡ place) × (has.before ≡ before) = inside bytes place before token s tail written rest spelled q has.before le high has.written in
          fine f (let P : ℕ → Type 0 = λ x. IsFaultBetween f before (drop x bytes) in subst P r.0 (let Q : List Token → Type 0 = λ x. IsFaultBetween f x (drop q bytes) in subst Q r.1 has.is))
    ]
  where
    which : (q place : ℕ) → (q < place) ⊎ (place ≤ q)
    which q place = grind arith

-- a token that is next is the one
is_next : (rest s tail : List ℕ) (k l : Token) → rest ≡ s ++ tail → Spells k s → IsNext l rest → l ≡ k
is_next rest s tail k l e p (u, more, q, f) =
    let r : Same l k u s more tail = one_form l k u s more tail q p (sym f ∙ e) in r.token

nothing_next : (k : Token) → ¬ IsNext k []
nothing_next k (s, tail, p, e) = omega (arith, ap length e, length-append s tail, spelled_long k s p)

-- nothing is at fault if a token is next that may stand, nests no deeper and climbs no higher than the limits
fine_step : (before : List Token) (rest s tail : List ℕ) (k : Token) (d : ℕ) → Begins (before ++ k ∷ []) → (k ≡ CondOpen → length (open_parts before) < most_open)
    → Peaks next_height (before ++ k ∷ []) d → d ≤ most_values → rest ≡ s ++ tail → Spells k s → (f : CapFault) → ¬ IsFaultBetween f before rest
fine_step before rest s tail k d begins room peaks low e p f = each f
  where
    not_stray : (l : Token) → IsNext l rest → ¬ Begins (before ++ l ∷ []) → ⊥
    not_stray l n h = let is : l ≡ k = is_next rest s tail k l e p n in let P : Token → Type 0 = λ x. ¬ Begins (before ++ x ∷ []) in subst P is h begins

    each : (f : CapFault) → ¬ IsFaultBetween f before rest
    each TooLong h = h
    each StrayThen h = not_stray CondThen h.0 h.1
    each StrayElse h = not_stray CondElse h.0.0 h.0.1
    each StrayEnd h = not_stray CondClose h.0.0 h.0.1
    each NoThen (inl h) = not_stray CondElse h.0.0 h.0.1
    each NoThen (inr (inl h)) = not_stray CondClose h.0.0 h.0.1
    each NoThen (inr (inr h)) = let n : 0 < length s = spelled_long k s p in omega (arith, ap length (sym e ∙ h.0), length-append s tail)
    each NestTooDeep h =
        let is : CondOpen ≡ k = is_next rest s tail k CondOpen e p h.0 in
        let r : length (open_parts before) < most_open = room (sym is) in
        omega (arith, h.1)
    each StackTooDeep (l, next, climbs) =
        let is : l ≡ k = is_next rest s tail k l e p next in
        let P : Token → Type 0 = λ x. Climbs before x (suc most_values) in
        let top : suc most_values ≤ d = climbs_low before k (suc most_values) d peaks (subst P is climbs) in
        omega arith
    each _ h = h.1.no_token k (s, tail, p, e)

-- what has been read up to a place
pub record Parsed (bytes : List ℕ) (longest place count : ℕ) (found : Findings) : Type 0 where
  pub before : List Token
  pub parts : List ConditionalPart
  pub within : place ≤ length bytes
  pub written : Written before (take place bytes)
  pub counted : length before ≡ count
  pub sound : IsSoundBelow bytes place
  pub context : Context before parts
  pub leads : Leads [] before parts
  pub stands : parts_of found.heights.frames ≡ parts
  pub alike : parts_of found.sizes.frames ≡ parts
  pub heights : Sums next_height before found.heights
  pub sizes : Sums (size_act longest) before found.sizes
  pub peaks : Peaks next_height before found.depth
  pub low : found.depth ≤ most_values
  pub nested : levels 0 before ≡ found.nest
  pub few : found.nest ≤ most_open

pub are_bytes : (xs : List ℕ) → ((i : ℕ) → get_or xs i 0 < 256) → AreBytes xs
are_bytes [] h = tt
are_bytes (x ∷ xs) h = (h 0, are_bytes xs (λ i. h (suc i)))

pub parse_start : (bytes : List ℕ) (longest place : ℕ) → place ≡ 0 → Parsed bytes longest place 0 no_findings
parse_start bytes longest place start = record {
  before = [];
  parts = [];
  within = omega arith;
  written = ap (λ n. take n bytes) start;
  counted = refl;
  sound = λ f q h. absurd (omega arith);
  context = context_start;
  leads = refl;
  stands = refl;
  alike = refl;
  heights = sums_start next_height;
  sizes = sums_start (size_act longest);
  peaks = peaks_start next_height;
  low = omega arith;
  nested = refl;
  few = omega arith;
}

-- ---- what the values that are kept say of the numbers

-- a value that comes is at most the depth
comes_low : (before : List Token) (m : Mode) (x d : ℕ) → Peaks next_height before d → Comes next_height before m x → x ≤ d
comes_low before m x d p c = omega (arith, c.value, p.above_all m c.walk c.passes, value-le next_height 0 (path_of c.walk before))

running_low : (before : List Token) (s : Progress) (d : ℕ) → Peaks next_height before d → Sums next_height before s → s.running ≤ d
running_low before s d p sums = let h : IsBest next_height before Run Certain s.running = sums Run in comes_low before Run s.running d p h.1

height_still : IsStill next_height
height_still = ((λ x. omega arith), (λ x. omega arith))

-- a `%e` or `%;` climbs no higher than before
mark_low : (before : List Token) (k : Token) (s : Progress) (d : ℕ) → ((x : ℕ) → next_height x k ≡ x) → Peaks next_height before d → Sums next_height (before ++ k ∷ []) s → s.running ≤ d
mark_low before k s d still p sums =
    let h : IsBest next_height (before ++ k ∷ []) Run Certain s.running = sums Run in
    let r : Came next_height (Comes next_height before) k Run s.running = came_from next_height 0 before k Run s.running h.1 in
    let same : passed_by next_height r.source k r.fails r.old ≡ r.old = either (is_met r.source k r.fails) in
    omega (arith, comes_low before r.source r.old d p r.comes, r.gives)
  where
    pick : (b : Bool) (x y : ℕ) → y ≡ x → cond b y x ≡ x
    pick true x y e = e
    pick false x y e = refl

    either : (b : Bool) {x : ℕ} → cond b (next_height x k) x ≡ x
    either b {x} = pick b x (next_height x k) (still x)

progress_low : (before : List Token) (s : Progress) (k : Token) (d : ℕ) → Peaks next_height before d → d ≤ most_values → next_height s.running k ≤ most_values
    → Sums next_height (before ++ k ∷ []) (next_progress s k (next_height s.running k)) → (next_progress s k (next_height s.running k)).running ≤ most_values
progress_low before s CondThen d p low high sums = by_frames s.frames
  where
    by_frames : (fs : List Frame) → (next_progress (record { running = s.running; frames = fs }) CondThen (next_height s.running CondThen)).running ≤ most_values
    by_frames [] = high
    by_frames (f ∷ fs) = high
progress_low before s CondElse d p low high sums = omega (arith, mark_low before CondElse (next_progress s CondElse (next_height s.running CondElse)) d height_still.0 p sums)
progress_low before s CondClose d p low high sums = omega (arith, mark_low before CondClose (next_progress s CondClose (next_height s.running CondClose)) d height_still.1 p sums)
progress_low before s k d p low high sums = high

pub parsed_low : (bytes : List ℕ) (longest place count : ℕ) (found : Findings) → Parsed bytes longest place count found → found.heights.running ≤ most_values
parsed_low bytes longest place count found p = omega (arith, running_low p.before found.heights found.depth p.peaks p.heights, p.low)

-- the greatest size is far from the greatest number
pub parsed_small : (bytes : List ℕ) (longest place count : ℕ) (found : Findings) → longest < 2 ^ 16 → length bytes ≤ most_capability_bytes → Parsed bytes longest place count found → found.sizes.running < 2 ^ 31
parsed_small bytes longest place count found h short p =
    let b : IsBest (size_act longest) p.before Run Certain found.sizes.running = p.sizes Run in
    omega (arith, value-size longest p.before (take place bytes) b.1.walk h p.written, b.1.value, length-take-le place bytes p.within, p.within)

-- no more tokens than bytes
pub parsed_few : (bytes : List ℕ) (longest place count : ℕ) (found : Findings) → Parsed bytes longest place count found → count ≤ length bytes
parsed_few bytes longest place count found p = omega (arith, written_few p.before (take place bytes) p.written, p.counted, length-take-le place bytes p.within, p.within)
  where
    written_few : (ks : List Token) (s : List ℕ) → Written ks s → length ks ≤ length s
    written_few [] s w = omega arith
    written_few (k ∷ ks) s (u, tail, q, w, e) = omega (arith, written_few ks tail w, spelled_long k u q, ap length e, length-append u tail)

-- ---- one token more

-- what no fault says
pub record IsFine (found : Findings) (k : Token) : Type 0 where
  pub placed : place_fault k (parts_of found.heights.frames) ≡ None
  pub low : next_height found.heights.running k ≤ most_values

fine : (found : Findings) (k : Token) → fault_of found k ≡ None → IsFine found k
fine found k e = record { placed = first _ _ e; low = by (nat_le (next_height found.heights.running k) most_values) refl (second _ _ e) }
  where
    first : (a b : Option CapFault) → first_fault a b ≡ None → a ≡ None
    first None b e = refl
    first (Some f) b e = absurd (cc)

    second : (a b : Option CapFault) → first_fault a b ≡ None → b ≡ None
    second None b e = e
    second (Some f) b e = absurd (cc)

    by : (b : Bool) → nat_le (next_height found.heights.running k) most_values ≡ b → cond b None (Some StackTooDeep) ≡ None → next_height found.heights.running k ≤ most_values
    by true t e = grind arith
    by false t e = absurd (cc)

pub record Stepped (bytes : List ℕ) (longest place count n : ℕ) (found : Findings) : Type 0 where
  pub parsed : Parsed bytes longest (place + n) (count + 1) found
  pub within : place + n ≤ length bytes
  pub further : 0 < n

pub parse_step : (bytes : List ℕ) (longest place count : ℕ) (found : Findings) (k : Token) (n : ℕ) → ((i : ℕ) → get_or bytes i 0 < 256) → Parsed bytes longest place count found
    → token_read (drop place bytes) ≡ Ok (k, n) → fault_of found k ≡ None → Stepped bytes longest place count n (findings_after longest found k)
parse_step bytes longest place count found k n fits p e none =
    let f : Front (drop place bytes) k n = token_sound (drop place bytes) k n (are_bytes (drop place bytes) (λ i. rw get_or-drop (fits (place + i)))) e in
    let ok : IsFine found k = fine found k none in
    let P : List ConditionalPart → Type 0 = λ x. place_fault k x ≡ None in
    let placed : place_fault k p.parts ≡ None = subst P p.stands ok.placed in
    let go : (qs : List ConditionalPart) × (allowed k p.parts ≡ Some qs) = goes_on k p.parts placed in
    let context : Context (p.before ++ k ∷ []) go.0 = context_step p.before p.parts go.0 k p.context go.1 in
    let leads : Leads [] (p.before ++ k ∷ []) go.0 = leads-append [] p.parts go.0 p.before (k ∷ []) p.leads (go.0, go.1, refl) in
    let h : Moves next_height p.before k (next_progress found.heights k (next_height found.heights.running k)) go.0 =
    sums_move next_height p.before found.heights k go.0 height_rising height_still (ap (λ x. allowed k x) p.stands ∙ go.1) p.heights in
    let z : Moves (size_act longest) p.before k (next_progress found.sizes k (size_act longest found.sizes.running k)) go.0 =
    sums_move (size_act longest) p.before found.sizes k go.0 (size_rising longest) (size_still longest) (ap (λ x. allowed k x) p.alike ∙ go.1) p.sizes in
    let deep : Peaks next_height (p.before ++ k ∷ []) (max found.depth (next_progress found.heights k (next_height found.heights.running k)).running) =
    peaks_step next_height p.before k found.depth (next_progress found.heights k (next_height found.heights.running k)) height_flat p.peaks h.sums in
    let now : (next_progress found.heights k (next_height found.heights.running k)).running ≤ most_values = progress_low p.before found.heights k found.depth p.peaks p.low ok.low h.sums in
    let low : max found.depth (next_progress found.heights k (next_height found.heights.running k)).running ≤ most_values = omega (arith, p.low, now) in
    let long : place + n ≤ length bytes = omega (arith, f.long, ap length f.splits, length-append f.spelling f.tail, length-drop place bytes, p.within) in
    let open_now : length (next_progress found.heights k (next_height found.heights.running k)).frames ≡ length go.0 = sym (length-map _ _) ∙ ap length h.stands in
    let level : levels 0 (p.before ++ k ∷ []) ≡ max found.nest (length (next_progress found.heights k (next_height found.heights.running k)).frames) =
    levels-snoc 0 p.before k ∙ ap (λ x. max x (level_after (end_level 0 p.before) k)) p.nested ∙ ap (λ x. max found.nest x) (ap (λ x. level_after x k) (leads_level [] p.parts p.before p.leads) ∙ allowed_level k p.parts go.0 go.1 ∙ sym open_now) in
    let few : length go.0 ≤ most_open = few_open k p.parts go.0 placed go.1 (omega (arith, leads_level [] p.parts p.before p.leads, end-level-le 0 p.before, p.nested, p.few)) in
    record {
      parsed = record {
        before = p.before ++ k ∷ [];
        parts = go.0;
        within = long;
        written =
            let W : List ℕ → Type 0 = λ x. Written (p.before ++ k ∷ []) x in
            subst W (sym (take-add place n bytes ∙ ap (λ x. take place bytes ++ x) (ap (λ x. take n x) f.splits ∙ take_at f.spelling f.tail n (sym f.long))))
            (written-append p.before (k ∷ []) (take place bytes) f.spelling p.written (written_one k f.spelling f.spells));
        counted = length-append p.before (k ∷ []) ∙ ap (λ x. x + 1) p.counted;
        sound = let S : ℕ → Type 0 = λ x. IsSoundBelow bytes (place + x) in
            subst S (sym f.long) (sound_step bytes place p.before k f.spelling f.tail p.written f.splits f.spells p.sound
            (fine_step p.before (drop place bytes) f.spelling f.tail k _ (context_begins _ _ context) (room placed) deep low f.splits f.spells));
        context = context;
        leads = leads;
        stands = h.stands;
        alike = z.stands;
        heights = h.sums;
        sizes = z.sums;
        peaks = deep;
        low = low;
        nested = level;
        few = omega (arith, p.few, few, open_now);
      };
      within = long;
      further = omega (arith, f.long, spelled_long k f.spelling f.spells);
    }
  where
    room : place_fault k p.parts ≡ None → k ≡ CondOpen → length (open_parts p.before) < most_open
    room placed is =
        let P : Token → Type 0 = λ x. place_fault x p.parts ≡ None in
        let r : length p.parts < most_open = has_room p.parts (subst P is placed) in
        omega (arith, ap length (leads_open p.parts p.before p.leads))

    few_open : (k : Token) (ps qs : List ConditionalPart) → place_fault k ps ≡ None → allowed k ps ≡ Some qs → length ps ≤ most_open → length qs ≤ most_open
    few_open CondOpen ps qs placed e few = omega (arith, has_room ps placed, allowed_level CondOpen ps qs e)
    few_open CondThen ps qs placed e few = omega (arith, allowed_level CondThen ps qs e)
    few_open CondElse ps qs placed e few = omega (arith, allowed_level CondElse ps qs e)
    few_open CondClose ps qs placed e few = omega (arith, allowed_level CondClose ps qs e, below-le (length ps))
    few_open j ps qs placed e few = omega (arith, allowed_level j ps qs e)

pushes-le : (k : Token) → pushes k ≤ 1
pushes-le (Compute op) = omega arith
pushes-le _ = omega arith

-- a fault of spelling
abbrev IsMisspelling : CapFault → Type 0
IsMisspelling CutShort = Unit {0}
IsMisspelling UnknownEscape = Unit {0}
IsMisspelling BadParameter = Unit {0}
IsMisspelling BadVariable = Unit {0}
IsMisspelling BadConstant = Unit {0}
IsMisspelling BadFormat = Unit {0}
IsMisspelling _ = ⊥

choice : (b : Bool) (f g : CapFault) → IsMisspelling f → IsMisspelling g → IsMisspelling (cond b f g)
choice true f g p q = p
choice false f g p q = q

escape_misspelled : (c : ℕ) → IsMisspelling (escape_fault c)
escape_misspelled c =
    choice (nat_eq c 112) _ _ tt (choice (nat_eq c 80 || nat_eq c 103) _ _ tt (choice (nat_eq c 39 || nat_eq c 123) _ _ tt
    (choice (opens_format c) _ _ tt tt)))

misspelled : (rest : List ℕ) (f : CapFault) → IsUnreadable rest f → IsMisspelling f
misspelled rest f u = elim u.why [
  | inl h ↦ let P : CapFault → Type 0 = λ x. IsMisspelling x in subst P (sym h.0) tt
  | inr h ↦ let P : CapFault → Type 0 = λ x. IsMisspelling x in subst P (sym h.4) (escape_misspelled h.0)
]

misspelled_fault : (f : CapFault) (before : List Token) (rest : List ℕ) → IsMisspelling f → rest ≢ [] → IsUnreadable rest f → IsFaultBetween f before rest
misspelled_fault CutShort before rest h some u = (some, u)
misspelled_fault UnknownEscape before rest h some u = (some, u)
misspelled_fault BadParameter before rest h some u = (some, u)
misspelled_fault BadVariable before rest h some u = (some, u)
misspelled_fault BadConstant before rest h some u = (some, u)
misspelled_fault BadFormat before rest h some u = (some, u)
misspelled_fault _ before rest h some u = absurd h

unreadable_fault : (f : CapFault) (before : List Token) (rest : List ℕ) → rest ≢ [] → IsUnreadable rest f → IsFaultBetween f before rest
unreadable_fault f before rest some u = misspelled_fault f before rest (misspelled rest f u) some u

-- ---- refusals

-- nothing is read
pub parse_fault : (bytes : List ℕ) (longest place count : ℕ) (found : Findings) (f : CapFault) → ((i : ℕ) → get_or bytes i 0 < 256) → length bytes ≤ most_capability_bytes → place < length bytes
    → Parsed bytes longest place count found → token_read (drop place bytes) ≡ Err f → IsRefusal bytes (record { fault = f; place = place })
parse_fault bytes longest place count found f fits short more p e =
    let some : drop place bytes ≢ [] = λ z. omega (arith, ap length z, length-drop place bytes) in
    let u : IsUnreadable (drop place bytes) f = unreadable (drop place bytes) f (are_bytes (drop place bytes) (λ i. rw get_or-drop (fits (place + i)))) some e in
    inr (
      short,
      record {
        before = p.before;
        within = p.within;
        written = p.written;
        begins = context_begins p.before p.parts p.context;
        is = unreadable_fault f p.before (drop place bytes) some u;
      },
      p.sound,
    )

-- a token that ran from the greatest height climbs by one
climbs_by_one : (before : List Token) (k : Token) (s : Progress) → Sums next_height before s → s.running ≤ most_values → most_values < next_height s.running k → Comes next_height (before ++ k ∷ []) Run (suc most_values)
climbs_by_one before k s sums low high =
    let h : IsBest next_height before Run Certain s.running = sums Run in
    let c : Comes next_height (before ++ k ∷ []) (next_mode Run k false) (next_height s.running k) = reaches_on next_height 0 before k Run false s.running h.1 in
    let P : Mode → Type 0 = λ m. Comes next_height (before ++ k ∷ []) m (next_height s.running k) in
    let Q : ℕ → Type 0 = λ x. Comes next_height (before ++ k ∷ []) Run x in
    let top : next_height s.running k ≡ suc most_values = omega (arith, pushes-le k) in
    subst Q top (subst P (to_run k high) c)
  where
    to_run : (k : Token) → most_values < next_height s.running k → next_mode Run k false ≡ Run
    to_run CondElse high = absurd (omega arith)
    to_run CondThen high = refl
    to_run _ high = refl

-- a token may not stand, or climbs too high
pub parse_misplaced : (bytes : List ℕ) (longest place count : ℕ) (found : Findings) (k : Token) (n : ℕ) (f : CapFault) → ((i : ℕ) → get_or bytes i 0 < 256) → length bytes ≤ most_capability_bytes
    → Parsed bytes longest place count found → token_read (drop place bytes) ≡ Ok (k, n) → fault_of found k ≡ Some f → IsRefusal bytes (record { fault = f; place = place })
parse_misplaced bytes longest place count found k n f fits short p e some =
    inr (
      short,
      record { before = p.before; within = p.within; written = p.written; begins = context_begins p.before p.parts p.context; is = is (place_fault k (parts_of found.heights.frames)) refl some },
      p.sound,
    )
  where
    front : Front (drop place bytes) k n
    front = token_sound (drop place bytes) k n (are_bytes (drop place bytes) (λ i. rw get_or-drop (fits (place + i)))) e

    next : IsNext k (drop place bytes)
    next = (front.spelling, front.tail, front.spells, front.splits)

    deep : place_fault k p.parts ≡ None → (b : Bool) → nat_le (next_height found.heights.running k) most_values ≡ b → cond b None (Some StackTooDeep) ≡ Some f → IsFaultBetween f p.before (drop place bytes)
    deep placed true t g = absurd (cc)
    deep placed false t g =
        let go : (qs : List ConditionalPart) × (allowed k p.parts ≡ Some qs) = goes_on k p.parts placed in
        let begins : Begins (p.before ++ k ∷ []) = context_begins _ _ (context_step p.before p.parts go.0 k p.context go.1) in
        let high : most_values < next_height found.heights.running k = grind arith in
        let is : StackTooDeep ≡ f = cc in
        let P : CapFault → Type 0 = λ x. IsFaultBetween x p.before (drop place bytes) in
        subst P is (k, next, climbs_now p.before k (suc most_values) begins (climbs_by_one p.before k found.heights p.heights (parsed_low bytes longest place count found p) high))

    is : (m : Option CapFault) → place_fault k (parts_of found.heights.frames) ≡ m
        → first_fault m (cond (nat_le (next_height found.heights.running k) most_values) None (Some StackTooDeep)) ≡ Some f → IsFaultBetween f p.before (drop place bytes)
    is (Some g) m e = misplaced_fault k p.parts f p.before (drop place bytes) (ap (λ x. place_fault k x) (sym p.stands) ∙ m ∙ e) p.leads next
    is None m e = deep (ap (λ x. place_fault k x) (sym p.stands) ∙ m) (nat_le (next_height found.heights.running k) most_values) refl e

-- ---- the end

-- bytes without a fault are not refused
pub never_refused : (bytes : List ℕ) (r : CapRefused) → IsFaultless bytes → ¬ IsRefusal bytes r
never_refused bytes r fine (inl (long, e)) = omega (arith, fine.0)
never_refused bytes r fine (inr (short, has, sound)) = fine.1 r.fault r.place has

-- all is read, and some conditional is still in its first test
pub parse_no_then : (bytes : List ℕ) (longest place count : ℕ) (found : Findings) → length bytes ≤ most_capability_bytes → length bytes ≤ place → Parsed bytes longest place count found → are_in_test found.heights.frames ≡ true
    → IsRefusal bytes (record { fault = NoThen; place = length bytes })
parse_no_then bytes longest place count found short end p e =
    let R : ℕ → Type 0 = λ x. IsRefusal bytes (record { fault = NoThen; place = x }) in
    subst R (omega (arith, p.within)) (inr (
      short,
      record {
        before = p.before;
        within = p.within;
        written = p.written;
        begins = context_begins p.before p.parts p.context;
        is = inr (inr (drop_all place bytes end, none));
      },
      p.sound,
    ))
  where
    none : (tree : Sequence) → IsTree tree → tokens tree ≢ p.before
    none tree formed is =
        let P : List Token → Type 0 = λ x. Leads [] x p.parts in
        let Q : List ConditionalPart → Type 0 = λ x. AreSettled x in
        unsettled_by found.heights.frames e (subst Q (sym p.stands) (settled tree p.parts formed (subst P (sym is) p.leads)))

-- nothing is at fault at the end
end_fine : (before : List Token) (tree : Sequence) → IsTree tree → tokens tree ≡ before → (f : CapFault) → ¬ IsFaultBetween f before []
end_fine before tree formed is TooLong h = h
end_fine before tree formed is StrayThen h = nothing_next CondThen h.0
end_fine before tree formed is StrayElse h = nothing_next CondElse h.0.0
end_fine before tree formed is StrayEnd h = nothing_next CondClose h.0.0
end_fine before tree formed is NoThen (inl h) = nothing_next CondElse h.0.0
end_fine before tree formed is NoThen (inr (inl h)) = nothing_next CondClose h.0.0
end_fine before tree formed is NoThen (inr (inr h)) = h.1 tree formed is
end_fine before tree formed is NestTooDeep h = nothing_next CondOpen h.0
end_fine before tree formed is StackTooDeep (l, next, climbs) = nothing_next l next
end_fine before tree formed is _ h = h.0 refl

-- all is read
pub parse_done : (bytes : List ℕ) (longest place count : ℕ) (found : Findings) (limits : Limits) → length bytes ≤ most_capability_bytes → length bytes ≤ place → Parsed bytes longest place count found → are_in_test found.heights.frames ≡ false
    → limits.tokens ≡ count → limits.depth ≡ found.depth → limits.nest ≡ found.nest → limits.bound ≡ greatest_of found.sizes.frames found.sizes.running → IsCapability bytes longest limits
parse_done bytes longest place count found limits short end p e count_is depth_is nest_is bound_is =
    let Q : List ConditionalPart → Type 0 = λ x. AreSettled x in
    let r : (tree : Sequence) × IsTree tree × (tokens tree ≡ p.before) = context_ends p.before p.parts p.context (subst Q p.stands (settled_by found.heights.frames e)) in
    let at : place ≡ length bytes = omega (arith, p.within) in
    let all : Written p.before bytes = let P : List ℕ → Type 0 = λ x. Written p.before x in subst P (ap (λ x. take x bytes) at ∙ take-length bytes) p.written in
    let W : List Token → Type 0 = λ x. Written x bytes in
    let D : List Token → Type 0 = λ x. Peaks next_height x found.depth in
    let S : List Token → Type 0 = λ x. Sums (size_act longest) x found.sizes in
    let B : ℕ → Type 0 = λ x. IsBound r.0 longest x in
    let H : ℕ → Type 0 = λ x. IsDepth r.0 x in
    record {
      tree = r.0;
      writes = record { formed = r.1; written = subst W (sym r.2) all };
      count_is = ap length r.2 ∙ p.counted ∙ sym count_is;
      depth_is = subst H (sym depth_is) (depth_is_of r.0 r.1 (subst D (sym r.2) p.peaks));
      nest_is = sym (level_tree r.0 0 r.1 ∙ omega arith) ∙ ap (λ x. levels 0 x) r.2 ∙ p.nested ∙ sym nest_is;
      bound_is = subst B (sym bound_is) (greatest_value (size_act longest) r.0 found.sizes (λ path. size path longest) r.1 (value_is longest) (subst S (sym r.2) p.sizes));
      low = omega (arith, p.low);
      few = omega (arith, p.few);
      faultless = (short, none r.0 r.1 r.2 all at);
    }
  where
    depth_is_of : (tree : Sequence) → IsTree tree → Peaks next_height (tokens tree) found.depth → IsDepth tree found.depth
    depth_is_of tree formed peaks = IsGreatestLemmas.depth_is tree found.depth formed peaks

    none : (tree : Sequence) → IsTree tree → tokens tree ≡ p.before → Written p.before bytes → place ≡ length bytes → (f : CapFault) (q : ℕ) → ¬ HasFault bytes f q
    none tree formed is all at f q has = elim (which q place) [
      | inl lt ↦ p.sound f q lt has
      | inr le ↦
          let eq : q ≡ length bytes = omega (arith, has.within) in
          let P : ℕ → Type 0 = λ x. Written has.before (take x bytes) in
          let R : List ℕ → Type 0 = λ x. Written has.before x in
          let same : has.before ≡ p.before = one_cutting has.before p.before bytes (subst R (take-length bytes) (subst P eq has.written)) all in
          let F : List Token → Type 0 = λ x. IsFaultBetween f x (drop q bytes) in
          let G : List ℕ → Type 0 = λ x. IsFaultBetween f p.before x in
          end_fine p.before tree formed is f (subst G (drop_all q bytes (omega arith)) (subst F same has.is))
    ]
      where
        which : (q place : ℕ) → (q < place) ⊎ (place ≤ q)
        which q place = grind arith

pub from_place : (bytes : List ℕ) (place : ℕ) → take (length bytes - place) (drop place bytes) ≡ drop place bytes
from_place bytes place = ap (λ n. take n (drop place bytes)) (sym (length-drop place bytes)) ∙ take-length (drop place bytes)

-- bytes that are left of others
pub record IsRest (bytes left : List ℕ) : Type 0 where
  pub is : left ≡ drop (length bytes - length left) bytes
  pub within : length left ≤ length bytes

pub rest_start : (bytes : List ℕ) → IsRest bytes bytes
rest_start bytes = let none : 0 ≡ length bytes - length bytes = omega arith in record { is = ap (λ n. drop n bytes) none; within = omega arith }

-- what is left after so many bytes more
pub rest_after : (bytes left : List ℕ) (n : ℕ) → IsRest bytes left → n ≤ length left
    → (length bytes - length left + n ≡ length bytes - length (take (length left - n) (drop n left))) × IsRest bytes (take (length left - n) (drop n left))
rest_after bytes left n r low =
    let rest : List ℕ = take (length left - n) (drop n left) in
    let tail : rest ≡ drop n left = from_place left n in
    let long : length rest ≡ length left - n = ap length tail ∙ length-drop n left in
    let at : length bytes - length left + n ≡ length bytes - length rest = omega (arith, long, low, r.within) in
    (at, record { is = tail ∙ ap (λ x. drop n x) r.is ∙ drop-drop n (length bytes - length left) bytes ∙ ap (λ x. drop x bytes) at; within = omega (arith, long, r.within) })
