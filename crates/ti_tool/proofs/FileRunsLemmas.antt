-- What is done with files, one after another.
use Rattle.std.proofs.Common.{◌≡◌, ◌==◌, ◌∙◌, ℕ, ◌+◌, ◌<◌, Bool, true, false, List, [], ◌∷◌, ◌++◌, length, take, get_or, map, drop, ◌≤◌, take_all, refl, sym, ap, subst, inl, inr, arith, append_assoc}
use Rattle.std.specs.Prelude.{◌||◌, max, Option, Some, None, Result, Ok, Err, IfOk, MatchResult}
use Rattle.std.specs.List.{flat_map, list_any}
use Rattle.std.proofs.Math.Nat.{max-zero, zero-max}
use Rattle.std.proofs.lemmas.Grind.{flat_map-append}
use Rattle.std.proofs.lemmas.Bool.{eqb-true}
use Rattle.std.proofs.lemmas.Int.{ints, clamps}
use Rattle.std.proofs.lemmas.List.{append-nil, map-append, map_more, take-append-drop}
use Rattle.std.proofs.lemmas.List.Folds.{list_any-append}
use Rattle.std.specs.Borrow.{Bor}
use Rattle.ti_line.specs.CommandLine.{is_minus}
use Rattle.ti_line.specs.Requests.{texts_of}
use Rattle.ti_line.specs.declared.request.Action.{Action}
use Rattle.ti_tool.specs.Runs.{RanRequest}
use Rattle.ti_line.specs.declared.request.EntryAction.{EntryAction}
use Rattle.ti_tool.specs.declared.fault.ToolFault.TheVariants as fault
use Rattle.ti_tool.specs.declared.fault.ToolFault.{ToolFault}
use Rattle.ti_tool.specs.Calls.{FailsAsDue}
use Rattle.ti_tool.specs.declared.extras.Extras.{Extras}
use Rattle.ti_tool.specs.FaultLines.{IsAnswerLine, Told, fault_line}
use Rattle.ti_tool.specs.Files.{before_findings, file_line}
use Rattle.ti_tool.specs.Results.{IsDueOf}
use Rattle.ti_tool.specs.Summaries.{IsSummarized}
use Rattle.ti_tool.specs.Statuses.{status_for}
use Rattle.ti_line.specs.declared.request.Action.TheVariants.{Entry}
use Rattle.ti_tool.specs.FileRuns.{AreLookups, Delivered, DidFile, DidFiles, DoneFile, Contents, EndsWithNone, IsLookup, IsOutcome, IsOutcomeOfContents, IsReadFrom, IsSupplied, IsUnread, Job, NoMemory, RanFiles, RanFound, RanInput, Supply, Unread, are_several, files_done, greatest_status, line_on_none, lines_on_none}
use Rattle.ti_tool.specs.Streams.{FileName, KnownFiles, Lookup, Stream, Streams, streams}

max_assoc : (a b c : ℕ) → max (max a b) c ≡ max a (max b c)
max_assoc a b c = omega (arith, ints, clamps)

-- both statuses are low if the greater one is
pub max_low : (a b c : ℕ) → c ≡ max a b → c ≤ 1 → (a ≤ 1) × (b ≤ 1)
max_low a b c is low = (omega (arith, ints, clamps), omega (arith, ints, clamps))

greatest-more : (xs : List DoneFile) (x : DoneFile) → greatest_status (xs ++ x ∷ []) ≡ max (greatest_status xs) x.status
greatest-more [] x = max-zero x.status ∙ sym (zero-max x.status)
greatest-more (y ∷ xs) x = ap (max y.status) (greatest-more xs x) ∙ sym (max_assoc y.status (greatest_status xs) x.status)

-- ---- lists

-- the values of the first elements of a list, and of one more
pub some_more : {X Y : Type 0} (f : X → Y) (xs : List X) (i : ℕ) (x : X) → i < length xs → x ≡ get_or xs i x → map f (take (i + 1) xs) ≡ map f (take i xs) ++ f x ∷ []
some_more f xs i x h is = map_more f xs i x h ∙ ap (λ y. map f (take i xs) ++ f y ∷ []) (sym is)

pub some_split : {X Y : Type 0} (f : X → Y) (xs : List X) (i : ℕ) (x : X) → i < length xs → x ≡ get_or xs i x
    → map f xs ≡ (map f (take i xs) ++ f x ∷ []) ++ map f (drop (i + 1) xs)
some_split f xs i x h is =
    ap (map f) (sym (take-append-drop (i + 1) xs)) ∙ map-append f (take (i + 1) xs) (drop (i + 1) xs) ∙ ap (λ y. y ++ map f (drop (i + 1) xs)) (some_more f xs i x h is)

pub all_some : {X Y : Type 0} (f : X → Y) (xs : List X) (i : ℕ) → i ≡ length xs → map f (take i xs) ≡ map f xs
all_some f xs i is = ap (map f) (take_all i xs (omega arith))

-- ---- files that words name

lookups_more : (known : KnownFiles) (e : EntryAction) (words : List (List ℕ)) (word : List ℕ) (founds : List Lookup) (found : Lookup) → AreLookups known e words founds → IsLookup known e word found
    → AreLookups known e (words ++ word ∷ []) (founds ++ found ∷ [])
lookups_more known e [] word founds found none is = subst (λ (fs : List Lookup). AreLookups known e (word ∷ []) (fs ++ found ∷ [])) (sym none) (is, refl)
lookups_more known e (w ∷ words) word [] found are is = absurd are
lookups_more known e (w ∷ words) word (f ∷ founds) found (first, rest) is = (first, lookups_more known e words word founds found rest is)

-- files of these words were found, some of them in folders, if several were named before
abbrev pub Found : KnownFiles → EntryAction → List (List ℕ) → Bool → List FileName → Bool → List ℕ → Type 0
Found known e words start files are_several lines =
    (founds : List Lookup) × AreLookups known e words founds × (files ≡ flat_map (λ l. l.files) founds) × (are_several ≡ start || list_any (λ l. l.is_folder) founds) × (lines ≡ lines_on_none e words founds)

lines_more : (known : KnownFiles) (e : EntryAction) (words : List (List ℕ)) (word : List ℕ) (founds : List Lookup) (found : Lookup) → AreLookups known e words founds
    → lines_on_none e (words ++ word ∷ []) (founds ++ found ∷ []) ≡ lines_on_none e words founds ++ line_on_none e word found
lines_more known e [] word founds found none =
    subst (λ (fs : List Lookup). lines_on_none e (word ∷ []) (fs ++ found ∷ []) ≡ lines_on_none e [] fs ++ line_on_none e word found) (sym none) (append-nil (line_on_none e word found))
lines_more known e (w ∷ words) word [] found are = absurd are
lines_more known e (w ∷ words) word (f ∷ founds) found (first, rest) =
    ap (λ l. line_on_none e w f ++ l) (lines_more known e words word founds found rest) ∙ sym (append_assoc (line_on_none e w f) (lines_on_none e words founds) (line_on_none e word found))

pub found_more : (known : KnownFiles) (e : EntryAction) (words : List (List ℕ)) (word : List ℕ) (start several more : Bool) (files all : List FileName) (one : Lookup) (lines says : List ℕ) → Found known e words start files several lines
    → IsLookup known e word one → all ≡ files ++ one.files → more ≡ several || one.is_folder → says ≡ lines ++ line_on_none e word one → Found known e (words ++ word ∷ []) start all more says
found_more known e words word start several more files all one lines says (founds, are, is, some, said) named joined either line = (
  founds ++ one ∷ [],
  lookups_more known e words word founds one are named,
  joined ∙ ap (λ fs. fs ++ one.files) is ∙ ap (λ fs. flat_map (λ l. l.files) founds ++ fs) (sym (append-nil one.files)) ∙ sym (flat_map-append (λ l. l.files) founds (one ∷ [])),
  either ∙ ap (λ b. b || one.is_folder) some ∙ joined_by start (list_any (λ l. l.is_folder) founds) one.is_folder ∙ ap (λ b. start || b) (sym (list_any-append (λ l. l.is_folder) founds (one ∷ []))),
  line ∙ ap (λ l. l ++ line_on_none e word one) said ∙ sym (lines_more known e words word founds one are),
)
  where
    joined_by : (a b c : Bool) → (a || b) || c ≡ a || (b || (c || false))
    joined_by true b c = refl
    joined_by false true c = refl
    joined_by false false true = refl
    joined_by false false false = refl

pub found_word : (known : KnownFiles) (e : EntryAction) (words : List (Bor (List ℕ))) (i : ℕ) (d : Bor (List ℕ)) (start several more : Bool) (files all : List FileName) (one : Lookup) (lines says : List ℕ) → i < length words
    → Found known e (texts_of (take i words)) start files several lines → IsLookup known e (get_or words i d).now one → all ≡ files ++ one.files → more ≡ several || one.is_folder
    → says ≡ lines ++ line_on_none e (get_or words i d).now one → Found known e (texts_of (take (i + 1) words)) start all more says
found_word known e words i d start several more files all one lines says within found named joined either line =
    subst (λ (ws : List (List ℕ)). Found known e ws start all more says) (sym (map_more (λ w. w.now) words i d within))
    (found_more known e (texts_of (take i words)) (get_or words i d).now start several more files all one lines says found named joined either line)

-- ---- one file

-- a fault of a file is what its contents lead to
pub fault_led : {O F : Type 0} (bytes line : O → List ℕ) (status : O → ℕ) (job : Job) (name contents told said : List ℕ) (why : ToolFault) (code : ℕ) (r : Result O F)
    → FailsAsDue (IsDueOf (before_findings job.are_several name) job.e true contents) why
    → IsAnswerLine job.has_advice (Entry job.e) why told → said ≡ told → code ≡ status_for (Err why) → IfOk r (λ o. (bytes o ≡ []) × (line o ≡ file_line name said) × (status o ≡ code))
    → IfOk r (λ o. IsOutcomeOfContents job name contents (bytes o) (line o) (status o))
fault_led bytes line status job name contents told said why code (Ok o) due is same coded (b, l, s) = (Err why, s ∙ coded, (due, b, (told, is, l ∙ ap (file_line name) same)))
fault_led bytes line status job name contents told said why code (Err f) due is same coded led = tt

module _ {O F : Type 0} (bytes line : O → List ℕ) (status : O → ℕ) (known : KnownFiles) (job : Job) (file : FileName) (left0 left1 : Option (List ℕ)) where
  abbrev pub Led : Result O F → Type 0
  Led r = IfOk r (λ o. (supply : Supply) × IsSupplied known file left0 left1 supply × IsOutcome job file.name supply (bytes o) (line o) (status o))

  -- its contents are what there is of it
  pub contents_led : (name contents read : List ℕ) (r : Result O F) → name ≡ file.name → file.is_refused ≡ false → IsReadFrom (is_minus name) (known.contents name) left0 left1 read → contents ≡ read
      → IfOk r (λ o. IsOutcomeOfContents job name contents (bytes o) (line o) (status o)) → Led r
  contents_led name contents read (Ok o) named given from same led =
      let From : List ℕ → Type 0 = λ n. IsReadFrom (is_minus n) (known.contents n) left0 left1 read in
      let Outcome : List ℕ → Type 0 = λ n. IsOutcomeOfContents job n contents (bytes o) (line o) (status o) in
      (Contents contents, (given, subst (λ b. IsReadFrom (is_minus file.name) (known.contents file.name) left0 left1 b) (sym same) (subst From named from)), subst Outcome named led)
  contents_led name contents read (Err f) named given from same led = tt

  -- nothing is there of it
  pub unread_led : (name : List ℕ) (r : Result O F) → name ≡ file.name → IfOk r (λ o. IsUnread name (bytes o) (line o) (status o)) → Led r
  unread_led name (Ok o) named led = (Unread, tt, subst (λ (n : List ℕ). IsUnread n (bytes o) (line o) (status o)) named led)
  unread_led name (Err f) named led = tt

-- ---- files that are done

module _ (known : KnownFiles) (job : Job) where
  did_append : (a b c : Streams) (xs ys : List DoneFile) → DidFiles known job a b xs → DidFiles known job b c ys → DidFiles known job a c (xs ++ ys)
  did_append a b c [] ys same q = subst (λ (s : Streams). DidFiles known job s c ys) same q
  did_append a b c (x ∷ xs) ys (between, did, rest) q = (between, did, did_append between b c xs ys rest q)

  -- a file with this name is done
  abbrev pub DidOne : FileName → Streams → Streams → Option ℕ → Type 0
  DidOne file before after answer = (done : DoneFile) × (done.file ≡ file) × DidFile known job before after answer done

  pub did_one : {O F : Type 0} (bytes line : O → List ℕ) (status : O → ℕ) (before after : Streams) (answer : Option ℕ) (file : FileName) (outcome : Result O F) → (is_minus file.name ≡ false → after.left ≡ before.left)
      → IfOk outcome (λ o. (supply : Supply) × IsSupplied known file before.left after.left supply × IsOutcome job file.name supply (bytes o) (line o) (status o))
      → MatchResult outcome (λ o. Delivered job.has_advice before.held after.held before.told after.told answer (bytes o) (line o) (status o)) (λ _. Delivered job.has_advice before.held after.held before.told after.told answer [] (fault_line fault.Memory) 6)
      → DidOne file before after answer
  did_one bytes line status before after answer file (Ok o) kept (supply, supplied, led) delivered =
      (record { file = file; supply = supply; out = bytes o; line = line o; status = status o }, refl, record { supplied = supplied; kept = kept; led = led; delivered = delivered })
  did_one bytes line status before after answer file (Err why) kept led delivered =
      (record { file = file; supply = NoMemory; out = []; line = fault_line fault.Memory; status = 6 }, refl, record { supplied = tt; kept = kept; led = (refl, refl, refl); delivered = delivered })

  -- these files are done so far
  abbrev pub RanSome : List FileName → Streams → Streams → ℕ → Type 0
  RanSome files before after status = (dones : List DoneFile) × (files ≡ files_done dones) × DidFiles known job before after dones × (status ≡ greatest_status dones)

  pub ran_none : (before : Streams) → RanSome [] before before 0
  ran_none before = ([], refl, refl, refl)

  pub ran_more : (files more : List FileName) (file : FileName) (a b c : Streams) (greatest s new : ℕ) → RanSome files a b greatest → DidOne file b c (Some s) → more ≡ files ++ file ∷ [] → new ≡ max greatest s → RanSome more a c new
  ran_more files more file a b c greatest s new (dones, are, did, is) (done, named, one) joined greater =
      let status : s ≡ done.status = one.delivered.0 in (
        dones ++ done ∷ [],
        joined ∙ ap (λ fs. fs ++ file ∷ []) are ∙ ap (λ f. files_done dones ++ f ∷ []) (sym named) ∙ sym (map-append (λ d. d.file) dones (done ∷ [])),
        did_append a b c dones (done ∷ []) did (c, subst (λ (n : ℕ). DidFile known job b c (Some n) done) status one, refl),
        greater ∙ ap (λ n. max n s) is ∙ ap (max (greatest_status dones)) status ∙ sym (greatest-more dones done),
      )

  pub ran_stops : (files all rest : List FileName) (file : FileName) (a b c : Streams) (greatest new : ℕ) → RanSome files a b greatest → DidOne file b c None → all ≡ (files ++ file ∷ []) ++ rest → new ≡ max greatest 5
      → RanFound known job all a c new
  ran_stops files all rest file a b c greatest new (dones, are, did, is) (done, named, one) split greater =
      inr (
        dones,
        done,
        rest,
        b,
        split ∙ append_assoc files (file ∷ []) rest ∙ ap (λ fs. fs ++ file ∷ rest) are ∙ ap (λ f. files_done dones ++ f ∷ rest) (sym named),
        did,
        one,
        greater ∙ ap (λ n. max n 5) is,
      )

  pub ran_all : (files : List FileName) (a b c : Streams) (greatest : ℕ) → RanSome files a b greatest → IsSummarized job.summary b c → RanFound known job files a c greatest
  ran_all files a b c greatest (dones, are, did, is) sums = inl (dones, b, are, did, sums, is)

-- files that words name are done
pub ran_files : (known : KnownFiles) (extras : Extras) (e : EntryAction) (words : List (List ℕ)) (founds : List Lookup) (files : List FileName) (several : Bool) (lines : List ℕ) (before between after : Streams) (code status : ℕ)
    → AreLookups known e words founds → files ≡ flat_map (λ l. l.files) founds → several ≡ are_several words founds → lines ≡ lines_on_none e words founds
    → RanFound known (record { e = e; are_several = several; summary = extras.summary; has_advice = extras.has_advice }) files before between code → EndsWithNone lines code between after status → RanFiles known extras e words before after status
ran_files known extras e words founds files several lines before between after code status are is some said ran ends =
    let OfFiles : List FileName → Type 0 = λ fs. RanFound known (record { e = e; are_several = several; summary = extras.summary; has_advice = extras.has_advice }) fs before between code in
    let OfSeveral : Bool → Type 0 = λ b. RanFound known (record { e = e; are_several = b; summary = extras.summary; has_advice = extras.has_advice }) (flat_map (λ l. l.files) founds) before between code in
    let WithNone : List ℕ → Type 0 = λ l. EndsWithNone l code between after status in
    inl (founds, are, between, code, subst OfSeveral some (subst OfFiles is ran), subst WithNone said ends)

-- no line is written if there is none, else all or the first of them
pub none_ends : (lines : List ℕ) (left held told : Stream) (status : ℕ) → (length lines == 0) ≡ true → EndsWithNone lines status (streams left held told) (streams left held told) status
none_ends [] left held told status none = (refl, refl)
none_ends (b ∷ bs) left held told status none = let empty = eqb-true (length (b ∷ bs)) 0 none in absurd (omega (arith, empty))

pub lines_end : (lines : List ℕ) (left held told0 told1 : Stream) (code status : ℕ) → (length lines == 0) ≡ false → Told lines told0 told1 → status ≡ max code 5
    → EndsWithNone lines code (streams left held told0) (streams left held told1) status
lines_end [] left held told0 told1 code status some told is = absurd (cc (some))
lines_end (b ∷ bs) left held told0 told1 code status some told is = (refl, refl, told, is)

-- what is done with files is done for the request of them
pub request_of_files : (known : KnownFiles) (extras : Extras) (files : List (Bor (List ℕ))) (action : Action) (e : EntryAction) (V : Type 0) (before after : Streams) (status : ℕ) → action ≡ Entry e → (length files == 0) ≡ false
    → RanFiles known extras e (texts_of files) before after status → RanRequest known extras action (texts_of files) V before after status
request_of_files known extras [] action e V before after status is some ran = absurd (cc (some))
request_of_files known extras (file ∷ files) action e V before after status is some ran =
    let Ran : Action → Type 0 = λ a. RanRequest known extras a (texts_of (file ∷ files)) V before after status in subst Ran (sym is) ran

pub some_files : (files : List (Bor (List ℕ))) → (length files == 0) ≡ false → texts_of files ≡ [] → ⊥
some_files [] some none = cc (some)
some_files (file ∷ files) some none = cc (none)

-- what is done with standard input is done for the request of no file
pub request_of_none : (known : KnownFiles) (extras : Extras) (files : List (Bor (List ℕ))) (action : Action) (e : EntryAction) (V : Type 0) (before after : Streams) (status : ℕ) → action ≡ Entry e → (length files == 0) ≡ true
    → RanInput extras action V before after status → RanRequest known extras action (texts_of files) V before after status
request_of_none known extras [] action e V before after status is none ran =
    let Ran : Action → Type 0 = λ a. RanRequest known extras a [] V before after status in
    let Input : Action → Type 0 = λ a. RanInput extras a V before after status in
    subst Ran (sym is) (subst Input is ran)
request_of_none known extras (file ∷ files) action e V before after status is none ran = let empty = eqb-true (length (file ∷ files)) 0 none in absurd (omega (arith, empty))
