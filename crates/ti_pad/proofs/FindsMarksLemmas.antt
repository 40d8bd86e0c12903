-- A mark is found exactly where one stands.
use Rattle.std.proofs.Common.{◌≡◌, ◌∙◌, ◌+◌, ℕ, Bool, true, false, cond, List, [], ◌∷◌, ◌++◌, ap, sym, refl, subst, length, drop, append_assoc}
use Rattle.std.specs.Prelude.{Option, Some, None, codes, find, is_some, option_map, take_while, unwrap_or, nat_le, nat_lt}
use Rattle.std.specs.Char.{is_ascii_digit}
use Rattle.std.specs.List.{list_all, prefix_len}
use Rattle.std.specs.Str.{bytes_eq}
use Rattle.std.proofs.lemmas.Bool.{and_from, and_parts, le-leb, leb-true, lt-ltb, ltb-true}
use Rattle.std.proofs.lemmas.List.{drop_at}
use Rattle.std.proofs.lemmas.Slice.Eq.{bytes_eq-Decides}
use Rattle.ti_pad.specs.Marks.{StandsAtFront, IsMark, Mark, all_flags, decimals_at, decimals_text, flags_at, has_number, mark_at, mark_after_front, mark_after_number, mark_after_whole, mark_bytes, starts_with}
use Rattle.ti_pad.specs.Laws.{FindsMarks}
use Rattle.ti_pad.proofs.StartsWithLemmas.{find_some, starts, take_while-rest, take_while-run}
use Rattle.ti_pad.proofs.TakeWhileLemmas.{list_all-take_while}

-- ---- from a mark that is found to the grammar

-- flags that are found, with the `>` after them
flags_at-some : (rest flags : List ℕ) → flags_at rest ≡ Some flags
    → (rest ≡ (flags ++ codes ">") ++ drop (length (flags ++ codes ">")) rest) × (is_some (find (bytes_eq flags) all_flags) ≡ true)
flags_at-some rest flags e =
    let (found, listed) = find_some (λ flags. starts_with rest (flags ++ codes ">")) flags all_flags e in
    (starts rest (flags ++ codes ">") found, listed)

-- decimals that are found are digits
decimals_by : (rest : List ℕ) (b : Bool) → starts_with rest (codes ".") ≡ b
    → (list_all is_ascii_digit (unwrap_or (cond b (Some (take_while is_ascii_digit (drop 1 rest))) None) []) ≡ true)
    × (rest ≡ decimals_text (cond b (Some (take_while is_ascii_digit (drop 1 rest))) None)
    ++ drop (length (decimals_text (cond b (Some (take_while is_ascii_digit (drop 1 rest))) None))) rest)
decimals_by rest false e = (refl, refl)
decimals_by [] true e = cc
decimals_by (x ∷ rest) true e =
    let all = list_all-take_while is_ascii_digit rest in
    let point : x ∷ rest ≡ 46 ∷ rest = starts (x ∷ rest) (codes ".") e in
    (all, point ∙ ap (λ l. 46 ∷ l) (take_while-rest is_ascii_digit rest))

record IsNumbered (whole : List ℕ) (decimals : Option (List ℕ)) (rest : List ℕ) (m : Mark) : Type 0 where
  number : has_number whole decimals ≡ true
  same_whole : m.whole ≡ whole
  same_decimals : m.decimals ≡ decimals
  flags : flags_at rest ≡ Some m.flags

flagged_by : (whole : List ℕ) (decimals : Option (List ℕ)) (m : Mark) (o : Option (List ℕ))
    → option_map (λ (flags : List ℕ). let mark : Mark = record { whole = whole; decimals = decimals; flags = flags } in mark) o ≡ Some m
    → (m.whole ≡ whole) × (m.decimals ≡ decimals) × (o ≡ Some m.flags)
flagged_by whole decimals m None e = cc
flagged_by whole decimals m (Some flags) e = (cc, cc, cc)

numbered_by : (whole : List ℕ) (decimals : Option (List ℕ)) (rest : List ℕ) (m : Mark) (b : Bool) → has_number whole decimals ≡ b
    → cond b (option_map (λ (flags : List ℕ). let mark : Mark = record { whole = whole; decimals = decimals; flags = flags } in mark) (flags_at rest)) None ≡ Some m
    → IsNumbered whole decimals rest m
numbered_by whole decimals rest m false h e = cc
numbered_by whole decimals rest m true h e =
    let (w, d, f) = flagged_by whole decimals m (flags_at rest) e in
    record { number = h; same_whole = w; same_decimals = d; flags = f }

parts_assoc : (a b c d : List ℕ) → (a ++ (b ++ c)) ++ d ≡ a ++ (b ++ (c ++ d))
parts_assoc a b c d = append_assoc a (b ++ c) d ∙ ap (λ l. a ++ l) (append_assoc b c d)

-- the parts after the `$<`, and what stands after the mark
record IsAfterFront (bytes : List ℕ) (m : Mark) : Type 0 where
  is_mark : IsMark m
  rest : List ℕ
  bytes_are : bytes ≡ (m.whole ++ (decimals_text m.decimals ++ (m.flags ++ codes ">"))) ++ rest

mark_after_front-some : (bytes : List ℕ) (m : Mark) → mark_after_front bytes ≡ Some m → IsAfterFront bytes m
mark_after_front-some bytes m e =
    let whole : List ℕ = take_while is_ascii_digit bytes in
    let after_whole : List ℕ = drop (length whole) bytes in
    let decimals : Option (List ℕ) = decimals_at after_whole in
    let after_number : List ℕ = drop (length (decimals_text decimals)) after_whole in
    let parts : IsNumbered whole decimals after_number m = numbered_by whole decimals after_number m (has_number whole decimals) refl e in
    let (flags, listed) = flags_at-some after_number m.flags parts.flags in
    let (digits, point) = decimals_by after_whole (starts_with after_whole (codes ".")) refl in
    let (few, some) = and_parts (nat_le (length whole) 5) (nat_lt 0 (length whole + length (unwrap_or decimals []))) parts.number in
    let rest : List ℕ = drop (length (m.flags ++ codes ">")) after_number in
    record {
      is_mark = record {
        whole = rw parts.same_whole (list_all-take_while is_ascii_digit bytes);
        at_most_five = rw parts.same_whole (leb-true (length whole) 5 few);
        decimals = rw parts.same_decimals digits;
        some_digit = rw (parts.same_whole, parts.same_decimals) (ltb-true 0 (length whole + length (unwrap_or decimals [])) some);
        flags = listed;
      };
      rest = rest;
      bytes_are = rw (parts.same_whole, parts.same_decimals)
          (take_while-rest is_ascii_digit bytes ∙ ap (λ l. whole ++ l) (point ∙ ap (λ l. decimals_text decimals ++ l) flags)
          ∙ sym (parts_assoc whole (decimals_text decimals) (m.flags ++ codes ">") rest));
    }

stands_by : (bytes : List ℕ) (m : Mark) (b : Bool) → starts_with bytes (codes "$<") ≡ b → cond b (mark_after_front (drop 2 bytes)) None ≡ Some m → StandsAtFront m bytes
stands_by bytes m false s e = cc
stands_by bytes m true s e =
    let parts : IsAfterFront (drop 2 bytes) m = mark_after_front-some (drop 2 bytes) m e in
    record { is_mark = parts.is_mark; rest = parts.rest; bytes_are = starts bytes (codes "$<") s ∙ ap (λ l. codes "$<" ++ l) parts.bytes_are }

-- ---- from the grammar to a mark that is found

listed_by : (P : List ℕ → Type 0) (flags x : List ℕ) (o : Option (List ℕ)) → P x → (is_some o ≡ true → P flags) → (b : Bool) → bytes_eq flags x ≡ b
    → is_some (cond b (Some x) o) ≡ true → P flags
listed_by P flags x o here next true e h = subst P (sym ((bytes_eq-Decides flags x).0 e)) here
listed_by P flags x o here next false e h = next h

-- what holds of the five flags holds of any
pub listed : (P : List ℕ → Type 0) (flags : List ℕ) → P [] → P (codes "*") → P (codes "/") → P (codes "*/") → P (codes "/*")
    → is_some (find (bytes_eq flags) all_flags) ≡ true → P flags
listed P flags none lines mandatory both both_turned =
    listed_by P flags [] _ none
    (listed_by P flags (codes "*") _ lines
    (listed_by P flags (codes "/") _ mandatory
    (listed_by P flags (codes "*/") _ both
    (listed_by P flags (codes "/*") None both_turned (λ h. cc) (bytes_eq flags (codes "/*")) refl)
    (bytes_eq flags (codes "*/")) refl)
    (bytes_eq flags (codes "/")) refl)
    (bytes_eq flags (codes "*")) refl)
    (bytes_eq flags []) refl

-- what stands after a number: flags and a `>`
record EndsNumber (flags : List ℕ) : Type 0 where
  found : (rest : List ℕ) → flags_at ((flags ++ codes ">") ++ rest) ≡ Some flags
  no_digit : (rest : List ℕ) → prefix_len is_ascii_digit ((flags ++ codes ">") ++ rest) ≡ 0
  no_point : (rest : List ℕ) → starts_with ((flags ++ codes ">") ++ rest) (codes ".") ≡ false

at_none : EndsNumber []
at_none = record { found = λ rest. refl; no_digit = λ rest. refl; no_point = λ rest. refl }

at_lines : EndsNumber (codes "*")
at_lines = record { found = λ rest. refl; no_digit = λ rest. refl; no_point = λ rest. refl }

at_mandatory : EndsNumber (codes "/")
at_mandatory = record { found = λ rest. refl; no_digit = λ rest. refl; no_point = λ rest. refl }

at_both : EndsNumber (codes "*/")
at_both = record { found = λ rest. refl; no_digit = λ rest. refl; no_point = λ rest. refl }

at_both_turned : EndsNumber (codes "/*")
at_both_turned = record { found = λ rest. refl; no_digit = λ rest. refl; no_point = λ rest. refl }

ends_number : (flags : List ℕ) → is_some (find (bytes_eq flags) all_flags) ≡ true → EndsNumber flags
ends_number flags = listed EndsNumber flags at_none at_lines at_mandatory at_both at_both_turned

-- decimals before what is no digit and no point
decimals_at-text : (decimals : Option (List ℕ)) (rest : List ℕ) → list_all is_ascii_digit (unwrap_or decimals []) ≡ true → prefix_len is_ascii_digit rest ≡ 0
    → starts_with rest (codes ".") ≡ false
    → (decimals_at (decimals_text decimals ++ rest) ≡ decimals) × (prefix_len is_ascii_digit (decimals_text decimals ++ rest) ≡ 0)
decimals_at-text None rest all no_digit no_point = (rw no_point refl, no_digit)
decimals_at-text (Some digits) rest all no_digit no_point = (ap Some (take_while-run is_ascii_digit digits rest all no_digit), refl)

mark_after_number-found : (m : Mark) (rest : List ℕ) → IsMark m → flags_at rest ≡ Some m.flags → mark_after_number m.whole m.decimals rest ≡ Some m
mark_after_number-found m rest is found =
    let number : has_number m.whole m.decimals ≡ true =
    and_from _ _ (le-leb (length m.whole) 5 is.at_most_five) (lt-ltb 0 (length m.whole + length (unwrap_or m.decimals [])) is.some_digit) in
    rw (number, found) refl

mark_after_whole-found : (m : Mark) (rest : List ℕ) → IsMark m
    → mark_after_whole m.whole (decimals_text m.decimals ++ ((m.flags ++ codes ">") ++ rest)) ≡ Some m
mark_after_whole-found m rest is =
    let ends : EndsNumber m.flags = ends_number m.flags is.flags in
    let after : List ℕ = (m.flags ++ codes ">") ++ rest in
    let text : List ℕ = decimals_text m.decimals ++ after in
    let decimals : decimals_at text ≡ m.decimals = (decimals_at-text m.decimals after is.decimals (ends.no_digit rest) (ends.no_point rest)).0 in
    ap (λ d. mark_after_number m.whole d (drop (length (decimals_text d)) text)) decimals
    ∙ ap (mark_after_number m.whole m.decimals) (drop_at (decimals_text m.decimals) after (length (decimals_text m.decimals)) refl)
    ∙ mark_after_number-found m after is (ends.found rest)

mark_after_front-found : (m : Mark) (rest : List ℕ) → IsMark m
    → mark_after_front (m.whole ++ (decimals_text m.decimals ++ ((m.flags ++ codes ">") ++ rest))) ≡ Some m
mark_after_front-found m rest is =
    let ends : EndsNumber m.flags = ends_number m.flags is.flags in
    let later : List ℕ = decimals_text m.decimals ++ ((m.flags ++ codes ">") ++ rest) in
    let no_digit : prefix_len is_ascii_digit later ≡ 0 =
    (decimals_at-text m.decimals ((m.flags ++ codes ">") ++ rest) is.decimals (ends.no_digit rest) (ends.no_point rest)).1 in
    let whole : take_while is_ascii_digit (m.whole ++ later) ≡ m.whole = take_while-run is_ascii_digit m.whole later is.whole no_digit in
    ap (λ w. mark_after_whole w (drop (length w) (m.whole ++ later))) whole
    ∙ ap (mark_after_whole m.whole) (drop_at m.whole later (length m.whole) refl)
    ∙ mark_after_whole-found m rest is

mark_at-mark_bytes : (m : Mark) (rest : List ℕ) → IsMark m → mark_at (mark_bytes m ++ rest) ≡ Some m
mark_at-mark_bytes m rest is =
    ap mark_after_front (parts_assoc m.whole (decimals_text m.decimals) (m.flags ++ codes ">") rest) ∙ mark_after_front-found m rest is

pub finds_marks : FindsMarks
finds_marks m bytes =
    (λ e. stands_by bytes m (starts_with bytes (codes "$<")) refl e, λ stands. ap mark_at stands.bytes_are ∙ mark_at-mark_bytes m stands.rest stands.is_mark)
