-- What a reader keeps: what holds of parsing where it stands, and its next place.
use Rattle.std.proofs.Common.{◌≡◌, ℕ, ◌+◌, ◌-◌, ◌<◌, ◌≤◌, inr, inl, List, [], ◌∷◌, ◌++◌, length, take, drop, get_or, get_or-drop, refl, sym, ◌∙◌, ap, subst, arith, Ok, append_assoc, length-append}
use Rattle.std.specs.Prelude.{None}
use Rattle.std.proofs.lemmas.List.{take_at, drop_at, drop-drop, take-append-drop, length-take-le}
use Rattle.std.proofs.Math.Seq.{take-add}
use Rattle.ti_base.specs.Limits.{most_capability_bytes}
use Rattle.ti_cap.specs.declared.language.Token.{Token}
use Rattle.ti_cap.specs.declared.scan.OpenExtents.{OpenExtents}
use Rattle.ti_cap.specs.declared.scan.Scan.{Scan}
use Rattle.ti_cap.specs.declared.language.Conversion.TheVariants.{Signed}
use Rattle.ti_cap.specs.Spelling.{SpellsEscape, SpellsFormat, Written}
use Rattle.ti_cap.specs.Capability.{Spot, Takes, IsFirst, whole}
use Rattle.ti_cap.specs.inner.Analysis.{Findings, no_findings, findings_after, fault_of}
use Rattle.ti_cap.specs.inner.Lexer.{token_read, plain_format}
use Rattle.ti_cap.specs.inner.Scan.{findings_of, IsInOrder}
use Rattle.ti_cap.specs.inner.Reading.{Finds, IsReading}
use Rattle.ti_cap.proofs.SpellsLemmas.{Front, token_again, token_sound}
use Rattle.ti_cap.proofs.WrittenLemmas.{written-append, written_one}
use Rattle.ti_cap.proofs.IsRefusalLemmas.{Parsed, Stepped, parse_start, parse_step, are_bytes, from_place}
use Rattle.ti_cap.proofs.IsTapeLemmas.{tape_first}

-- parsing goes on over tokens that are written next
pub parsed_on : (bytes : List ℕ) (place count : ℕ) (found : Findings) (ks : List Token) (s rest : List ℕ) (end : Findings)
    → ((i : ℕ) → get_or bytes i 0 < 256) → Parsed bytes 0 place count found → drop place bytes ≡ s ++ rest → Written ks s → Finds found ks end
    → Parsed bytes 0 (place + length s) (count + length ks) end
parsed_on bytes place count found [] s rest end fits p e w f =
    let P : ℕ → ℕ → Type 0 = λ x y. Parsed bytes 0 x y end in
    let none : place ≡ place + length s = omega (arith, ap length w) in
    let same : count ≡ count + 0 = omega arith in
    rw f (let Q : ℕ → Type 0 = λ x. Parsed bytes 0 x (count + 0) found in subst Q none (let R : ℕ → Type 0 = λ x. Parsed bytes 0 place x found in subst R same p))
parsed_on bytes place count found (k ∷ ks) s rest end fits p e (u, tail, spelled, w, is) f =
    let split : drop place bytes ≡ u ++ (tail ++ rest) = e ∙ ap (λ x. x ++ rest) is ∙ append_assoc u tail rest in
    let read : token_read (drop place bytes) ≡ Ok (k, length u) = ap token_read split ∙ token_again k u (tail ++ rest) spelled in
    let step : Stepped bytes 0 place count (length u) (findings_after 0 found k) = parse_step bytes 0 place count found k (length u) fits p read f.0 in
    let next : drop (place + length u) bytes ≡ tail ++ rest =
    sym (drop-drop (length u) place bytes) ∙ ap (λ x. drop (length u) x) split ∙ drop_at u (tail ++ rest) (length u) refl in
    let more : Parsed bytes 0 (place + length u + length tail) (count + 1 + length ks) end =
    parsed_on bytes (place + length u) (count + 1) (findings_after 0 found k) ks tail rest end fits step.parsed next w f.1 in
    let at : place + length u + length tail ≡ place + length s = omega (arith, ap length is, length-append u tail) in
    let many : count + 1 + length ks ≡ count + length (k ∷ ks) = omega arith in
    let Q : ℕ → Type 0 = λ x. Parsed bytes 0 x (count + length (k ∷ ks)) end in
    let R : ℕ → Type 0 = λ x. Parsed bytes 0 (place + length u + length tail) x end in
    subst Q at (subst R many more)

-- what holds where a reader stands
pub reading_parsed : (bytes left : List ℕ) (tokens : ℕ) (scan : Scan) (opens : List OpenExtents)
    → IsReading bytes left tokens scan opens → Parsed bytes 0 (length bytes - length left) tokens (findings_of scan opens)
reading_parsed bytes left tokens scan opens r =
    let place : ℕ = length bytes - length left in
    let p : Parsed bytes 0 (0 + length (take place bytes)) (0 + length r.before) (findings_of scan opens) =
    parsed_on bytes 0 0 no_findings r.before (take place bytes) (drop place bytes) (findings_of scan opens) r.fits (parse_start bytes 0 0 refl) (sym (take-append-drop place bytes)) r.taken r.found in
    let at : 0 + length (take place bytes) ≡ place = omega (arith, length-take-le place bytes (omega arith)) in
    let many : 0 + length r.before ≡ tokens = omega (arith, r.counted) in
    let Q : ℕ → Type 0 = λ x. Parsed bytes 0 x tokens (findings_of scan opens) in
    let R : ℕ → Type 0 = λ x. Parsed bytes 0 (0 + length (take place bytes)) x (findings_of scan opens) in
    subst Q at (subst R many p)

-- the start of a reader
pub reading_start : (bytes : List ℕ) (scan : Scan) (opens : List OpenExtents) → ((i : ℕ) → get_or bytes i 0 < 256) → length bytes ≤ most_capability_bytes
    → findings_of scan opens ≡ no_findings → IsInOrder 4 scan → IsReading bytes bytes 0 scan opens
reading_start bytes scan opens fits short found order =
    let none : length bytes - length bytes ≡ 0 = omega arith in
    record {
      fits = fits;
      short = short;
      within = omega arith;
      rest = ap (λ n. drop n bytes) (sym none);
      before = [];
      taken = ap (λ n. take n bytes) none;
      counted = refl;
      found = found;
      order = order;
    }

finds_more : (found : Findings) (ks : List Token) (end : Findings) (k : Token) (last : Findings) → Finds found ks end → fault_of end k ≡ None → last ≡ findings_after 0 end k
    → Finds found (ks ++ k ∷ []) last
finds_more found [] end k last f fine is = let P : Findings → Type 0 = λ x. (fault_of x k ≡ None) × (last ≡ findings_after 0 x k) in subst P f (fine, is)
finds_more found (l ∷ ks) end k last f fine is = (f.0, finds_more (findings_after 0 found l) ks end k last f.1 fine is)

-- the next place of a reader
pub record Further (bytes left : List ℕ) (tokens : ℕ) (k : Token) (long : ℕ) (scan : Scan) (opens : List OpenExtents) : Type 0 where
  pub low : long ≤ length left
  pub reading : IsReading bytes (take (length left - long) (drop long left)) (tokens + 1) scan opens
  pub takes : Takes k (record { taken = take (length bytes - length left) bytes; left = left })
      (record { taken = take (length bytes - length (take (length left - long) (drop long left))) bytes; left = take (length left - long) (drop long left) })
  pub first : IsFirst k (record { taken = take (length bytes - length left) bytes; left = left })
      (record { taken = take (length bytes - length (take (length left - long) (drop long left))) bytes; left = take (length left - long) (drop long left) })

pub reading_on : (bytes left : List ℕ) (tokens : ℕ) (k : Token) (long : ℕ) (scan : Scan) (opens : List OpenExtents) (next : Scan) (next_opens : List OpenExtents)
    → IsReading bytes left tokens scan opens → token_read left ≡ Ok (k, long)
    → fault_of (findings_of scan opens) k ≡ None → findings_of next next_opens ≡ findings_after 0 (findings_of scan opens) k → IsInOrder 4 next
    → Further bytes left tokens k long next next_opens
reading_on bytes left tokens k long scan opens next next_opens r e fine is order =
    let place : ℕ = length bytes - length left in
    let read : token_read (drop place bytes) ≡ Ok (k, long) = ap token_read (sym r.rest) ∙ e in
    let f : Front (drop place bytes) k long = token_sound (drop place bytes) k long (are_bytes (drop place bytes) (λ i. rw get_or-drop (r.fits (place + i)))) read in
    let splits : left ≡ f.spelling ++ f.tail = r.rest ∙ f.splits in
    let rest : List ℕ = take (length left - long) (drop long left) in
    let tail : rest ≡ f.tail = from_place left long ∙ ap (λ x. drop long x) splits ∙ drop_at f.spelling f.tail long (sym f.long) in
    let lengths : length left ≡ long + length rest = omega (arith, ap length splits, length-append f.spelling f.tail, f.long, ap length tail) in
    let at : length bytes - length rest ≡ place + long = omega (arith, lengths, r.within) in
    let taken : take (length bytes - length rest) bytes ≡ take place bytes ++ f.spelling =
    ap (λ n. take n bytes) at ∙ take-add place long bytes ∙ ap (λ x. take place bytes ++ x) (ap (λ x. take long x) f.splits ∙ take_at f.spelling f.tail long (sym f.long)) in
    let W : List ℕ → Type 0 = λ x. Written (r.before ++ k ∷ []) x in
    let left_is : left ≡ f.spelling ++ rest = splits ∙ ap (λ x. f.spelling ++ x) (sym tail) in
    record {
      low = omega (arith, lengths);
      reading = record {
        fits = r.fits;
        short = r.short;
        within = omega (arith, lengths, r.within);
        rest = from_place left long ∙ ap (λ x. drop long x) r.rest ∙ drop-drop long place bytes ∙ ap (λ n. drop n bytes) (sym at);
        before = r.before ++ k ∷ [];
        taken = subst W (sym taken) (written-append r.before (k ∷ []) (take place bytes) f.spelling r.taken (written_one k f.spelling f.spells));
        counted = length-append r.before (k ∷ []) ∙ ap (λ n. n + 1) r.counted;
        found = finds_more no_findings r.before (findings_of scan opens) k (findings_of next next_opens) r.found fine is;
        order = order;
      };
      takes = (f.spelling, f.spells, left_is, taken);
      first = tape_first k left rest f.spelling f.spells left_is;
    }

-- all the bytes of a reader
pub reading_whole : (bytes left : List ℕ) → left ≡ drop (length bytes - length left) bytes → take (length bytes - length left) bytes ++ left ≡ bytes
reading_whole bytes left rest =
    ap (λ x. take (length bytes - length left) bytes ++ x) rest ∙ take-append-drop (length bytes - length left) bytes

-- which do not change
pub takes_whole : (k : Token) (old new : Spot) → Takes k old new → whole new ≡ whole old
takes_whole k old new (s, p, left, taken) =
    ap (λ x. x ++ new.left) taken ∙ append_assoc old.taken s new.left ∙ ap (λ x. old.taken ++ x) (sym left)

-- an escape of one letter is read
pub letter_read : (left rest : List ℕ) (token : Token) (letter : ℕ) → left ≡ 37 ∷ rest → 1 ≤ length rest → get_or rest 0 0 ≡ letter
    → SpellsEscape token (letter ∷ []) → token_read left ≡ Ok (token, 2)
letter_read left [] token letter is some at spelled = absurd (omega arith)
letter_read left (c ∷ cs) token letter is some at spelled =
    let P : ℕ → Type 0 = λ x. SpellsEscape token (x ∷ []) in
    ap token_read is ∙ token_again token (37 ∷ c ∷ []) cs (inr (c ∷ [], subst P (sym at) spelled, refl))

pub decimal_spelled : SpellsFormat (plain_format Signed) (100 ∷ [])
decimal_spelled = ([], [], [], inl tt, (refl, refl, refl, refl, refl), refl, refl, refl)
