-- What narrow tokens write is narrow: no mark comes in it, and each coding reads it alike.
use Rattle.std.proofs.Common.{◌≡◌, ◌∙◌, ℕ, zero, suc, ◌+◌, ◌<◌, ◌%◌, ◌/◌, ◌-◌, ℤ, pos, negsuc, Bool, true, false, not, ◌&&◌, cond, List, [], ◌∷◌, ◌++◌, ap, arith, length, length-append, nat_eq, nat_lt, refl, replicate, subst, sym, true≢false}
use Rattle.std.specs.Prelude.{codes}
use Rattle.std.specs.List.{list_all, AllByRecursion}
use Rattle.std.specs.Fmt.{digit_glyph, digits, digits_onto}
use Rattle.std.proofs.lemmas.Bool.{and_from, and_parts}
use Rattle.std.proofs.lemmas.Bool.Decides.{nat_tests}
use Rattle.std.proofs.lemmas.List.Folds.{list_all-append}
use Rattle.ti_allow.specs.Harmless.{IsHarmless, OnlyTable, OnlyTableAlways, OnlyTableIn, OnlyTableOf, first_character}
use Rattle.ti_allow.specs.Narrow.{are_narrow, is_decimal, is_narrow, is_narrow_token}
use Rattle.ti_allow.specs.declared.row.Row.{Row}
use Rattle.ti_cap.specs.Capability.{IsFirst, Spot}
use Rattle.ti_cap.specs.Spelling.{Writes, Written}
use Rattle.ti_cap.specs.Tree.{Sequence, Empty, Simple, Conditional, Arms, Lone, Else, ElseIf, arm_tokens, closing, tokens}
use Rattle.ti_cap.proofs.WrittenLemmas.{spelled_long}
use Rattle.ti_cap.specs.declared.language.Conversion.{Conversion}
use Rattle.ti_cap.specs.declared.language.Conversion.TheVariants.{Signed, Octal, LowerHex, UpperHex, Text}
use Rattle.ti_cap.specs.declared.language.Format.{Format}
use Rattle.ti_cap.specs.declared.language.Token.{Token}
use Rattle.ti_cap.specs.declared.language.Token.TheVariants.{Byte, Char, Print, CondOpen, CondThen, CondElse, CondClose}
use Rattle.ti_cap.specs.declared.language.Token.TheVariants as token
use Rattle.ti_expand.specs.Effect.{effect, print_for}
use Rattle.ti_expand.specs.Meaning.{after_test, choice, meaning, tests_zero}
use Rattle.ti_expand.specs.Printed.{amount, fill, fills_with_zeros, front_for, magnitude, sign, significant, with_front, with_zeros}
use Rattle.ti_expand.specs.State.{State, number_on, start}
use Rattle.ti_expand.specs.declared.values.Value.{Value}
use Rattle.ti_parser.specs.Characters.{decoded}
use Rattle.ti_parser.specs.Machine.{ground, read, run, step, taken, then_run}
use Rattle.ti_parser.specs.States.{is_header}
use Rattle.ti_parser.specs.Padding.{is_dollar, left_from, without_marks}
use Rattle.ti_parser.specs.declared.configuration.Configuration.{Configuration}
use Rattle.ti_parser.specs.declared.padding.Marks.{Marks}
use Rattle.ti_parser.specs.declared.padding.Marks.TheVariants.{Tputs, TiPad}
use Rattle.ti_parser.specs.declared.reading.Coding.{Coding}
use Rattle.ti_parser.specs.declared.reading.Coding.TheVariants.{Utf8, Utf8WithC1, Bytes}
use Rattle.ti_parser.specs.declared.reading.Reading.{Reading}
use Rattle.ti_parser.specs.declared.reading.Reception.{Reception}
use Rattle.ti_parser.specs.declared.reading.Within.{Within}
use Rattle.ti_parser.specs.declared.reading.Within.TheVariants.{StartsAnew, GoesOn}

-- ---- a walk over the tokens

abbrev pub NarrowGo : Spot → Spot → Type 0
NarrowGo old new = (ks : List Token) → Written ks old.left
    → (rest : List Token) × Written rest new.left × (are_narrow rest ≡ true → are_narrow ks ≡ true)

pub narrow_nowhere : (at : Spot) → NarrowGo at at
narrow_nowhere at ks writes = (ks, writes, λ e. e)

pub narrow_more : (token : Token) (start old new : Spot) → NarrowGo start old → IsFirst token old new → is_narrow_token token ≡ true → NarrowGo start new
narrow_more token start old new goes order holds ks writes =
    let (left, is_left, gives) = goes ks writes in
    let (rest, is, after) = order left is_left in
    (rest, after, λ e. gives (ap are_narrow is ∙ and_from (is_narrow_token token) (are_narrow rest) holds e))

none_left : (ks : List Token) (bytes : List ℕ) → bytes ≡ [] → Written ks bytes → ks ≡ []
none_left [] bytes none writes = refl
none_left (k ∷ ks) bytes none (s, tail, spells, writes, is) =
    absurd (omega (arith, ap length none, ap length is, length-append s tail, spelled_long k s spells))

pub narrow_to_end : (start new : Spot) → NarrowGo start new → new.left ≡ [] → (ks : List Token) → Written ks start.left → are_narrow ks ≡ true
narrow_to_end start new goes ends ks writes =
    let (rest, left, gives) = goes ks writes in
    gives (ap are_narrow (none_left rest new.left ends left))

-- ---- what is written in decimal

abbrev pub AreNarrow : List ℕ → Type 0
AreNarrow bytes = list_all is_narrow bytes ≡ true

either : {X : Type 0} (P : X → Type 0) (b : Bool) (x y : X) → P x → P y → P (cond b x y)
either P true x y p q = p
either P false x y p q = q

both : (xs ys : List ℕ) → AreNarrow xs → AreNarrow ys → AreNarrow (xs ++ ys)
both xs ys p q = list_all-append is_narrow xs ys ∙ and_from (list_all is_narrow xs) (list_all is_narrow ys) p q

same : (k byte : ℕ) → is_narrow byte ≡ true → AreNarrow (replicate k byte)
same zero byte e = refl
same (suc k) byte e = and_from (is_narrow byte) _ e (same k byte e)

glyph : (n : ℕ) → is_narrow (digit_glyph false (n % 10)) ≡ true
glyph n = let small : n % 10 < 10 = omega arith in small_glyph (n % 10) small
  where
    small_glyph : (d : ℕ) → d < 10 → is_narrow (digit_glyph false d) ≡ true
    small_glyph d small = grind (arith, nat_tests)

onto : (k n : ℕ) (acc : List ℕ) → AreNarrow acc → AreNarrow (digits_onto k 10 false n acc)
onto zero n acc is = is
onto (suc k) n acc is =
    let more : AreNarrow (digit_glyph false (n % 10) ∷ acc) = and_from (is_narrow (digit_glyph false (n % 10))) (list_all is_narrow acc) (glyph n) is in
    either AreNarrow (nat_eq (n / 10) 0) (digit_glyph false (n % 10) ∷ acc) (digits_onto k 10 false (n / 10) (digit_glyph false (n % 10) ∷ acc)) more (onto k (n / 10) (digit_glyph false (n % 10) ∷ acc) more)

decimal : (n : ℕ) → AreNarrow (significant 10 false n)
unfolding digits
decimal n = either AreNarrow (nat_eq n 0) [] (digits 10 false n) refl (onto 64 n [] refl)

zeros : (k : ℕ) (ds : List ℕ) → AreNarrow ds → AreNarrow (with_zeros k ds)
zeros k ds is = both (replicate (k - length ds) 48) ds (same (k - length ds) 48 refl) is

filled : (f : Format) (bytes : List ℕ) → AreNarrow bytes → AreNarrow (fill f bytes)
filled f bytes is =
    let spaces : List ℕ = replicate (f.width - length bytes) 32 in
    let are : AreNarrow spaces = same (f.width - length bytes) 32 refl in
    either AreNarrow f.left (bytes ++ spaces) (spaces ++ bytes) (both bytes spaces is are) (both spaces bytes are is)

signed : (f : Format) (n : ℤ) → AreNarrow (sign f n)
signed f (negsuc n) = refl
signed f (pos n) = either AreNarrow f.plus (codes "+") (cond f.space (codes " ") []) refl (either AreNarrow f.space (codes " ") [] refl refl)

fronted : (f : Format) (front ds : List ℕ) → AreNarrow front → AreNarrow ds → AreNarrow (with_front f front ds)
fronted f front ds p q =
    let filled : List ℕ = with_zeros (f.width - length front) ds in
    both front (cond (fills_with_zeros f) filled ds) p (either AreNarrow (fills_with_zeros f) filled ds (zeros (f.width - length front) ds q) q)

field : (c : Conversion) (f : Format) (k : ℕ) (n : ℤ) → is_decimal c ≡ true
    → AreNarrow (fill f (with_front f (front_for c f n (with_zeros k (magnitude c n))) (with_zeros k (magnitude c n))))
field Signed f k n e =
    let ds : List ℕ = with_zeros k (magnitude Signed n) in
    filled f (with_front f (sign f n) ds) (fronted f (sign f n) ds (signed f n) (zeros k (magnitude Signed n) (decimal (amount Signed n))))
field Octal f k n e = absurd (true≢false (sym e))
field LowerHex f k n e = absurd (true≢false (sym e))
field UpperHex f k n e = absurd (true≢false (sym e))
field Text f k n e = absurd (true≢false (sym e))

printed : (c : Conversion) (f : Format) (stack : List Value) → is_decimal c ≡ true → c ≡ f.conversion → AreNarrow (print_for c f stack)
printed Signed f stack e is =
    let P : Conversion → Type 0 = λ c. is_decimal c ≡ true in
    field f.conversion f _ (number_on stack) (subst P is e)
printed Octal f stack e is = absurd (true≢false (sym e))
printed LowerHex f stack e is = absurd (true≢false (sym e))
printed UpperHex f stack e is = absurd (true≢false (sym e))
printed Text f stack e is = absurd (true≢false (sym e))

-- ---- what a tree writes

by_token : (t : Token) (s : State) → is_narrow_token t ≡ true → AreNarrow s.output → AreNarrow (effect t s).output
by_token (Byte byte) s e are = both s.output (byte ∷ []) are (and_from (is_narrow byte) true e refl)
by_token Char s e are = absurd (true≢false (sym e))
by_token (Print f) s e are = both s.output (print_for f.conversion f s.stack) are (printed f.conversion f s.stack e refl)
by_token (token.Param n) s e are = are
by_token (token.Constant n) s e are = are
by_token (token.Store n) s e are = are
by_token (token.Load n) s e are = are
by_token token.Length s e are = are
by_token (token.Compute op) s e are = are
by_token token.Increment s e are = are
by_token CondOpen s e are = are
by_token CondThen s e are = are
by_token CondElse s e are = are
by_token CondClose s e are = are

-- both parts of a list
parts : (ks ls : List Token) → are_narrow (ks ++ ls) ≡ true → (are_narrow ks ≡ true) × (are_narrow ls ≡ true)
parts ks ls e = and_parts (are_narrow ks) (are_narrow ls) (sym (list_all-append is_narrow_token ks ls) ∙ e)

by_either : (b : Bool) (s t : State) → AreNarrow s.output → AreNarrow t.output → AreNarrow (cond b s t).output
by_either true s t p q = p
by_either false s t p q = q

mutual
  by_tree : (tree : Sequence) (s : State) → are_narrow (tokens tree) ≡ true → AreNarrow s.output → AreNarrow (meaning tree s).output
  by_tree Empty s e are = are
  by_tree (Simple t rest) s e are =
      let (one, more) = and_parts (is_narrow_token t) (are_narrow (tokens rest)) e in
      by_tree rest (effect t s) more (by_token t s one are)
  by_tree (Conditional arms closed rest) s e are =
      let (inner, more) = parts (arm_tokens arms) (closing closed ++ tokens rest) e in
      by_tree rest (choice arms s) (parts (closing closed) (tokens rest) more).1 (by_arms arms s inner are)

  by_arms : (arms : Arms) (s : State) → are_narrow (arm_tokens arms) ≡ true → AreNarrow s.output → AreNarrow (choice arms s).output
  by_arms (Lone test body) s e are =
      let (tested, more) = parts (tokens test) (CondThen ∷ tokens body) e in
      let after : State = meaning test s in
      let now : AreNarrow after.output = by_tree test s tested are in
      by_either (tests_zero after) (after_test after) (meaning body (after_test after)) now (by_tree body (after_test after) more now)
  by_arms (Else test body otherwise) s e are =
      let (tested, more) = parts (tokens test) (CondThen ∷ (tokens body ++ CondElse ∷ tokens otherwise)) e in
      let (run, passed) = parts (tokens body) (CondElse ∷ tokens otherwise) more in
      let after : State = meaning test s in
      let now : AreNarrow after.output = by_tree test s tested are in
      by_either (tests_zero after) (meaning otherwise (after_test after)) (meaning body (after_test after))
      (by_tree otherwise (after_test after) passed now) (by_tree body (after_test after) run now)
  by_arms (ElseIf test body arms) s e are =
      let (tested, more) = parts (tokens test) (CondThen ∷ (tokens body ++ CondElse ∷ arm_tokens arms)) e in
      let (run, passed) = parts (tokens body) (CondElse ∷ arm_tokens arms) more in
      let after : State = meaning test s in
      let now : AreNarrow after.output = by_tree test s tested are in
      by_either (tests_zero after) (choice arms (after_test after)) (meaning body (after_test after))
      (by_arms arms (after_test after) passed now) (by_tree body (after_test after) run now)

-- ---- what a terminal receives of it, and reads

no_dollar : (byte : ℕ) → is_narrow byte ≡ true → is_dollar byte ≡ false
no_dollar byte e = by (is_dollar byte) (and_parts (nat_lt byte 128) (not (is_dollar byte)) e).1
  where
    by : (b : Bool) → not b ≡ true → b ≡ false
    by false h = refl
    by true h = absurd (true≢false (sym h))

pub unmarked : (marks : Marks) (bytes : List ℕ) → AreNarrow bytes → without_marks marks bytes ≡ bytes
unfolding left_from
unmarked marks [] are = refl
unmarked marks (byte ∷ bytes) are =
    let (one, more) = and_parts (is_narrow byte) (list_all is_narrow bytes) are in
    rw (no_dollar byte one) (ap (λ l. byte ∷ l) (unmarked marks bytes more))

alike_decoded : (one other : Coding) (c : Configuration) (within : Bool) (byte : ℕ) → nat_lt byte 128 ≡ true
    → decoded one c.begun within byte ≡ decoded other c.begun within byte
unfolding decoded
alike_decoded one other c within byte low = rw low refl

alike_step : (one other : Coding) (within : Within) (c : Configuration) (byte : ℕ) → is_narrow byte ≡ true
    → step (record { coding = one; within = within }) c byte ≡ step (record { coding = other; within = within }) c byte
unfolding step
alike_step one other within c byte e =
    let low : nat_lt byte 128 ≡ true = (and_parts (nat_lt byte 128) (not (is_dollar byte)) e).0 in
    rw (alike_decoded one other c (is_header c.state) byte low) refl

pub alike_run : (one other : Coding) (within : Within) (c : Configuration) (bytes : List ℕ) → AreNarrow bytes
    → run (record { coding = one; within = within }) c bytes ≡ run (record { coding = other; within = within }) c bytes
unfolding run
alike_run one other within c [] are = refl
alike_run one other within c (byte ∷ bytes) are =
    let (first, more) = and_parts (is_narrow byte) (list_all is_narrow bytes) are in
    let r : Reading = record { coding = one; within = within } in
    let q : Reading = record { coding = other; within = within } in
    ap (λ s. then_run s (run r s.configuration bytes)) (alike_step one other within c byte first)
    ∙ ap (then_run (step q c byte)) (alike_run one other within (step q c byte).configuration bytes more)

-- ---- so one pass stands for those in each coding, without either kind of marks

moved : (rows : List Row) (name : List ℕ) (coding : Coding) (within : Within) (marks : Marks) (bytes : List ℕ)
    → ((tree : Sequence) → Writes tree bytes → are_narrow (tokens tree) ≡ true)
    → OnlyTable rows name (record { reading = record { coding = Utf8; within = within }; marks = Tputs; first_character = first_character name }) bytes
    → OnlyTable rows name (record { reading = record { coding = coding; within = within }; marks = marks; first_character = first_character name }) bytes
unfolding OnlyTable
moved rows name coding within marks bytes narrow only tree writes variables parameters are_variables are_given =
    let output : List ℕ = (meaning tree (start variables parameters)).output in
    let are : AreNarrow output = by_tree tree (start variables parameters) (narrow tree writes) refl in
    let given = only tree writes variables parameters are_variables are_given in
    let plain : IsHarmless rows name (run (record { coding = Utf8; within = within }) ground output) =
    subst (λ l. IsHarmless rows name (run (record { coding = Utf8; within = within }) ground l)) (unmarked Tputs output are) given in
    let there : IsHarmless rows name (run (record { coding = coding; within = within }) ground output) =
    subst (λ r. IsHarmless rows name r) (alike_run Utf8 coding within ground output are) plain in
    subst (λ l. IsHarmless rows name (run (record { coding = coding; within = within }) ground l)) (sym (unmarked marks output are)) there

-- a pass in which a control within a function starts anew, and one in which it goes on
pub always : (rows : List Row) (name bytes : List ℕ) → ((tree : Sequence) → Writes tree bytes → are_narrow (tokens tree) ≡ true)
    → OnlyTable rows name (record { reading = record { coding = Utf8; within = StartsAnew }; marks = Tputs; first_character = first_character name }) bytes
    → OnlyTable rows name (record { reading = record { coding = Utf8; within = GoesOn }; marks = Tputs; first_character = first_character name }) bytes
    → OnlyTableAlways rows name bytes
unfolding OnlyTableAlways OnlyTableOf OnlyTableIn
always rows name bytes narrow anew on = (
  (
    (moved rows name Utf8 StartsAnew Tputs bytes narrow anew, moved rows name Utf8 StartsAnew TiPad bytes narrow anew),
    (moved rows name Utf8 GoesOn Tputs bytes narrow on, moved rows name Utf8 GoesOn TiPad bytes narrow on),
  ),
  (
    (moved rows name Utf8WithC1 StartsAnew Tputs bytes narrow anew, moved rows name Utf8WithC1 StartsAnew TiPad bytes narrow anew),
    (moved rows name Utf8WithC1 GoesOn Tputs bytes narrow on, moved rows name Utf8WithC1 GoesOn TiPad bytes narrow on),
  ),
  (
    (moved rows name Bytes StartsAnew Tputs bytes narrow anew, moved rows name Bytes StartsAnew TiPad bytes narrow anew),
    (moved rows name Bytes GoesOn Tputs bytes narrow on, moved rows name Bytes GoesOn TiPad bytes narrow on),
  ),
)
