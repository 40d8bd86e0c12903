-- Words on which `clap` finds no fault are read, and what is wanted is there.
use Rattle.std.proofs.Common.{◌≡◌, ◌≤◌, ◌==◌, ◌||◌, ◌&&◌, ℕ, Bool, true, false, not, zero, suc, length, refl, sym, ◌∙◌, ap, subst, true≢false, arith, List, [], ◌∷◌, Option, Some, None, is_some, cond, IfSome, nat_lt, leb-true, codes, drop, unwrap_or}
use Rattle.std.specs.Prelude.{int_le, pos, neg_ℤ, slice_get, option_and_then, option_map}
use Rattle.std.specs.Char.{digit_value}
use Rattle.std.specs.List.{find, fold}
use Rattle.std.specs.Option.{option_map_or}
use Rattle.std.specs.Str.{bytes_eq}
use Rattle.std.specs.Str.Parse.{digits_value, without_leading_plus}
use Rattle.std.proofs.lemmas.Bool.{eqb-true}
use Rattle.std.proofs.lemmas.Slice.Eq.{bytes_eq-Decides}
use Rattle.clap.proofs.WalkLemmas.{both}
use Rattle.clap.specs.Lexer.{long_of, short_of, without_minus}
use Rattle.clap.specs.Kinds.{or_else, range_kinds, value_kinds, values_kinds}
use Rattle.clap.specs.Simple.{Shape, argument_words, built, built_leaf, entered, filled, inherited, label_of, names_of, rows_at, subcommand_of, with_index}
use Rattle.clap.specs.Takes.{is_given}
use Rattle.clap.specs.Facts.{explicit_source}
use Rattle.clap.specs.Values.{read_as, refused_kind}
use Rattle.clap.specs.ValueTests.{accepts, fits_i64, is_numeral, is_signed_in}
use Rattle.clap.specs.Walk.{Held, Names, Outcome, Row, Rule, Step, Text, Waiting, Walk, action_of, reading_by, row_text, settled, values_or_missing, after_flag, after_step, answers_to, arg_by_index, done, finished, idle, long_or_other, next, nothing_held, option, plain, plain_word, positional, refused, rows_after, short_or_plain, subcommand, subcommand_met, subcommand_or_other, to_positional, trailing, value, waits, walk, walk_from, walked, walked_from, word_met}
use Rattle.clap.specs.Faults.{check_fault, defaults_fault, entered_fault, repeat_fault, settle_fault, level_fault, other_fault, step_fault, turn_fault, use_fault, walk_fault, word_fault}
use Rattle.clap.specs.declared.builder.value_parser.Reading.{Reading}
use Rattle.clap.specs.declared.builder.value_parser.ValueParser.{ValueParser}
use Rattle.clap.specs.declared.builder.value_parser.ValueParser.TheVariants as vp
use Rattle.clap.specs.declared.error.kind.ErrorKind.TheVariants as kind
use Rattle.ti_base.specs.Limits.{greatest_rate, most_lines}
use Rattle.ti_line.specs.CommandLine.{AreRead, Command, HasNameAndNumbers, IsComplete, Reads, command_in, command_of, expand_app, faults, get_app, lines_rule, name_rule, number_in, number_or, number_rule, rate_rule, ti_app}
use Rattle.ti_line.proofs.LawsLemmas.{none_some, same}
use Rattle.ti_line.proofs.RowsLemmas.{Each, FirstIs, Fits, Gives, is_count, neither, row_found, rows_fit}

-- ---- the subcommand that a walk stops at is not `help`

abbrev NotHelp : Text → Type 0
NotHelp name = bytes_eq name (codes "help") ≡ false

abbrev StepsPast : Step → Type 0
StepsPast (subcommand name) = NotHelp name
StepsPast _ = Unit {0}

module _ (s : Shape) (names : Names) (on : s.disable_help_subcommand ≡ false) where
  plain_past : (waiting : Waiting) (word : Text) (h : Held) → StepsPast (plain_word s.rules waiting word h).1
  plain_past (option name) word h = tt
  plain_past idle word h = tt
  plain_past positional word h = tt

  flag_past : (waiting : Waiting) (word : Text) (h : Held) (x : Outcome) → StepsPast (after_flag s.rules waiting word h x).1
  flag_past waiting word h done = tt
  flag_past waiting word h (waits name) = tt
  flag_past waiting word h plain = plain_past waiting word h
  flag_past waiting word h refused = plain_past waiting word h

  short_past : (waiting : Waiting) (word : Text) (o : Option Text) (h : Held) → StepsPast (short_or_plain s.rules waiting word o h).1
  short_past waiting word None h = plain_past waiting word h
  short_past waiting word (Some flags) h = flag_past waiting word _ _

  long_past : (waiting : Waiting) (word : Text) (o : Option (Text × Option Text)) (h : Held) → StepsPast (long_or_other s.rules waiting word o h).1
  long_past waiting word None h = short_past waiting word (short_of word) h
  long_past waiting word (Some p) h = flag_past waiting word _ _

  word_past : (is_trailing : Bool) (waiting : Waiting) (position : ℕ) (word : Text) (h : Held) → word_fault s names is_trailing waiting word h ≡ []
      → StepsPast (word_met s.rules names is_trailing waiting position word h).1
  word_past true waiting position word h e = tt
  word_past false waiting position word h e = by (subcommand_met names waiting word) e
    where
      named : (name : Text) (b off : Bool) → off ≡ false → cond (b && not off) (kind.DisplayHelp ∷ kind.InvalidSubcommand ∷ []) [] ≡ [] → b ≡ false
      named name false off o e = refl
      named name true false o e = absurd (cc)
      named name true true o e = absurd (true≢false o)

      dashes : (b : Bool) → StepsPast (cond b (h, trailing position) (long_or_other s.rules waiting word (long_of word) h)).1
      dashes true = tt
      dashes false = long_past waiting word (long_of word) h

      by : (o : Option Text) → other_fault s o word h ≡ [] → StepsPast (subcommand_or_other s.rules o waiting position word h).1
      by (Some name) e = named name (bytes_eq name (codes "help")) s.disable_help_subcommand on e
      by None e = dashes (bytes_eq word (45 ∷ 45 ∷ []))

  abbrev StopsPast : Walk → Type 0
  StopsPast w = IfSome w.stopped (λ p. NotHelp p.0)

  after_step_past : (word : Text) (w : Walk) (h : Held) (x : Step) → StepsPast x → StopsPast w → StopsPast (after_step s.rules word w h x)
  after_step_past word w h (next waiting) x f = f
  after_step_past word w h (trailing position) x f = f
  after_step_past word w h (subcommand name) x f = x
  after_step_past word w h value x f = go (arg_by_index s.rules w.position)
    where
      go : (o : Option Rule) → StopsPast (to_positional s.rules o word w h)
      go None = f
      go (Some a) = tt

  turn_past : (w : Walk) (word : Text) → turn_fault s names w word ≡ [] → StopsPast w → StopsPast (walked s.rules names w word)
  unfolding walked
  turn_past w word e f = go w.stopped e f
    where
      go : (o : Option (Text × List Text))
          → cond (is_some o) [] (or_else (word_fault s names w.is_trailing w.waiting word w.held)
          (step_fault s w.position (word_met s.rules names w.is_trailing w.waiting w.position word w.held).0 (word_met s.rules names w.is_trailing w.waiting w.position word w.held).1)) ≡ []
          → IfSome o (λ p. NotHelp p.0) → StopsPast (walked_from s.rules names o w word)
      go (Some p) e g = g
      go None e g =
          let parts = neither (word_fault s names w.is_trailing w.waiting word w.held) _ e in
          after_step_past word w _ _ (word_past w.is_trailing w.waiting w.position word w.held parts.0) f

  walk_past : (w : Walk) (words : List Text) → walk_fault s names w words ≡ [] → StopsPast w → StopsPast (fold (walked s.rules names) w words)
  unfolding walk_fault
  walk_past w [] e f = f
  walk_past w (word ∷ rest) e f =
      let parts = neither (turn_fault s names w word) _ e in
      walk_past (walked s.rules names w word) rest parts.1 (turn_past w word parts.0 f)

-- ---- numbers within a range

-- digits do not start with a plus
no_plus : (ds : Text) → is_numeral ds ≡ true → without_leading_plus ds ≡ ds
no_plus [] e = refl
no_plus (d ∷ ds) e = go (d == 43) refl
  where
    is_digit : nat_lt (digit_value d) 10 ≡ true
    is_digit = (both _ _ (both (nat_lt 0 (length (d ∷ ds))) _ e).1).0

    go : (b : Bool) → d == 43 ≡ b → drop (cond b 1 0) (d ∷ ds) ≡ d ∷ ds
    go false p = refl
    go true p =
        let P : ℕ → Type 0 = λ n. nat_lt (digit_value n) 10 ≡ true in
        absurd (true≢false (sym (subst P (eqb-true d 43 p) is_digit)))

-- no number below 0 is at least 0
no_minus : (n : ℕ) → int_le (pos 0) (neg_ℤ (pos n)) ≡ true → n ≡ 0
no_minus zero e = refl
no_minus (suc n) e = absurd (true≢false (sym e))

or_default : (b : Bool) (n default most : ℕ) → n ≤ most → default ≤ most → cond b n default ≤ most
or_default true n default most h k = h
or_default false n default most h k = k

in_range : (most : ℕ) (text : Text) → is_signed_in (pos 0) (pos most) text ≡ true → digits_value 10 (without_leading_plus (without_minus text)) ≤ most
in_range most [] e = absurd (true≢false (sym e))
in_range most (x ∷ xs) e = go (x == 45) e
  where
    go : (b : Bool)
        → is_numeral (cond b (drop 1 (x ∷ xs)) (without_leading_plus (x ∷ xs)))
        && (fits_i64 (cond b (neg_ℤ (pos (digits_value 10 (cond b (drop 1 (x ∷ xs)) (without_leading_plus (x ∷ xs)))))) (pos (digits_value 10 (cond b (drop 1 (x ∷ xs)) (without_leading_plus (x ∷ xs))))))
        && (int_le (pos 0) (cond b (neg_ℤ (pos (digits_value 10 (cond b (drop 1 (x ∷ xs)) (without_leading_plus (x ∷ xs)))))) (pos (digits_value 10 (cond b (drop 1 (x ∷ xs)) (without_leading_plus (x ∷ xs))))))
        && int_le (cond b (neg_ℤ (pos (digits_value 10 (cond b (drop 1 (x ∷ xs)) (without_leading_plus (x ∷ xs)))))) (pos (digits_value 10 (cond b (drop 1 (x ∷ xs)) (without_leading_plus (x ∷ xs)))))) (pos most))) ≡ true
        → digits_value 10 (without_leading_plus (unwrap_or (cond b (Some xs) None) (x ∷ xs))) ≤ most
    go true e =
        let parts = both (is_numeral xs) _ e in
        let bounds = both (int_le (pos 0) (neg_ℤ (pos (digits_value 10 xs)))) _ (both (fits_i64 (neg_ℤ (pos (digits_value 10 xs)))) _ parts.1).1 in
        let none : digits_value 10 xs ≡ 0 = no_minus _ bounds.0 in
        rw (no_plus xs parts.0) (omega (arith, none))
    go false e =
        let n = digits_value 10 (without_leading_plus (x ∷ xs)) in
        let bounds = both (int_le (pos 0) (pos n)) _ (both (fits_i64 (pos n)) _ (both (is_numeral (without_leading_plus (x ∷ xs))) _ e).1).1 in
        leb-true n most bounds.1

within : (default most : ℕ) (text : Text) → default ≤ most → is_signed_in (pos 0) (pos most) text ≡ true → number_or default (without_minus text) ≤ most
within default most text low e = or_default _ _ default most (in_range most text e) low

-- ---- the arguments of a command with a name and numbers

-- another argument than that of the id
other : (id : Text) (P : Reading → Text → Type 0) (a : Rule) → is_count (action_of a) ≡ false → bytes_eq a.id id ≡ false → Gives id P a
other id P a u e = record {
  uncounted = u;
  given = λ again values rows f same. absurd (true≢false (sym same ∙ e));
  defaults = λ same. absurd (true≢false (sym same ∙ e));
}

-- the first of some values that pass is accepted
first_accepted : (ignore : Bool) (parser : ValueParser) (v : Text) (vs : List Text) → values_kinds ignore parser (v ∷ vs) ≡ [] → accepts ignore parser v ≡ true
first_accepted ignore parser v vs e = go (accepts ignore parser v) (neither (value_kinds ignore parser v) _ e).0
  where
    go : (b : Bool) → cond b [] (refused_kind parser ∷ []) ≡ [] → b ≡ true
    go true f = refl
    go false f = absurd (cc)

abbrev Any : Reading → Text → Type 0
Any how v = Unit {0}

abbrev IsLow : ℕ → ℕ → Reading → Text → Type 0
IsLow default most how v = number_or default (read_as how v) ≤ most

-- `NAME` as it is built
abbrev built_name : Rule
built_name = with_index 1 (filled name_rule)

name_gives : Gives (codes "NAME") Any built_name
name_gives = record { uncounted = refl; given = first; defaults = λ same. refl }
  where
    first : (again : Bool) (values : List Text) (rows : List Row) → use_fault again built_name values rows ≡ [] → bytes_eq built_name.id (codes "NAME") ≡ true
        → FirstIs Any (reading_by built_name) (values_or_missing built_name values)
    first again [] rows e same = absurd (cc)
    first again (v ∷ vs) rows e same = tt

number_gives : (id : Text) (default most : ℕ) → default ≤ most → Gives id (IsLow default most) (filled (number_rule id most))
number_gives id default most low = record { uncounted = refl; given = first; defaults = λ same. refl }
  where
    a : Rule
    a = filled (number_rule id most)

    first : (again : Bool) (values : List Text) (rows : List Row) → use_fault again a values rows ≡ [] → bytes_eq a.id id ≡ true → FirstIs (IsLow default most) (reading_by a) (values_or_missing a values)
    first again [] rows e same = absurd (cc)
    first again (v ∷ vs) rows e same =
        let used = (neither (range_kinds 1 1 (length (v ∷ vs))) _ e).1 in
        let passed = (neither (repeat_fault again id rows) _ used).1 in
        within default most v low (first_accepted false (vp.Signed (pos 0) (pos most)) v vs passed)

-- a use of an argument gives a name, and numbers within their ranges
abbrev GivesEach : Rule → Type 0
GivesEach a = Gives (codes "NAME") Any a × Gives (codes "rate") (IsLow 0 greatest_rate) a × Gives (codes "lines") (IsLow 1 most_lines) a

named : GivesEach built_name
named = (name_gives, other _ _ _ refl refl, other _ _ _ refl refl)

rated : GivesEach (filled rate_rule)
rated = (other _ _ _ refl refl, number_gives (codes "rate") 0 greatest_rate (omega arith), other _ _ _ refl refl)

lined : GivesEach (filled lines_rule)
lined = (other _ _ _ refl refl, other _ _ _ refl refl, number_gives (codes "lines") 1 most_lines (omega arith))

-- an argument that is none of the three
none : (a : Rule) → is_count (action_of a) ≡ false → bytes_eq a.id (codes "NAME") ≡ false → bytes_eq a.id (codes "rate") ≡ false → bytes_eq a.id (codes "lines") ≡ false → GivesEach a
none a u n r l = (other _ _ a u n, other _ _ a u r, other _ _ a u l)

each_weaker : {X : Type 0} (P Q : X → Type 0) (xs : List X) → ((x : X) → P x → Q x) → Each P xs → Each Q xs
each_weaker P Q [] f h = tt
each_weaker P Q (x ∷ xs) f h = (f x h.0, each_weaker P Q xs f h.1)

-- ---- a name and numbers

number_low : (id : Text) (default most : ℕ) (rows : List Row) → default ≤ most → Each (Fits id (IsLow default most)) rows → number_in id default rows ≤ most
number_low id default most rows low all = go (find (λ r. bytes_eq r.id id) rows) (row_found id (IsLow default most) rows all)
  where
    by : (how : Reading) (values : List Text) → FirstIs (IsLow default most) how values → option_map_or (number_or default) (option_map (read_as how) (slice_get values 0)) default ≤ most
    by how [] f = low
    by how (v ∷ vs) f = f

    go : (o : Option Row) → IfSome o (λ r. FirstIs (IsLow default most) r.reading r.values) → option_map_or (number_or default) (option_and_then row_text o) default ≤ most
    go None f = low
    go (Some r) f = by r.reading r.values f

-- a command that wants a name, and takes numbers
named_line : (s : Shape) → Each GivesEach s.rules → ((rows : List Row) → check_fault s rows false ≡ [] → is_given (codes "NAME") rows ≡ true) → (words : List Text) → level_fault s [] nothing_held words false [] ≡ []
    → HasNameAndNumbers (rows_after s.rules [] words)
named_line s all wants words e = (
  go (find (λ r. bytes_eq r.id (codes "NAME")) rows) (row_found _ Any rows (rows_fit _ Any s [] words (each_weaker GivesEach _ s.rules (λ a g. g.0) all) e)) given,
  number_low (codes "rate") 0 greatest_rate rows (omega arith) (rows_fit _ _ s [] words (each_weaker GivesEach _ s.rules (λ a g. g.1) all) e),
  number_low (codes "lines") 1 most_lines rows (omega arith) (rows_fit _ _ s [] words (each_weaker GivesEach _ s.rules (λ a g. g.2) all) e),
)
  where
    rows : List Row
    rows = rows_after s.rules [] words

    end : Held
    end = (walk s.rules [] nothing_held words).held

    given : is_given (codes "NAME") rows ≡ true
    given = wants rows (neither (defaults_fault (settled s.rules end).rows s.rules) _ (neither (settle_fault s.rules s.args_override_self end) _ (neither (walk_fault s [] (walk_from nothing_held) words) _ e).1).1).1

    called : (values : List Text) (how : Reading) → FirstIs Any how values → is_some (slice_get values 0) ≡ true
    called [] how f = absurd f
    called (v ∷ vs) how f = refl

    go : (o : Option Row) → IfSome o (λ r. FirstIs Any r.reading r.values) → option_map_or (λ r. explicit_source r.source) o false ≡ true → is_some (option_and_then (λ r. slice_get r.values 0) o) ≡ true
    go None f g = absurd (true≢false (sym g))
    go (Some r) f g = called r.values r.reading f

wanted : (g : Bool) → cond (not g || false) (kind.MissingRequiredArgument ∷ []) [] ≡ [] → g ≡ true
wanted true f = refl
wanted false f = absurd (cc)

abbrev expand_shape : Shape
expand_shape = built_leaf (inherited (built ti_app).top expand_app.top)

expand_line : (words : List Text) → level_fault expand_shape [] nothing_held words false [] ≡ [] → HasNameAndNumbers (rows_after expand_shape.rules [] words)
expand_line = named_line expand_shape all (λ rows f. wanted (is_given (codes "NAME") rows) f)
  where
    all : Each GivesEach expand_shape.rules
    all = (named, (none _ refl refl refl refl, (none _ refl refl refl refl, (none _ refl refl refl refl, (rated, (lined, (none _ refl refl refl refl, (none _ refl refl refl refl, (none _ refl refl refl refl, (none _ refl refl refl refl, tt))))))))))

abbrev get_shape : Shape
get_shape = built_leaf (inherited (built ti_app).top get_app.top)

get_line : (words : List Text) → level_fault get_shape [] nothing_held words false [] ≡ [] → HasNameAndNumbers (rows_after get_shape.rules [] words)
get_line = named_line get_shape all (λ rows f. wanted (is_given (codes "NAME") rows) f)
  where
    all : Each GivesEach get_shape.rules
    all = (named, (none _ refl refl refl refl, (none _ refl refl refl refl, (rated, (lined, (none _ refl refl refl refl, (none _ refl refl refl refl, (none _ refl refl refl refl, (none _ refl refl refl refl, tt)))))))))

-- ---- the subcommand

found_so : {X : Type 0} (P : X → Type 0) (test : X → Bool) (xs : List X) → Each (λ x. test x ≡ true → P x) xs → IfSome (find test xs) P
found_so P test [] h = tt
found_so P test (x ∷ xs) h = go (test x) refl (found_so P test xs h.1)
  where
    go : (b : Bool) → test x ≡ b → IfSome (find test xs) P → IfSome (cond b (Some x) (find test xs)) P
    go true e more = h.0 e
    go false e more = more

-- a subcommand is found, and what it wants is there
abbrev pub IsFound : Option (Command × List Row) → Type 0
IsFound found = (command : Command) × (rows : List Row) × (found ≡ Some (command, rows)) × IsComplete command rows

-- as one is whose words have no fault
abbrev Finds : Text × List Text → Shape → Type 0
Finds p s = level_fault s [] nothing_held p.1 false [] ≡ [] → IsFound (command_in (Some (s.name, rows_after s.rules [] p.1)))

all_find : (p : Text × List Text) → NotHelp p.0 → Each (λ s. answers_to p.0 (label_of s) ≡ true → Finds p s) (built ti_app).subs
all_find p past =
    (λ t e. (_, _, refl, tt), (λ t e. (_, _, refl, tt), (λ t e. (_, _, refl, tt), (λ t e. (_, _, refl, get_line p.1 e), (λ t e. (_, _, refl, tt), (λ t e. (_, _, refl, expand_line p.1 e), (λ t e. (_, _, refl, tt), (λ t e. (_, _, refl, tt), (λ t e. (_, _, refl, tt), (λ t e. absurd (help t), tt))))))))))
  where
    help : (bytes_eq (codes "help") p.0 || false) ≡ true → ⊥
    help t = go (bytes_eq (codes "help") p.0) refl t
      where
        go : (b : Bool) → bytes_eq (codes "help") p.0 ≡ b → (b || false) ≡ true → ⊥
        go true is f =
            let same : codes "help" ≡ p.0 = (bytes_eq-Decides (codes "help") p.0).0 is in
            true≢false (subst (λ (name : Text). bytes_eq name (codes "help") ≡ false) (sym same) past)
        go false is f = true≢false (sym f)

-- words on which there is no fault are read
pub is_found : (words : List Text) → faults words ≡ [] → IsFound (command_in (subcommand_of ti_app words))
is_found words e = go stop (walk_past (built ti_app).top (names_of (built ti_app)) refl (walk_from nothing_held) rest level.0 tt) below here
  where
    rest : List Text
    rest = argument_words ti_app words

    stop : Option (Text × List Text)
    stop = (walk (built ti_app).top.rules (names_of (built ti_app)) nothing_held rest).stopped

    end : Held
    end = (walk (built ti_app).top.rules (names_of (built ti_app)) nothing_held rest).held

    level : (walk_fault (built ti_app).top (names_of (built ti_app)) (walk_from nothing_held) rest ≡ []) × (or_else (entered_fault (built ti_app) stop) (or_else (settle_fault (built ti_app).top.rules false end)
        (or_else (defaults_fault (settled (built ti_app).top.rules end).rows (built ti_app).top.rules) (check_fault (built ti_app).top (finished (built ti_app).top.rules end) (is_some (entered (built ti_app) stop))))) ≡ [])
    level = neither (walk_fault (built ti_app).top (names_of (built ti_app)) (walk_from nothing_held) rest) _ e

    below : entered_fault (built ti_app) stop ≡ []
    below = (neither (entered_fault (built ti_app) stop) _ level.1).0

    here : is_some (entered (built ti_app) stop) ≡ true
    here = by _ (neither (defaults_fault (settled (built ti_app).top.rules end).rows (built ti_app).top.rules) _ (neither (settle_fault (built ti_app).top.rules false end) _ (neither (entered_fault (built ti_app) stop) _ level.1).1).1).1
      where
        by : (has : Bool) → check_fault (built ti_app).top (finished (built ti_app).top.rules end) has ≡ [] → has ≡ true
        by true f = refl
        by false f = absurd (cc)

    go : (o : Option (Text × List Text)) → IfSome o (λ p. NotHelp p.0) → entered_fault (built ti_app) o ≡ [] → is_some (entered (built ti_app) o) ≡ true → IsFound (command_in (entered (built ti_app) o))
    go None past f h = absurd (true≢false (sym h))
    go (Some p) past f h = by (find (λ s. answers_to p.0 (label_of s)) (built ti_app).subs) (found_so (Finds p) (λ s. answers_to p.0 (label_of s)) (built ti_app).subs (all_find p past)) f h
      where
        by : (o : Option Shape) → IfSome o (Finds p) → option_map_or (λ s. level_fault s [] nothing_held p.1 false []) o [] ≡ [] → is_some (option_map (λ s. rows_at s p.1) o) ≡ true
            → IsFound (command_in (option_map (λ s. rows_at s p.1) o))
        by None asks f h = absurd (true≢false (sym h))
        by (Some s) asks f h = asks f

pub line_made : (words : List Text) → faults words ≡ [] → AreRead words
line_made words e = let (command, rows, is, complete) = is_found words e in (command, rows, (e, is))

-- words that are read have what is wanted
pub all_complete : (words : List Text) (command : Command) (rows : List Row) → Reads words command rows → IsComplete command rows
all_complete words command rows read =
    let (found, values, is, complete) = is_found words read.0 in
    let P : Command × List Row → Type 0 = λ p. IsComplete p.0 p.1 in
    subst P (same _ (found, values) (command, rows) is read.1) complete

-- ---- of a subcommand that was found

pub found_complete : (words : List Text) (name : Text) (rows : List Row) → Some (name, rows) ≡ subcommand_of ti_app words → faults words ≡ [] → IsFound (command_in (Some (name, rows)))
found_complete words name rows found none = subst IsFound (sym (ap command_in found)) (is_found words none)

pub known : (name : Text) (rows : List Row) → IsFound (command_in (Some (name, rows))) → is_some (command_of name) ≡ true
known name rows = go (command_of name)
  where
    go : (o : Option Command) → IsFound (option_map {U = Command × List Row} (λ command. (command, rows)) o) → is_some o ≡ true
    go None (command, values, is, whole) = absurd (none_some None _ refl is)
    go (Some found) f = refl

pub complete : (name : Text) (rows : List Row) → IsFound (command_in (Some (name, rows))) → IfSome (command_of name) (λ command. IsComplete command rows)
complete name rows = go (command_of name)
  where
    go : (o : Option Command) → IsFound (option_map {U = Command × List Row} (λ command. (command, rows)) o) → IfSome o (λ command. IsComplete command rows)
    go None f = tt
    go (Some found) (command, values, is, whole) =
        let P : Command × List Row → Type 0 = λ p. IsComplete p.0 p.1 in
        subst P (same _ (command, values) (found, rows) is refl) whole

pub of_found : (name : Text) (rows : List Row) (P : Command → Type 0) → IsFound (command_in (Some (name, rows))) → IfSome (command_of name) P → (command : Command) × (command_in (Some (name, rows)) ≡ Some (command, rows)) × P command
of_found name rows P = go (command_of name)
  where
    go : (o : Option Command) → IsFound (option_map {U = Command × List Row} (λ x. (x, rows)) o) → IfSome o P → (command : Command) × (option_map {U = Command × List Row} (λ x. (x, rows)) o ≡ Some (command, rows)) × P command
    go None (command, values, is, whole) p = absurd (none_some None _ refl is)
    go (Some found) f p = (found, refl, p)
