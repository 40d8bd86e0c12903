-- What a walk of `clap` keeps of the rows that it finds, if it finds no fault in the words.
use Rattle.std.proofs.Common.{◌≡◌, ◌&&◌, ◌++◌, ℕ, Bool, true, false, zero, suc, length, drop, refl, true≢false, List, [], ◌∷◌, Option, Some, None, is_some, cond, IfSome}
use Rattle.std.specs.Prelude.{encode_utf8, slice_get}
use Rattle.std.specs.List.{find, fold}
use Rattle.std.specs.Option.{option_map_or}
use Rattle.std.specs.Str.{bytes_eq, chars}
use Rattle.clap.specs.Lexer.{long_of, short_of}
use Rattle.clap.specs.Kinds.{Kinds, or_else}
use Rattle.clap.specs.Simple.{Shape}
use Rattle.clap.specs.Walk.{Held, Names, Outcome, Row, Rule, Step, Text, Waiting, Walk, action_of, after_flag, after_step, arg_by_id, arg_by_index, arg_by_long, arg_by_short, at_row, attached_value, bundle_met, bundle_step, default_rows, done, flag_met, has_row, is_pending, long_met, long_or_other, more_values, next, option, option_met, option_word, plain, plain_word, positional, idle, reacted, reading_by, refused, settled, settled_rows, short_met, short_or_plain, subcommand, subcommand_met, subcommand_or_other, takes_several, takes_values, to_positional, trailing, used, used_as, used_by_id, value, values_or_missing, waits, walk, walk_from, walked, walked_from, with_default, nothing_held, rows_after, with_values, without, word_met}
use Rattle.clap.specs.Faults.{bundle_fault, bundle_step_fault, flag_word_fault, flags_fault, long_fault, option_fault, other_fault, positional_fault, react_fault, settle_fault, short_fault, step_fault, level_fault, stray_fault, turn_fault, use_fault, walk_fault, word_fault}
use Rattle.clap.specs.declared.builder.action.ArgAction.{ArgAction}
use Rattle.clap.specs.declared.builder.action.ArgAction.TheVariants as action
use Rattle.clap.specs.declared.builder.value_parser.Reading.{Reading}
use Rattle.clap.specs.declared.error.kind.ErrorKind.TheVariants as kind
use Rattle.clap.specs.declared.parser.matches.ValueSource.{ValueSource}

-- ---- kinds

pub neither : (a b : Kinds) → or_else a b ≡ [] → (a ≡ []) × (b ≡ [])
neither [] b e = (refl, e)
neither (k ∷ ks) b e = absurd (cc)

-- ---- a fact of each

abbrev pub Each : {X : Type 0} → (X → Type 0) → List X → Type 0
Each P [] = Unit {0}
Each P (x ∷ xs) = P x × Each P xs

each_found : {X : Type 0} (P : X → Type 0) (test : X → Bool) (xs : List X) → Each P xs → IfSome (find test xs) P
each_found P test [] h = tt
each_found P test (x ∷ xs) h = go (test x) (each_found P test xs h.1)
  where
    go : (b : Bool) → IfSome (find test xs) P → IfSome (cond b (Some x) (find test xs)) P
    go true more = h.0
    go false more = more

each_append : {X : Type 0} (P : X → Type 0) (xs ys : List X) → Each P xs → Each P ys → Each P (xs ++ ys)
each_append P [] ys h k = k
each_append P (x ∷ xs) ys h k = (h.0, each_append P xs ys h.1 k)

-- ---- the row of an argument

-- the first of some values, with how they are read, is as `P` says
abbrev pub FirstIs : (Reading → Text → Type 0) → Reading → List Text → Type 0
FirstIs P how [] = ⊥
FirstIs P how (v ∷ vs) = P how v

-- a row of the argument has a first value that is as `P` says
abbrev pub Fits : Text → (Reading → Text → Type 0) → Row → Type 0
Fits id P r = bytes_eq r.id id ≡ true → FirstIs P r.reading r.values

abbrev IsFound : (Reading → Text → Type 0) → Option Row → Type 0
IsFound P o = IfSome o (λ x. FirstIs P x.reading x.values)

pub row_found : (id : Text) (P : Reading → Text → Type 0) (rows : List Row) → Each (Fits id P) rows → IfSome (find (λ r. bytes_eq r.id id) rows) (λ r. FirstIs P r.reading r.values)
row_found id P [] h = tt
row_found id P (r ∷ rs) h = go (bytes_eq r.id id) refl (row_found id P rs h.1)
  where
    go : (b : Bool) → bytes_eq r.id id ≡ b → IsFound P (find (λ x. bytes_eq x.id id) rs) → IsFound P (cond b (Some r) (find (λ x. bytes_eq x.id id) rs))
    go true e more = h.0 e
    go false e more = more

abbrev pub is_count : ArgAction → Bool
is_count action.Count = true
is_count _ = false

-- a use of the argument gives a row such a first value, and it has no default of its own
pub record Gives (id : Text) (P : Reading → Text → Type 0) (a : Rule) : Type 0 where
  pub uncounted : is_count (action_of a) ≡ false
  pub given : (again : Bool) (values : List Text) (rows : List Row) → use_fault again a values rows ≡ [] → bytes_eq a.id id ≡ true → FirstIs P (reading_by a) (values_or_missing a values)
  pub defaults : bytes_eq a.id id ≡ true → a.defaults ≡ []

module _ (id : Text) (P : Reading → Text → Type 0) where
  abbrev Fit : List Row → Type 0
  Fit = Each (Fits id P)

  abbrev G : Rule → Type 0
  G = Gives id P

  grown : (how : Reading) (vs ws : List Text) → FirstIs P how vs → FirstIs P how (vs ++ ws)
  grown how [] ws h = absurd h
  grown how (v ∷ vs) ws h = h

  at_row_fits : (name : Text) (change : Row → List Row) (missing rows : List Row) → ((r : Row) → Fits id P r → Fit (change r)) → Fit missing → Fit rows → Fit (at_row name change missing rows)
  at_row_fits name change missing [] c m h = m
  at_row_fits name change missing (r ∷ rs) c m h = go (bytes_eq r.id name) (at_row_fits name change missing rs c m h.1)
    where
      go : (b : Bool) → Fit (at_row name change missing rs) → Fit (cond b (change r ++ rs) (r ∷ at_row name change missing rs))
      go true more = each_append (Fits id P) (change r) rs (c r h.0) h.1
      go false more = (h.0, more)

  with_values_fits : (name : Text) (how : Reading) (s : ValueSource) (values : List Text) (rows : List Row) → (bytes_eq name id ≡ true → FirstIs P how values) → Fit rows → Fit (with_values name how s values rows)
  with_values_fits name how s values rows first h =
      at_row_fits name (more_values s values) _ rows (λ r f. (λ e. grown r.reading r.values values (f e), tt)) (first, tt) h

  without_fits : (name : Text) (rows : List Row) → Fit rows → Fit (without name rows)
  without_fits name rows h = at_row_fits name (λ _. []) [] rows (λ r f. tt) tt h

  used_as_fits : (x : ArgAction) (name : Text) (how : Reading) (values : List Text) (rows : List Row) → is_count x ≡ false → (bytes_eq name id ≡ true → FirstIs P how values) → Fit rows
      → Fit (used_as x name how values rows)
  used_as_fits action.Set name how values rows c first h = with_values_fits name how _ values _ first (without_fits name rows h)
  used_as_fits action.SetTrue name how values rows c first h = with_values_fits name how _ values _ first (without_fits name rows h)
  used_as_fits action.SetFalse name how values rows c first h = with_values_fits name how _ values _ first (without_fits name rows h)
  used_as_fits action.Append name how values rows c first h = with_values_fits name how _ values rows first h
  used_as_fits action.Count name how values rows c first h = absurd (true≢false c)
  used_as_fits action.Help name how values rows c first h = h
  used_as_fits action.HelpShort name how values rows c first h = h
  used_as_fits action.HelpLong name how values rows c first h = h
  used_as_fits action.Version name how values rows c first h = h

  used_fits : (again : Bool) (a : Rule) (values : List Text) (rows : List Row) → G a → use_fault again a values rows ≡ [] → Fit rows → Fit (used a values rows)
  used_fits again a values rows g e h = used_as_fits (action_of a) a.id (reading_by a) (values_or_missing a values) rows g.uncounted (g.given again values rows e) h

  -- ---- the walk

  module _ (c : List Rule) (again : Bool) (all : Each G c) where
    settled_fits : (h : Held) → settle_fault c again h ≡ [] → Fit h.rows → Fit (settled c h).rows
    settled_fits h e f = go h.pending e
      where
        by : (o : Option Rule) (values : List Text) → IfSome o G → option_map_or (λ a. use_fault again a values h.rows) o [] ≡ [] → Fit (used_by_id o values h.rows)
        by None values g e = f
        by (Some a) values g e = used_fits again a values h.rows g e f

        go : (p : Option (Text × List Text)) → option_map_or (λ p. option_map_or (λ a. use_fault again a p.1 h.rows) (arg_by_id c p.0) []) p [] ≡ [] → Fit (settled_rows c p h.rows)
        go None e = f
        go (Some p) e = by (arg_by_id c p.0) p.1 (each_found G _ c all) e

    reacted_fits : (a : Rule) (values : List Text) (h : Held) → G a → react_fault c again a values h ≡ [] → Fit h.rows → Fit (reacted c a values h).rows
    reacted_fits a values h g e f =
        let parts = neither (settle_fault c again h) (use_fault again a values (settled c h).rows) e in
        used_fits again a values (settled c h).rows g parts.1 (settled_fits h parts.0 f)

    option_met_fits : (a : Rule) (v : Option Text) (h : Held) → G a → option_fault c again a v h ≡ [] → Fit h.rows → Fit (option_met c a v h).0.rows
    option_met_fits a (Some v) h g e f = reacted_fits a (v ∷ []) h g e f
    option_met_fits a None h g e f = settled_fits h e f

    long_met_fits : (o : Option Rule) (v : Option Text) (h : Held) → IfSome o G → long_fault c again o v h ≡ [] → Fit h.rows → Fit (long_met c o v h).0.rows
    long_met_fits None v h g e f = f
    long_met_fits (Some a) v h g e f = go (takes_values a) e
      where
        flag : (v : Option Text) → cond (is_some v) (kind.TooManyValues ∷ []) (react_fault c again a [] h) ≡ [] → Fit (flag_met c a v h).0.rows
        flag (Some x) e = f
        flag None e = reacted_fits a [] h g e f

        go : (b : Bool) → cond b (option_fault c again a v h) (cond (is_some v) (kind.TooManyValues ∷ []) (react_fault c again a [] h)) ≡ []
            → Fit (cond b (option_met c a v h) (flag_met c a v h)).0.rows
        go true e = option_met_fits a v h g e f
        go false e = flag v e

    -- the rest of a bundle keeps it
    abbrev GoesOn : ℕ → Type 0
    GoesOn k = (rest : Text) (skip : ℕ) (so_far : Outcome) (h : Held) → flags_fault c again k rest skip h ≡ [] → Fit h.rows → Fit (bundle_met c k rest skip so_far h).0.rows

    bundle_met_fits : (k : ℕ) (flags : Text) (skip : ℕ) (so_far : Outcome) (h : Held) → flags_fault c again k flags skip h ≡ [] → Fit h.rows → Fit (bundle_met c k flags skip so_far h).0.rows
    unfolding bundle_met flags_fault
    bundle_met_fits zero flags skip so_far h e f = f
    bundle_met_fits (suc k) flags skip so_far h e f = go (slice_get (chars flags) 0) skip e (λ rest left so held e f. bundle_met_fits k rest left so held e f)
      where
        short : GoesOn k → (o : Option Rule) (rest : Text) → IfSome o G → short_fault c again o rest h (flags_fault c again k rest 0) ≡ [] → Fit (short_met c o rest h (bundle_met c k rest 0 done)).0.rows
        short on None rest g e = f
        short on (Some a) rest g e = by (takes_values a) e
          where
            by : (b : Bool) → cond b (option_fault c again a (attached_value rest) h) (or_else (react_fault c again a [] h) (flags_fault c again k rest 0 (reacted c a [] h))) ≡ []
                → Fit (cond b (option_met c a (attached_value rest) h) (bundle_met c k rest 0 done (reacted c a [] h))).0.rows
            by true e = option_met_fits a (attached_value rest) h g e f
            by false e =
                let parts = neither (react_fault c again a [] h) _ e in
                on rest 0 done (reacted c a [] h) parts.1 (reacted_fits a [] h g parts.0 f)

        go : (x : Option ℕ) (skip : ℕ) → bundle_step_fault c again x flags skip h (flags_fault c again k) ≡ [] → GoesOn k → Fit (bundle_step c x flags skip so_far h (bundle_met c k)).0.rows
        go None skip e on = f
        go (Some x) zero e on = short on (arg_by_short c x) (drop (length (encode_utf8 x)) flags) (each_found G _ c all) e
        go (Some x) (suc skip) e on = on (drop (length (encode_utf8 x)) flags) skip so_far h e f

    plain_word_fits : (waiting : Waiting) (word : Text) (h : Held) → Fit h.rows → Fit (plain_word c waiting word h).0.rows
    plain_word_fits (option name) word h f = go (arg_by_id c name)
      where
        go : (o : Option Rule) → Fit (option_word o name word h).0.rows
        go None = f
        go (Some a) = f
    plain_word_fits idle word h f = f
    plain_word_fits positional word h f = f

    after_flag_fits : (waiting : Waiting) (word : Text) (h : Held) (x : Outcome) → Fit h.rows → Fit (after_flag c waiting word h x).0.rows
    after_flag_fits waiting word h done f = f
    after_flag_fits waiting word h (waits name) f = f
    after_flag_fits waiting word h plain f = plain_word_fits waiting word h f
    after_flag_fits waiting word h refused f = plain_word_fits waiting word h f

    short_or_plain_fits : (waiting : Waiting) (word : Text) (o : Option Text) (h : Held) → option_map_or (λ flags. bundle_fault c again flags h) o [] ≡ [] → Fit h.rows
        → Fit (short_or_plain c waiting word o h).0.rows
    short_or_plain_fits waiting word None h e f = plain_word_fits waiting word h f
    short_or_plain_fits waiting word (Some flags) h e f =
        after_flag_fits waiting word _ _ (bundle_met_fits (length flags) flags h.skip plain (record h { skip = 0 }) e f)

    long_or_other_fits : (waiting : Waiting) (word : Text) (o : Option (Text × Option Text)) (h : Held) → flag_word_fault c again o word h ≡ [] → Fit h.rows
        → Fit (long_or_other c waiting word o h).0.rows
    long_or_other_fits waiting word None h e f = short_or_plain_fits waiting word (short_of word) h e f
    long_or_other_fits waiting word (Some p) h e f =
        after_flag_fits waiting word _ _ (long_met_fits (arg_by_long c p.0) p.1 h (each_found G _ c all) e f)

    to_positional_fits : (o : Option Rule) (word : Text) (w : Walk) (h : Held) → option_map_or (λ a. positional_fault c again a h) o [] ≡ [] → Fit h.rows → Fit (to_positional c o word w h).held.rows
    to_positional_fits None word w h e f = f
    to_positional_fits (Some a) word w h e f = go (is_pending a h.pending && takes_several a) e
      where
        go : (b : Bool) → cond b [] (settle_fault c again h) ≡ [] → Fit (cond b h (settled c h)).rows
        go true e = f
        go false e = settled_fits h e f

  module _ (s : Shape) (names : Names) (all : Each G s.rules) where
    word_met_fits : (is_trailing : Bool) (waiting : Waiting) (position : ℕ) (word : Text) (h : Held) → word_fault s names is_trailing waiting word h ≡ [] → Fit h.rows
        → Fit (word_met s.rules names is_trailing waiting position word h).0.rows
    word_met_fits true waiting position word h e f = f
    word_met_fits false waiting position word h e f = by (subcommand_met names waiting word) e
      where
        by : (o : Option Text) → other_fault s o word h ≡ [] → Fit (subcommand_or_other s.rules o waiting position word h).0.rows
        by (Some name) e = f
        by None e = go (bytes_eq word (45 ∷ 45 ∷ [])) e
          where
            go : (b : Bool) → cond b [] (flag_word_fault s.rules s.args_override_self (long_of word) word h) ≡ []
                → Fit (cond b (h, trailing position) (long_or_other s.rules waiting word (long_of word) h)).0.rows
            go true e = f
            go false e = long_or_other_fits s.rules s.args_override_self all waiting word (long_of word) h e f

    after_step_fits : (word : Text) (w : Walk) (h : Held) (x : Step) → step_fault s w.position h x ≡ [] → Fit h.rows → Fit (after_step s.rules word w h x).held.rows
    after_step_fits word w h (next waiting) e f = f
    after_step_fits word w h (trailing position) e f = f
    after_step_fits word w h (subcommand name) e f = f
    after_step_fits word w h value e f = go (arg_by_index s.rules w.position) e
      where
        go : (o : Option Rule) → option_map_or (λ a. positional_fault s.rules s.args_override_self a h) o (stray_fault s) ≡ [] → Fit (to_positional s.rules o word w h).held.rows
        go None e = f
        go (Some a) e = to_positional_fits s.rules s.args_override_self all (Some a) word w h e f

    turn_fits : (w : Walk) (word : Text) → turn_fault s names w word ≡ [] → Fit w.held.rows → Fit (walked s.rules names w word).held.rows
    unfolding walked
    turn_fits w word e f = go w.stopped e
      where
        go : (o : Option (Text × List Text))
            → cond (is_some o) [] (or_else (word_fault s names w.is_trailing w.waiting word w.held)
            (step_fault s w.position (word_met s.rules names w.is_trailing w.waiting w.position word w.held).0 (word_met s.rules names w.is_trailing w.waiting w.position word w.held).1)) ≡ []
            → Fit (walked_from s.rules names o w word).held.rows
        go (Some p) e = f
        go None e =
            let parts = neither (word_fault s names w.is_trailing w.waiting word w.held) _ e in
            after_step_fits word w _ _ parts.1 (word_met_fits w.is_trailing w.waiting w.position word w.held parts.0 f)

    walk_fits : (w : Walk) (words : List Text) → walk_fault s names w words ≡ [] → Fit w.held.rows → Fit (fold (walked s.rules names) w words).held.rows
    unfolding walk_fault
    walk_fits w [] e f = f
    walk_fits w (word ∷ rest) e f =
        let parts = neither (turn_fault s names w word) _ e in
        walk_fits (walked s.rules names w word) rest parts.1 (turn_fits w word parts.0 f)

  defaults_fit : (c : List Rule) (rows : List Row) → Each G c → Fit rows → Fit (fold with_default rows c)
  defaults_fit [] rows all f = f
  defaults_fit (a ∷ rest) rows all f = defaults_fit rest (with_default rows a) all.1 (go (has_row a.id rows))
    where
      by : (values : List Text) → (bytes_eq a.id id ≡ true → values ≡ []) → Fit (default_rows a.id (reading_by a) values rows)
      by [] none = f
      by (v ∷ vs) none = with_values_fits a.id (reading_by a) _ (v ∷ vs) rows (λ e. absurd (cc (none e))) f

      go : (b : Bool) → Fit (cond b rows (default_rows a.id (reading_by a) a.defaults rows))
      go true = f
      go false = by a.defaults all.0.defaults

  -- the rows of a level of the command on which there is no fault
  pub rows_fit : (s : Shape) (names : Names) (words : List Text) → Each G s.rules → level_fault s names nothing_held words false [] ≡ [] → Fit (rows_after s.rules names words)
  rows_fit s names words all e =
      let walked = neither (walk_fault s names (walk_from nothing_held) words) _ e in
      let end = (walk s.rules names nothing_held words).held in
      let settled_end = neither (settle_fault s.rules s.args_override_self end) _ walked.1 in
      defaults_fit s.rules (settled s.rules end).rows all (settled_fits s.rules s.args_override_self all end settled_end.0 (walk_fits s names all (walk_from nothing_held) words walked.0 tt))
