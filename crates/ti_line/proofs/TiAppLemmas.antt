-- `clap`'s words on simple commands hold of `ti`.
use Rattle.std.proofs.Common.{◌≡◌, ◌∙◌, List, true, refl, sym, ap, ap₂, subst}
use Rattle.std.specs.Prelude.{Option, Some, None, Result, Ok, Err, IsErrAnd, option_map}
use Rattle.clap.specs.declared.error.Error.{Error}
use Rattle.clap.specs.Words.{App, HasKind, HasMatchesOf, Kinds, Row, Text, FailsBy, found_of, is_simple, matches_of, rows_of, subcommand_name_of, subcommand_of, subcommand_rows, subcommand_rows_of}
use Rattle.clap.specs.declared.parser.matches.ArgMatches.{ArgMatches}
use Rattle.clap.specs.declared.parser.matches.ArgMatches.TheViews.{out-ArgMatches}
use Rattle.clap.specs.Faults.{is_simple_and_free, fault_of}
use Rattle.clap.proofs.OnLiterals.{clap_on_literals}
use Rattle.ti_line.specs.CommandLine.{ti_app}
use Rattle.ti_line.proofs.LawsLemmas.{none_some, same}

pub ti_is_simple : is_simple ti_app ≡ true
unfolding clap_on_literals
ti_is_simple = refl

pub ti_is_free : is_simple_and_free ti_app ≡ true
unfolding clap_on_literals
ti_is_free = refl

-- what `clap` says of faults, of `ti`
pub ti_fails : {T : Type 0} (a : App) (words : List Text) (r : Result T Error) → a ≡ ti_app
    → (is_simple_and_free a ≡ true → FailsBy (fault_of a words) r) → FailsBy (fault_of ti_app words) r
ti_fails a words r e h = subst (λ (x : App). FailsBy (fault_of x words) r) e (h (ap is_simple_and_free e ∙ ti_is_free))

-- an error that is handed on has its kind still
pub fails_again : {T : Type 0} (kinds : Kinds) (e : Error) (r : Result T Error) → IsErrAnd r (λ x. x ≡ e) → HasKind kinds e → FailsBy kinds r
fails_again kinds e (Ok x) q h = elim q [ ]
fails_again kinds e (Err x) q h = subst (HasKind kinds) (sym q) h

-- ---- the subcommand

-- an option's two parts are those of the pair
paired : {B : Type 0} (o : Option B) (f : B → Text) (g : B → List Row) (name : Text) (rows : List Row)
    → option_map f o ≡ Some name → option_map (λ (p : Text × List Row). p.1) (option_map {U = Text × List Row} (λ b. (f b, g b)) o) ≡ Some rows
    → option_map {U = Text × List Row} (λ b. (f b, g b)) o ≡ Some (name, rows)
paired None f g name rows e h = absurd (none_some None name refl e)
paired (Some b) f g name rows e h = ap₂ (λ n r. Some (n, r)) (same _ _ name refl e) (same _ _ rows refl h)

-- the subcommand and its values are those that the definition gives
pub ti_finds : (a : App) (words : List Text) (m : ArgMatches) (name : Text) (rows : List Row) → a ≡ ti_app → HasMatchesOf a words m
    → subcommand_name_of m ≡ Some name → option_map (λ p. p.1) (subcommand_rows (out-ArgMatches m).subcommand) ≡ Some rows
    → Some (name, rows) ≡ subcommand_of ti_app words
ti_finds a words m name rows e h named given =
    let here = paired (out-ArgMatches m).subcommand _ _ name rows named given in
    let there = (subst (λ (x : App). is_simple x ≡ true → (rows_of (found_of m) ≡ matches_of x words) × (subcommand_rows_of m ≡ subcommand_of x words)) e h) ti_is_simple in
    sym here ∙ there.1
