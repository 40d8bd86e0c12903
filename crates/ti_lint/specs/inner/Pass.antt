-- A pass over the tokens, with the facts of those paths that wait in open conditionals.
use Rattle.std.specs.Prelude.{◌≡◌, ℕ, ◌+◌, ◌-◌, ◌<◌, List, [], ◌∷◌, replicate, get_or, slice_set}
use Rattle.ti_base.specs.Limits.{most_open}
use Rattle.ti_cap.specs.declared.language.Token.{Token}
use Rattle.ti_cap.specs.declared.language.Token.TheVariants.{CondOpen, CondThen, CondElse, CondClose}
use Rattle.ti_cap.specs.Spelling.{Written}
use Rattle.ti_cap.specs.Capability.{Spot, IsWellFormed, whole}
use Rattle.ti_lint.specs.declared.pass.OpenFacts.{OpenFacts}
use Rattle.ti_lint.specs.declared.pass.Pass.{Pass}
use Rattle.ti_lint.specs.inner.Facts.{no_facts, first_facts, joined, after_token, IsLettered}

abbrev pub fresh : OpenFacts
fresh = record { failed = no_facts; done = no_facts }

abbrev pub first_pass : Pass
first_pass = record { here = first_facts; opens = replicate most_open fresh; nesting = 0 }

-- the innermost open conditional
abbrev pub innermost : Pass → OpenFacts
innermost p = get_or p.opens (p.nesting - 1) fresh

abbrev pub with_innermost : Pass → OpenFacts → List OpenFacts
with_innermost p one = slice_set p.opens (p.nesting - 1) one

abbrev pub after_open : Pass → Pass
after_open p = record p { opens = slice_set p.opens p.nesting fresh; nesting = p.nesting + 1 }

abbrev pub after_then : Pass → Pass
after_then p = record p {
  here = after_token CondThen p.here;
  opens = with_innermost p (record (innermost p) { failed = joined (innermost p).failed (after_token CondThen p.here) });
}

abbrev pub after_else : Pass → Pass
after_else p = record p {
  here = (innermost p).failed;
  opens = with_innermost p (record { failed = no_facts; done = joined (innermost p).done p.here });
}

abbrev pub after_close : Pass → Pass
after_close p = record p { here = joined (joined p.here (innermost p).failed) (innermost p).done; nesting = p.nesting - 1 }

-- one token more
abbrev pub passed : Pass → Token → Pass
passed p CondOpen = after_open p
passed p CondThen = after_then p
passed p CondElse = after_else p
passed p CondClose = after_close p
passed p token = record p { here = after_token token p.here }

-- the tokens, in order
abbrev pub passed_all : Pass → List Token → Pass
passed_all p [] = p
passed_all p (token ∷ rest) = passed_all (passed p token) rest

-- the token may stand here
abbrev pub IsTakeable : Token → ℕ → Type 0
IsTakeable CondOpen nesting = nesting < most_open
IsTakeable CondThen nesting = 0 < nesting
IsTakeable CondElse nesting = 0 < nesting
IsTakeable CondClose nesting = 0 < nesting
IsTakeable token nesting = IsLettered token

-- the pass has come to this place of a capability
pub record IsAt (spot : Spot) (p : Pass) : Type 0 where
  pub formed : IsWellFormed (whole spot)
  pub before : List Token
  pub after : List Token
  pub taken : Written before spot.taken
  pub left : Written after spot.left
  pub pass : p ≡ passed_all first_pass before
