-- How the sets of parameters go on with each token; proofs/ ties them to the paths of a tree.
use Rattle.std.specs.Prelude.{ℕ, zero, suc, ◌+◌, ◌-◌, ◌^◌, ◌<◌, ◌≤◌, List, [], ◌∷◌, ◌++◌, take, drop, replicate, get_or, slice_set, if◌then◌else◌, bit_or}
use Rattle.ti_base.specs.Limits.{most_open, most_values}
use Rattle.ti_cap.specs.declared.language.Token.{Token}
use Rattle.ti_cap.specs.declared.language.Token.TheVariants.{Param, CondOpen, CondThen, CondElse, CondClose}
use Rattle.ti_cap.specs.declared.language.Conversion.{Conversion}
use Rattle.ti_cap.specs.declared.parameter_set.ParameterSet.{ParameterSet}
use Rattle.ti_cap.specs.declared.origins.Origins.{Origins}
use Rattle.ti_cap.specs.declared.gathering.OpenOrigins.{OpenOrigins}
use Rattle.ti_cap.specs.declared.gathering.Parameters.{Parameters}
use Rattle.ti_cap.specs.declared.gathering.Gathering.{Gathering}
use Rattle.ti_cap.specs.Height.{pops, pushes}
use Rattle.ti_cap.specs.Sources.{takes_text, is_text}

-- ---- sets of parameters

abbrev pub no_parameter : ParameterSet
no_parameter = record { mask = 0 }

abbrev pub united : ParameterSet → ParameterSet → ParameterSet
united a b = record { mask = bit_or a.mask b.mask }

abbrev pub only : ℕ → ParameterSet
only which = record { mask = 2 ^ (which - 1) }

-- ---- the sets of the places of the stack, the top first

abbrev pub no_origins : Origins
no_origins = record { sets = replicate most_values no_parameter }

abbrev pub popped : Origins → Origins
popped o = record { sets = drop 1 o.sets ++ no_parameter ∷ [] }

abbrev pub pushed : ParameterSet → Origins → Origins
pushed set o = record { sets = set ∷ take 31 o.sets }

abbrev pub join_sets : List ParameterSet → List ParameterSet → List ParameterSet
join_sets [] others = others
join_sets (a ∷ rest) [] = a ∷ rest
join_sets (a ∷ rest) (b ∷ others) = united a b ∷ join_sets rest others

abbrev pub joined : Origins → Origins → Origins
joined a b = record { sets = join_sets a.sets b.sets }

abbrev pub after_pops : ℕ → Origins → Origins
after_pops zero o = o
after_pops (suc n) o = after_pops n (popped o)

abbrev pub after_pushes : ℕ → ParameterSet → Origins → Origins
after_pushes zero set o = o
after_pushes (suc n) set o = after_pushes n set (pushed set o)

-- the parameter that a token names
abbrev pub named_by : Token → ParameterSet
named_by (Param which) = only which
named_by _ = no_parameter

-- a token that is met
abbrev pub after_token : Token → Origins → Origins
after_token token o = after_pushes (pushes token) (named_by token) (after_pops (pops token) o)

-- ---- what is gathered

abbrev pub fresh : OpenOrigins
fresh = record { failed = no_origins; done = no_origins }

abbrev pub no_gathering : Gathering
no_gathering = record {
  here = no_origins;
  opens = replicate most_open fresh;
  nesting = 0;
  found = record { named = no_parameter; texts = no_parameter };
}

-- the innermost open conditional
abbrev pub innermost : Gathering → OpenOrigins
innermost g = get_or g.opens (g.nesting - 1) fresh

abbrev pub after_open : Gathering → Gathering
after_open g = record g { opens = slice_set g.opens g.nesting fresh; nesting = g.nesting + 1 }

abbrev pub after_then : Gathering → Gathering
after_then g = record g {
  here = popped g.here;
  opens = slice_set g.opens (g.nesting - 1) (record (innermost g) { failed = joined (innermost g).failed (popped g.here) });
}

abbrev pub after_else : Gathering → Gathering
after_else g = record g {
  here = (innermost g).failed;
  opens = slice_set g.opens (g.nesting - 1) (record { failed = no_origins; done = joined (innermost g).done g.here });
}

abbrev pub after_close : Gathering → Gathering
after_close g = record g { here = joined (joined g.here (innermost g).failed) (innermost g).done; nesting = g.nesting - 1 }

-- with what a token names
abbrev pub with_named : Token → ParameterSet → ParameterSet
with_named (Param which) named = united named (only which)
with_named _ named = named

-- what is found after a token that is met
abbrev pub found_by : Token → Gathering → Parameters
found_by token g = record {
  named = with_named token g.found.named;
  texts = (if takes_text token then united g.found.texts (get_or g.here.sets 0 no_parameter) else g.found.texts);
}

abbrev pub gathered : Gathering → Token → Gathering
gathered g CondOpen = after_open g
gathered g CondThen = after_then g
gathered g CondElse = after_else g
gathered g CondClose = after_close g
gathered g token = record g { here = after_token token g.here; found = found_by token g }

-- a print by a conversion
abbrev pub after_print : Conversion → Gathering → Gathering
after_print conversion g = record g {
  here = popped g.here;
  found = record g.found {
    texts = (if is_text conversion then united g.found.texts (get_or g.here.sets 0 no_parameter) else g.found.texts);
  };
}

-- the token may stand here
abbrev pub IsTakeable : Token → ℕ → Type 0
IsTakeable (Param which) nesting = (1 ≤ which) × (which ≤ 9)
IsTakeable CondOpen nesting = nesting < most_open
IsTakeable CondThen nesting = 0 < nesting
IsTakeable CondElse nesting = 0 < nesting
IsTakeable CondClose nesting = 0 < nesting
IsTakeable token nesting = Unit {0}
