-- The paths of a tree: which tokens are met if each test may go either way.
use Rattle.std.specs.Prelude.{◌≡◌, Bool, true, false, List, [], ◌∷◌, ◌++◌, ◌⊎◌, map}
use Rattle.ti_cap.specs.declared.language.Token.{Token}
use Rattle.ti_cap.specs.Tree.{Sequence, Empty, Simple, Conditional, Arms, Lone, Else, ElseIf, tokens, arm_tokens, closing}

-- A walk says of each token whether it is met: true if it is, false if it is passed over.
abbrev pub Walk : Type 0
Walk = List Bool

-- the walk that passes all of these over, and the one that meets all
abbrev pub none_met : List Token → Walk
none_met ks = map (λ _. false) ks

abbrev pub all_met : List Token → Walk
all_met ks = map (λ _. true) ks

abbrev mutual
  pub IsWalk : Sequence → Walk → Type 0
  IsWalk Empty w = w ≡ []
  IsWalk (Simple token rest) w = (v : Walk) × IsWalk rest v × (w ≡ true ∷ v)
  IsWalk (Conditional arms closed rest) w =
      (u : Walk) × (v : Walk) × IsArmWalk arms u × IsWalk rest v
      × (w ≡ true ∷ (u ++ (all_met (closing closed) ++ v)))

  -- of each arm that is met its test, and then its body and the `%e` after it if it is taken;
  -- else that `%e` and what follows
  pub IsArmWalk : Arms → Walk → Type 0
  IsArmWalk (Lone test body) w =
      (t : Walk) × (v : Walk) × IsWalk test t × (IsWalk body v ⊎ (v ≡ none_met (tokens body))) × (w ≡ t ++ true ∷ v)
  IsArmWalk (Else test body otherwise) w =
      (t : Walk) × (v : Walk) × (o : Walk) × IsWalk test t
      × ((IsWalk body v × (o ≡ none_met (tokens otherwise))) ⊎ ((v ≡ none_met (tokens body)) × IsWalk otherwise o))
      × (w ≡ t ++ true ∷ (v ++ true ∷ o))
  IsArmWalk (ElseIf test body arms) w =
      (t : Walk) × (v : Walk) × (o : Walk) × IsWalk test t
      × ((IsWalk body v × (o ≡ none_met (arm_tokens arms))) ⊎ ((v ≡ none_met (tokens body)) × IsArmWalk arms o))
      × (w ≡ t ++ true ∷ (v ++ true ∷ o))

-- the tokens that a walk meets, as far as the list of tokens goes
abbrev pub path_of : Walk → List Token → List Token
path_of [] ks = []
path_of (m ∷ w) [] = []
path_of (true ∷ w) (k ∷ ks) = k ∷ path_of w ks
path_of (false ∷ w) (k ∷ ks) = path_of w ks

-- a path: the tokens that some walk meets
abbrev pub IsPath : Sequence → List Token → Type 0
IsPath s path = (w : Walk) × IsWalk s w × (path ≡ path_of w (tokens s))
