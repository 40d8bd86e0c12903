-- A token of a capability, and what comes before and after it on the paths that meet it.
use Rattle.std.specs.Prelude.{◌≡◌, ℕ, List, [], ◌∷◌, ◌++◌}
use Rattle.ti_cap.specs.declared.language.Token.{Token}
use Rattle.ti_cap.specs.Tree.{Sequence, tokens}
use Rattle.ti_cap.specs.Path.{Walk, IsWalk, path_of}
use Rattle.ti_cap.specs.Spelling.{Written, Writes}

-- A tree writes the bytes, and the token stands in it after those taken.
pub record Stands (bytes taken : List ℕ) (token : Token) : Type 0 where
  pub tree : Sequence
  pub writes : Writes tree bytes
  pub before : List Token
  pub after : List Token
  pub spans : tokens tree ≡ before ++ token ∷ after
  pub written : Written before taken

-- One of the tree's walks meets the token. What the walk meets before that token and after it is so.
pub record OnSomePath (bytes taken : List ℕ) (token : Token) (is_so : List Token → List Token → Type 0) : Type 0 where
  pub stands : Stands bytes taken token
  pub walk : Walk
  pub walked : IsWalk stands.tree walk
  pub met : path_of walk (stands.before ++ token ∷ []) ≡ path_of walk stands.before ++ token ∷ []
  pub ahead : List Token
  pub follows : path_of walk (tokens stands.tree) ≡ path_of walk (stands.before ++ token ∷ []) ++ ahead
  pub so : is_so (path_of walk stands.before) ahead
