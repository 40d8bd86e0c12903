-- What the tokens of a conditional do to what waits in it.
use Rattle.std.specs.Prelude.{◌≡◌, ℕ, ℤ, List, [], ◌∷◌, ◌++◌}
use Rattle.ti_cap.specs.declared.language.Token.{Token}
use Rattle.ti_cap.specs.Path.{IsPath}
use Rattle.ti_cap.specs.Spelling.{Writes}
use Rattle.ti_cap.specs.Tree.{Sequence}
use Rattle.ti_expand.specs.Sound.{AreVariables}
use Rattle.ti_expand.specs.StackHeight.{state_after}
use Rattle.ti_expand.specs.State.{State, start}
use Rattle.ti_expand.specs.declared.values.Value.{Value}
use Rattle.ti_parser.specs.inner.Receivers.{IsAmong, Moment}
use Rattle.ti_parser.specs.Covers.{IsCovered}
use Rattle.ti_parser.specs.Given.{AreGiven}
use Rattle.ti_parser.specs.Paths.{Leads, Point, Waiting}
use Rattle.ti_parser.specs.declared.configuration.Configuration.{Configuration}
use Rattle.ti_parser.specs.declared.function.Function.{Function}
use Rattle.ti_parser.specs.declared.reading.Reception.{Reception}
use Rattle.ti_parser.specs.declared.receiver.Receiver.{Receiver}
use Rattle.ti_parser.specs.Tops.{AreTops}

-- what waits in the innermost conditional is another, and the rest stays
pub record IsChanged (old new : List Waiting) : Type 0 where
  pub rest : List Waiting
  pub before : Waiting
  pub after : Waiting
  pub old_is : old ≡ rest ++ before ∷ []
  pub new_is : new ≡ rest ++ after ∷ []

-- what is in the first point is in the second
abbrev pub PointMore : Point → Point → Type 0
PointMore few many = (m : Moment) (s : State) → IsAmong few.parsers m → AreTops few.tops s → IsAmong many.parsers m × AreTops many.tops s

-- after `%t` the paths that are here wait too
pub record IsTested (here : Point) (old new : List Waiting) : Type 0 where
  pub opens : IsChanged old new
  pub failed : PointMore opens.before.failed opens.after.failed
  pub here_failed : PointMore here opens.after.failed
  pub done : opens.before.done ≡ opens.after.done

-- after `%e` they wait for the end, and those that waited are here
pub record IsTurned (here : Point) (old : List Waiting) (now : Point) (new : List Waiting) : Type 0 where
  pub opens : IsChanged old new
  pub failed : opens.before.failed ≡ now
  pub done : PointMore opens.before.done opens.after.done
  pub here_done : PointMore here opens.after.done

-- after `%;` all are here
pub record IsLeft (here : Point) (old : List Waiting) (now : Point) (new : List Waiting) : Type 0 where
  pub inner : Waiting
  pub old_is : old ≡ new ++ inner ∷ []
  pub ran : PointMore here now
  pub failed : PointMore inner.failed now
  pub done : PointMore inner.done now

-- the output of each path leads to one of these parsers
abbrev pub LeadsAll : Reception → List ℕ → List Receiver → List Function → Type 0
LeadsAll r bytes parsers sent = (tree : Sequence) (path : List Token) → Writes tree bytes → IsPath tree path
    → (variables : List ℤ) (parameters : List Value) → AreVariables variables → AreGiven r.first_character parameters → Leads r parsers sent (state_after path (start variables parameters)).output

-- the parsers of these receivers that may be at the end of a text, and those before, are among the second
abbrev pub EndMore : List Receiver → List Configuration → List Configuration → Type 0
EndMore receivers before ends = ((c : Configuration) → IsCovered before c → IsCovered ends c)
    × ((m : Moment) → m.rest ≡ [] → IsAmong receivers m → IsCovered ends m.parser)
