-- What an error of `clap` tells explains why the words give no line.
use Rattle.std.proofs.Common.{◌≡◌, ◌∙◌, ◌⊎◌, ◌||◌, Bool, true, false, not, List, [], ◌∷◌, inl, inr, refl, sym, ap, subst, true≢false}
use Rattle.std.specs.List.{list_any}
use Rattle.clap.specs.Words.{Kinds, Text, IsAmong}
use Rattle.clap.specs.declared.error.kind.ErrorKind.{ErrorKind}
use Rattle.clap.specs.declared.error.kind.ErrorKind.TheVariants as kind
use Rattle.ti_line.specs.CommandLine.{faults, is_help}
use Rattle.ti_line.specs.Requests.{Explains}
use Rattle.ti_line.specs.inner.Errors.{TellsOf}
use Rattle.ti_line.specs.declared.destination.Destination.{Destination}
use Rattle.ti_line.specs.declared.no_request.NoRequest.{NoRequest}
use Rattle.ti_line.specs.declared.no_request.NoRequest.TheVariants as no_request

any_of : (p : ErrorKind → Bool) (k : ErrorKind) (ks : Kinds) → IsAmong k ks → p k ≡ true → list_any p ks ≡ true
any_of p k [] h t = elim h [ ]
any_of p k (x ∷ ks) (inl e) t = rw (← e, t) refl
any_of p k (x ∷ ks) (inr h) t = or_true (p x) _ (any_of p k ks h t)
  where
    or_true : (a b : Bool) → b ≡ true → (a || b) ≡ true
    or_true true b h = refl
    or_true false b h = h

pub explains : (to : Destination) (words : List Text) (ks : Kinds) (k : ErrorKind) (why : NoRequest) → ks ≡ faults words → (k ≡ kind.OutOfMemory) ⊎ IsAmong k ks → TellsOf k why → Explains to words why
explains to words ks k (no_request.Help message) e (inl m) t = absurd (true≢false (sym t ∙ ap is_help m))
explains to words ks k (no_request.Help message) e (inr a) t = subst (λ (l : Kinds). list_any is_help l ≡ true) e (any_of is_help k ks a t)
explains to words ks k (no_request.Refused message) e (inl m) t = absurd (t.1 m)
explains to words ks k (no_request.Refused message) e (inr a) t =
    subst (λ (l : Kinds). list_any (λ x. not (is_help x)) l ≡ true) e (any_of (λ x. not (is_help x)) k ks a (ap not t.0))
explains to words ks k (no_request.Fault why) e h t = absurd t
explains to words ks k (no_request.Explanation named) e h t = absurd t
explains to words ks k no_request.Memory e h t = tt
