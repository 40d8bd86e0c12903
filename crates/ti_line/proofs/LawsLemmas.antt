-- The laws, over plain lists of kinds and any value.
use Rattle.std.proofs.Common.{◌≡◌, ◌∙◌, ◌⊎◌, ◌||◌, Bool, true, false, not, [], ◌∷◌, inl, inr, refl, sym, subst}
use Rattle.std.specs.Prelude.{Option, Some, None, IfSome}
use Rattle.std.specs.List.{list_any}
use Rattle.clap.specs.Words.{Kinds}
use Rattle.clap.specs.declared.error.kind.ErrorKind.{ErrorKind}
use Rattle.ti_line.specs.CommandLine.{is_help}

-- ---- options

pub some_is : {X : Type 0} (o : Option X) (P : X → Type 0) (x : X) → IfSome o P → o ≡ Some x → P x
some_is {X = X} o P x h e = subst (λ (q : Option X). IfSome q P) e h

pub same : {X : Type 0} (o : Option X) (x y : X) → o ≡ Some x → o ≡ Some y → x ≡ y
same {X = X} o x y e f =
    let g : Some x ≡ Some y = sym e ∙ f in
    some_is (Some y) (λ z. x ≡ z) y (subst (λ (q : Option X). IfSome q (λ z. x ≡ z)) g refl) refl

pub none_some : {X : Type 0} (o : Option X) (x : X) → o ≡ None → o ≡ Some x → ⊥
none_some {X = X} o x e f = subst (λ (q : Option X). IfSome q (λ z. ⊥)) (sym e ∙ f) tt

-- ---- kinds

pub none_any : (p : ErrorKind → Bool) (ks : Kinds) → ks ≡ [] → list_any p ks ≡ true → false ≡ true
none_any p ks e h = subst (λ (l : Kinds). list_any p l ≡ true) e h

help_or_not : (b x y : Bool) → (b || x ≡ true) ⊎ (not b || y ≡ true)
help_or_not true x y = inl refl
help_or_not false x y = inr refl

-- the three answers, of any kinds and what words without a fault make
pub three : {Line : Type 0} (ks : Kinds) → (ks ≡ [] → Line)
    → Line ⊎ ((list_any is_help ks ≡ true) ⊎ (list_any (λ k. not (is_help k)) ks ≡ true))
three [] line = inl (line refl)
three (k ∷ ks) line = inr (help_or_not (is_help k) (list_any is_help ks) (list_any (λ x. not (is_help x)) ks))
