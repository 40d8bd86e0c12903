-- The derived `==` of tokens decides whether they are the same.
use Rattle.std.proofs.Common.{◌≡◌, ◌∙◌, ◌&&◌, ℕ, Bool, rules, true, false, ap, refl, nat_eq, subst, sym, eqb-true, eq-eqb, true≢false}
use Rattle.std.specs.Prelude.{ℤ, Option, Some, None}
use Rattle.std.specs.Bool.{Decides}
use Rattle.std.specs.Cmp.{booleans_Decides}
use Rattle.std.specs.Cmp.Derive.{both_true}
use Rattle.std.specs.Option.{option_eq}
use Rattle.ti_cap.specs.declared.language.Conversion.{Conversion}
use Rattle.ti_cap.specs.declared.language.Format.{Format}
use Rattle.ti_cap.specs.declared.language.Op.{Op}
use Rattle.ti_cap.specs.declared.language.Token.{Token}
use Rattle.ti_cap.specs.declared.language.Token.TheVariants.{Byte, Param, Constant, Store, Load, Length, Compute, Increment, Char, Print, CondOpen, CondThen, CondElse, CondClose}
use Rattle.ti_cap.specs.contracts.language.ConversionPartialEq as conversion_eq
use Rattle.ti_cap.specs.contracts.language.FormatPartialEq as format_eq
use Rattle.ti_cap.specs.contracts.language.OpPartialEq as op_eq
use Rattle.ti_cap.specs.contracts.language.TokenPartialEq as token_eq

both : (a b : Bool) → (a && b) ≡ true → (a ≡ true) × (b ≡ true)
both true b e = (refl, e)
both false b e = absurd (true≢false (sym e))

-- formats with the same fields are the same
one_format : (a b : Format) → a.conversion ≡ b.conversion → a.left ≡ b.left → a.plus ≡ b.plus → a.space ≡ b.space → a.alternate ≡ b.alternate → a.zero ≡ b.zero → a.width ≡ b.width → a.precision ≡ b.precision → a ≡ b
one_format a b c l p s al z w pr =
    ap (λ v. record a { conversion = v }) c
    ∙ ap (λ v. record a { conversion = b.conversion; left = v }) l
    ∙ ap (λ v. record a { conversion = b.conversion; left = b.left; plus = v }) p
    ∙ ap (λ v. record a { conversion = b.conversion; left = b.left; plus = b.plus; space = v }) s
    ∙ ap (λ v. record a { conversion = b.conversion; left = b.left; plus = b.plus; space = b.space; alternate = v }) al
    ∙ ap (λ v. record a { conversion = b.conversion; left = b.left; plus = b.plus; space = b.space; alternate = b.alternate; zero = v }) z
    ∙ ap (λ v. record b { width = v; precision = a.precision }) w
    ∙ ap (λ v. record b { precision = v }) pr

conversion : (a b : Conversion) → Decides ((conversion_eq.TheImpl.eq-value).it a b) (a ≡ b)
conversion a b = search rules

operation : (a b : Op) → Decides ((op_eq.TheImpl.eq-value).it a b) (a ≡ b)
operation a b = search rules

constant : (a b : ℤ) → Decides ((token_eq.TheImpl.eq-value).it (Constant a) (Constant b)) (Constant a ≡ Constant b)
constant a b = search rules

precision : (a b : Option ℕ) → Decides (option_eq nat_eq a b) (a ≡ b)
precision None None = ((λ e. refl), (λ e. refl))
precision None (Some b) = ((λ e. absurd (cc)), (λ e. absurd (cc)))
precision (Some a) None = ((λ e. absurd (cc)), (λ e. absurd (cc)))
precision (Some a) (Some b) = ((λ e. ap Some (eqb-true a b e)), (λ e. let same : a ≡ b = cc (e) in eq-eqb a b same))

-- all fields are equal exactly if each is
one_printed : (a b : Format) → (format_eq.TheImpl.eq-value).it a b ≡ true → a ≡ b
one_printed a b e =
    let one = both _ _ e in
    let two = both _ _ one.1 in
    let three = both _ _ two.1 in
    let four = both _ _ three.1 in
    let five = both _ _ four.1 in
    let six = both _ _ five.1 in
    let seven = both _ _ six.1 in
    one_format a b ((conversion a.conversion b.conversion).0 one.0) ((booleans_Decides a.left b.left).0 two.0) ((booleans_Decides a.plus b.plus).0 three.0) ((booleans_Decides a.space b.space).0 four.0)
    ((booleans_Decides a.alternate b.alternate).0 five.0) ((booleans_Decides a.zero b.zero).0 six.0) (eqb-true a.width b.width seven.0) ((precision a.precision b.precision).0 seven.1)

printed_itself : (a : Format) → (format_eq.TheImpl.eq-value).it a a ≡ true
printed_itself a =
    both_true ((conversion a.conversion a.conversion).1 refl) (both_true ((booleans_Decides a.left a.left).1 refl) (both_true ((booleans_Decides a.plus a.plus).1 refl) (both_true ((booleans_Decides a.space a.space).1 refl)
    (both_true ((booleans_Decides a.alternate a.alternate).1 refl) (both_true ((booleans_Decides a.zero a.zero).1 refl) (both_true (eq-eqb a.width a.width refl) ((precision a.precision a.precision).1 refl)))))))

abbrev pub is_same : Token → Token → Bool
is_same x k = (token_eq.TheImpl.eq-value).it x k

one_token : (x k : Token) → is_same x k ≡ true → x ≡ k
one_token (Byte a) (Byte b) e = ap Byte (eqb-true a b e)
one_token (Param a) (Param b) e = ap Param (eqb-true a b e)
one_token (Constant a) (Constant b) e = (constant a b).0 e
one_token (Store a) (Store b) e = ap Store (eqb-true a b e)
one_token (Load a) (Load b) e = ap Load (eqb-true a b e)
one_token Length Length e = refl
one_token (Compute a) (Compute b) e = ap Compute ((operation a b).0 e)
one_token Increment Increment e = refl
one_token Char Char e = refl
one_token (Print a) (Print b) e = ap Print (one_printed a b e)
one_token CondOpen CondOpen e = refl
one_token CondThen CondThen e = refl
one_token CondElse CondElse e = refl
one_token CondClose CondClose e = refl
one_token x k e = absurd (true≢false (sym e))

itself : (k : Token) → is_same k k ≡ true
itself (Byte a) = eq-eqb a a refl
itself (Param a) = eq-eqb a a refl
itself (Constant a) = (constant a a).1 refl
itself (Store a) = eq-eqb a a refl
itself (Load a) = eq-eqb a a refl
itself (Compute a) = (operation a a).1 refl
itself (Print a) = printed_itself a
itself k = refl

pub same_token : (k x : Token) → Decides (is_same x k) (x ≡ k)
same_token k x = (one_token x k, λ same. subst (λ t. is_same t k ≡ true) (sym same) (itself k))
