-- The variables into which the texts store that were gone over.
use Rattle.std.proofs.Common.{◌≡◌, ◌⊎◌, ◌↔◌, ℕ, List, [], ◌∷◌, inl, inr, subst, sym}
use Rattle.ti_lint.specs.declared.variables.Variables.{Variables}
use Rattle.ti_lint.specs.Variables.{HasOnlyLetters, HasVariable}
use Rattle.ti_lint.proofs.VariablesLemmas.{has_no_variable, none_only_letters}
use Rattle.ti_rules.specs.Reports.{SomeStores, StoresAs}
use Rattle.ti_rules.specs.Subjects.{KnownText}

-- into a variable some text stores exactly if one so far does, or one that is left
pub record AreStoredBeside (all left : List KnownText) (stored : Variables) : Type 0 where
  pub exact : (which : ℕ) → SomeStores all which ↔ (HasVariable stored which ⊎ SomeStores left which)
  pub only : HasOnlyLetters stored

pub stored_none : (all : List KnownText) (stored : Variables) → stored ≡ record { mask = 0 } → AreStoredBeside all all stored
stored_none all stored is =
    subst (λ s. AreStoredBeside all all s) (sym is) (record {
      exact = λ which. ((λ some. inr some), (λ either. elim either [ inl has ↦ absurd (has_no_variable which has) | inr some ↦ some ]));
      only = none_only_letters;
    })

pub stored_more : (all left rest : List KnownText) (x : KnownText) (stored one new : Variables) → left ≡ x ∷ rest → AreStoredBeside all left stored
    → ((which : ℕ) → HasVariable one which ↔ StoresAs x.class x.text which) → ((which : ℕ) → HasVariable new which ↔ (HasVariable stored which ⊎ HasVariable one which))
    → HasOnlyLetters new → AreStoredBeside all rest new
stored_more all left rest x stored one new is beside at union only =
    record { exact = λ which. (there which, back which); only = only }
  where
    before : (which : ℕ) → SomeStores all which ↔ (HasVariable stored which ⊎ SomeStores (x ∷ rest) which)
    before which = subst (λ l. SomeStores all which ↔ (HasVariable stored which ⊎ SomeStores l which)) is (beside.exact which)

    there : (which : ℕ) → SomeStores all which → HasVariable new which ⊎ SomeStores rest which
    there which some =
        elim ((before which).0 some) [
          | inl has ↦ inl ((union which).1 (inl has))
          | inr (inl stores) ↦ inl ((union which).1 (inr ((at which).1 stores)))
          | inr (inr more) ↦ inr more
        ]

    back : (which : ℕ) → HasVariable new which ⊎ SomeStores rest which → SomeStores all which
    back which (inl has) =
        elim ((union which).0 has) [
          | inl stored ↦ (before which).1 (inl stored)
          | inr added ↦ (before which).1 (inr (inl ((at which).0 added)))
        ]
    back which (inr more) = (before which).1 (inr (inr more))

pub stored_all : (all left : List KnownText) (stored : Variables) → left ≡ [] → AreStoredBeside all left stored → (which : ℕ) → HasVariable stored which ↔ SomeStores all which
stored_all all left stored is beside which =
    let exact = subst (λ l. SomeStores all which ↔ (HasVariable stored which ⊎ SomeStores l which)) is (beside.exact which) in
    ((λ has. exact.1 (inl has)), (λ some. elim (exact.0 some) [ inl has ↦ has | inr none ↦ absurd none ]))
