-- A check that has failed has failed for every continuation of the input.
use Rattle.std.proofs.Common.{◌≡◌, ℕ, zero, suc, ◌+◌, ◌<◌, ◌⊎◌, List, [], ◌∷◌, ◌++◌, length, inl, inr, sym, ap, ◌∙◌, arith, append_assoc}
use Rattle.std.specs.List.{flat_map}
use Rattle.ti_layout.specs.declared.fault.Refused.{Refused}
use Rattle.ti_layout.specs.declared.section.Section.{Section}
use Rattle.ti_layout.specs.declared.stage.Stage.{Stage}
use Rattle.ti_layout.specs.Checks.{Check, Verdict, Passes, Fails, verdict}
use Rattle.ti_layout.specs.Refusal.{items_checks, closing_checks, section_checks, checks}
use Rattle.ti_layout.specs.Stages.{items_after, sections_after, next, StandsAt, Stands, new_stage, stage_after, at_next_section}
use Rattle.ti_layout.proofs.VerdictLemmas.{then, verdict_append}
use Rattle.ti_layout.proofs.SectionReadLemmas.{both_pass}
use Rattle.ti_layout.proofs.AlikeLemmas.{settled, section_stays}
use Rattle.ti_layout.proofs.StageStepLemmas.{stands_first, stands_on, stands_now, with_items, items_pass, closing_passes, opened}

by_first : (v w : Verdict) (r : Refused) → then v w ≡ Fails r → (v ≡ Fails r) ⊎ (Passes ≡ v)
by_first v w r e = grind arith

record Onwards (xs : List ℕ) (s : Stage) : Type 0 where
  new : Stage
  stands : Stands xs new
  fewer : length (sections_after new.section) + 1 ≡ length (sections_after s.section)

onwards : (xs : List ℕ) (s : Stage) → Stands xs s → Passes ≡ verdict (length xs) (items_checks xs s.items ++ closing_checks s.section s.standard s.extended xs) → Onwards xs s
onwards xs s h p =
    let both = both_pass (length xs) (items_checks xs s.items) (closing_checks s.section s.standard s.extended xs) p in
    let done = with_items s (items_after s.items.left s.items) in
    let one : length (sections_after s.section) ≡ length (next s.section ∷ sections_after (next s.section)) = ap (λ (l : List Section). length l) (opened s.section s.standard s.extended xs both.1) in
    record {
      new = at_next_section (stage_after done xs);
      stands = closing_passes xs done (items_pass xs s s.items.left h (omega arith) both.0) (omega arith) both.1;
      fewer = omega arith;
    }

section_lasts : (xs ys : List ℕ) (s : Stage) (r : Refused) → Stands xs s → verdict (length xs) (checks xs) ≡ Fails r → (verdict (length (xs ++ ys)) (checks (xs ++ ys)) ≡ Fails r) ⊎ Onwards xs s
section_lasts xs ys s r h f =
    elim (by_first _ _ r (sym (cut xs (stands_now xs s h)) ∙ f)) [
      | inl fails ↦ inl (cut zs (h ys) ∙ ap (λ v. then v (verdict (length zs) (rest zs))) (section_stays s.items s.section s.standard s.extended xs ys (ap settled fails) ∙ fails))
      | inr passes ↦ inr (onwards xs s h passes)
    ]
  where
    zs : List ℕ
    zs = xs ++ ys

    here : List ℕ → List Check
    here bytes = items_checks bytes s.items ++ closing_checks s.section s.standard s.extended bytes

    rest : List ℕ → List Check
    rest bytes = flat_map (section_checks bytes) (sections_after s.section)

    cut : (bytes : List ℕ) → StandsAt bytes s → verdict (length bytes) (checks bytes) ≡ then (verdict (length bytes) (here bytes)) (verdict (length bytes) (rest bytes))
    cut bytes k =
        k.decides ∙ ap (verdict (length bytes)) (sym (append_assoc (items_checks bytes s.items) (closing_checks s.section s.standard s.extended bytes) (rest bytes)))
        ∙ verdict_append (length bytes) (here bytes) (rest bytes)

lasts : (n : ℕ) (xs ys : List ℕ) (s : Stage) (r : Refused) → length (sections_after s.section) < n → Stands xs s → verdict (length xs) (checks xs) ≡ Fails r → verdict (length (xs ++ ys)) (checks (xs ++ ys)) ≡ Fails r
lasts zero xs ys s r e h f = absurd (omega arith)
lasts (suc n) xs ys s r e h f =
    elim (section_lasts xs ys s r h f) [
      | inl done ↦ done
      | inr on ↦ (let fewer = on.fewer in lasts n xs ys on.new r (omega arith) on.stands f)
    ]

pub failure_stays : (xs ys : List ℕ) (r : Refused) → verdict (length xs) (checks xs) ≡ Fails r → verdict (length (xs ++ ys)) (checks (xs ++ ys)) ≡ Fails r
failure_stays xs ys r f = lasts 14 xs ys new_stage r (omega arith) (stands_on [] xs new_stage stands_first) f
