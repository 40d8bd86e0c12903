use Rattle.std.proofs.Common.{◌∙◌, ℕ, List, subst, sym}
use Rattle.ti_words.specs.Spelling.{Spells}
use Rattle.ti_draft.proofs.EncodedSpellsLemmas.{canonical_spells}
use Rattle.ti_draft.proofs.encoding.encode.Goals as goal

pub returns-clause-encoded : goal.returns-clause-encoded
returns-clause-encoded g c =
    let v = c.args.draft.now in
    let fit = sym c.first_fault.ensures ∙ c.in_default.is in
    record {
      canonical = c.in_ok-canonical_bytes.ensures;
      spells = subst (λ (b : List ℕ). Spells b v) (sym c.in_ok-canonical_bytes.ensures) (canonical_spells v fit);
      fit = fit;
    }
