use Rattle.std.proofs.Common.{◌≡◌, ◌++◌, ◌∙◌, ℕ, List, length, take, drop, subst, sym, ap, arith}
use Rattle.std.proofs.lemmas.List.{take_at}
use Rattle.ti_words.specs.Spelling.{Spells}
use Rattle.ti_draft.specs.Canonical.{canonical}
use Rattle.ti_draft.proofs.EncodeFaultLemmas.{fit}
use Rattle.ti_draft.proofs.EncodedSpellsLemmas.{canonical_spells}
use Rattle.ti_draft.proofs.encoding.encode_into.Goals as goal

pub returns-clause-encoded : goal.returns-clause-encoded
returns-clause-encoded g c =
    let v = g.S.Source.entry c.args.source.now in
    let none = sym c.first_fault.ensures ∙ c.in_default.is in
    let n = c.sizes_of-sizes.result.entry in
    let bytes = c.put_entry.new.out in
    let size : length bytes ≡ n = ap length c.put_entry.ensures ∙ omega (arith, c.sizes_of-sizes.ensures.entry, (fit v none).short) in
    let taken : take n (bytes ++ drop n c.args.out.now) ≡ canonical v = take_at bytes (drop n c.args.out.now) n size ∙ c.put_entry.ensures in
    record {
      canonical = taken;
      spells = subst (λ (b : List ℕ). Spells b v) (sym taken) (canonical_spells v none);
      fit = none;
    }
