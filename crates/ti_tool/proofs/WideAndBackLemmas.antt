-- An entry that is widened and narrowed again.
use Rattle.std.proofs.Common.{◌≡◌, ℕ, List, Ok, Some, refl, sym, ap, subst, ◌∙◌, inl, inr}
use Rattle.ti_words.specs.declared.Width.{Width}
use Rattle.ti_words.specs.declared.Width.TheVariants.{Legacy, Wide}
use Rattle.ti_words.specs.Value.{EntryValue}
use Rattle.ti_words.specs.Spelling.{Spells}
use Rattle.ti_draft.specs.Canonical.{canonical}
use Rattle.ti_entry.proofs.SpellsAtMostOneLemmas.{at_most_one}
use Rattle.ti_draft.proofs.EncodedSpellsLemmas.{canonical_spells}
use Rattle.ti_tool.specs.Results.{IsConverted, IsEncoding, in_width}
use Rattle.ti_tool.specs.Laws.{WideAndBack}

-- what is written in a width is the encoding of the entry that the input spells, in that width
written : (width : Width) (input out : List ℕ) (v : EntryValue) → Spells input v → IsConverted (Some width) input (Ok out) → IsEncoding (in_width (Some width) v) (Ok out)
written width input out v spells (inl (refused, is, e)) = absurd cc
written width input out v spells (inr (w, other, encoding)) =
    let P : EntryValue → Type 0 = λ x. IsEncoding (in_width (Some width) x) (Ok out) in
    subst P (at_most_one input w v other spells) encoding

-- in its own width an entry is as it was
own_width : (v : EntryValue) (width : Width) → v.width ≡ width → in_width (Some width) v ≡ v
own_width v width e =
    let P : Width → Type 0 = λ x. in_width (Some x) v ≡ v in
    subst P e refl

pub wide_and_back : WideAndBack
wide_and_back input wide back v spells legacy there again =
    let first = written Wide input wide v spells there in
    let widened = in_width (Some Wide) v in
    let P : List ℕ → Type 0 = λ bytes. Spells bytes widened in
    let spelled : Spells wide widened = subst P (sym first.1) (canonical_spells widened first.0) in
    let second = written Legacy wide back widened spelled again in
    second.1 ∙ ap canonical (own_width v Legacy legacy)
