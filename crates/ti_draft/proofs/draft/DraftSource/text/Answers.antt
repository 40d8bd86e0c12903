use Rattle.std.proofs.lemmas.Simd.{map-map}
use Rattle.ti_draft.proofs.draft.DraftSource.text.Goals as goal

pub returns-in-Extended : goal.returns-in-Extended
returns-in-Extended g c = rw (c.text_at-in-Extended.ensures, c.marks.ensures, c.in-Extended.is, ← c.self.view_is) (simp map-map)
