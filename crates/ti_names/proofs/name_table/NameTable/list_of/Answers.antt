use Rattle.std.proofs.Common.{ap₂, inl, inr, List, map, sym, ℕ}
use Rattle.ti_words.specs.declared.Kind.{Kind}
use Rattle.ti_names.specs.declared.name_table.NameTable.{NameTable}
use Rattle.ti_names.specs.AllNames.{listed, with_nul}
use Rattle.ti_names.specs.NameLists.{all_texts}
use Rattle.ti_names.proofs.name_table.NameTable.list_of.Goals as goal

-- the code's texts are those of specs/, with a NUL after each name

abbrev held : NameTable → Kind → List (List ℕ)
held table kind = map with_nul (listed table kind)

pub returns-in-Text : goal.returns-in-Text
unfolding all_texts
returns-in-Text c = elim c.in-Common.is [
  | inl is ↦ ap₂ held (sym is) (sym c.in-Text.is)
  | inr is ↦ ap₂ held (sym is) (sym c.in-Text.is)
]

pub returns-in-Text-kind : goal.returns-in-Text-kind
unfolding all_texts
returns-in-Text-kind c = ap₂ held (sym c.in-Long.is) (sym c.in-Text-kind.is)
