-- Where the names of extended capabilities start, by three rules (term(5), extended storage format).
use Rattle.std.specs.Prelude.{ℕ, ◌+◌, ◌==◌, ◌&&◌, Bool, not, List, count_by, is_none, take}
use Rattle.ti_words.specs.Texts.{is_nul}
use Rattle.ti_words.specs.Word.{unsigned_at}
use Rattle.ti_layout.specs.declared.part.Part.{Part}
use Rattle.ti_layout.specs.Layout.{extended_from, offsets_from, places, standard}
use Rattle.ti_layout.specs.Refusal.{refusal}
use Rattle.ti_layout.specs.Table.{base_of, last_end, table_of}
use Rattle.ti_layout.specs.Content.{extended}

-- the word items of the extended header after a standard part: how many texts and names the table has
abbrev pub items_after : Part → List ℕ → ℕ
items_after s bytes = unsigned_at 2 bytes (extended_from s + 6)

-- the sum of the sizes of the texts is where the last one ends, and the items before it are those that are no names
abbrev pub bases_agree : List ℕ → Part → ℕ → Bool
bases_agree bytes x items =
    let table = table_of bytes x in
    let base = base_of bytes x in
    (last_end bytes table (places (offsets_from x) 2 x.texts) == base)
    && (count_by is_nul (take base table) + x.names == items)

-- the bytes are an entry that has an extended name, and the three do not agree
abbrev pub bases_differ : List ℕ → Bool
bases_differ bytes =
    let x = extended bytes in
    is_none (refusal bytes) && not (x.names == 0) && not (bases_agree bytes x (items_after (standard bytes) bytes))
