use Rattle.std.proofs.Common.{inl, sym, ◌∙◌, subst, length, true≢false}
use Rattle.ti_words.specs.Spelling.{part_names}
use Rattle.ti_words.specs.Value.{EntryValue}
use Rattle.ti_c.specs.Entries.{text_held, bytes_held, itself, flag_marks, number_words, texts_shown, StartsWith, HasRoom, AreCountsOf}
use Rattle.ti_c.proofs.AmpleRoomLemmas.{enough}
use Rattle.ti_c.proofs.NumbersLemmas.{not_read}
use Rattle.ti_c.proofs.OneFaultLemmas.{one_entry_refused, none_entry_refused}
use Rattle.ti_c.proofs.entry.ti_read.Goals as goal

pub returns-in-Err-clause-told : goal.returns-in-Err-clause-told
returns-in-Err-clause-told c = λ is. absurd (not_read c.in-Err.refused.fault c.entry_number.result c.entry_number.ensures is)

pub returns-in-Err-clause-untold : goal.returns-in-Err-clause-untold
returns-in-Err-clause-untold c = λ is. absurd (not_read c.in-Err.refused.fault c.entry_number.result c.entry_number.ensures is)

pub returns-in-Err-clause-refused : goal.returns-in-Err-clause-refused
returns-in-Err-clause-refused c = λ number place.
    one_entry_refused c.args.bytes.now c.in-Err.refused c.entry_number.result number place c.in-Err.ensures.refused c.entry_number.ensures

pub returns-then-not-has_room-clause-refused : goal.returns-then-not-has_room-clause-refused
returns-then-not-has_room-clause-refused c = λ number place refused.
    absurd (none_entry_refused c.args.bytes.now c.in-Ok.found number place c.in-Ok.ensures.answer refused)

pub returns-clause-refused : goal.returns-clause-refused
returns-clause-refused c = λ number place refused.
    absurd (none_entry_refused c.args.bytes.now c.in-Ok.found number place c.in-Ok.ensures.answer refused)

pub returns-in-Err-clause-only : goal.returns-in-Err-clause-only
returns-in-Err-clause-only c = λ some. absurd (c.in-Err.ensures.only some.0 some.1)

pub returns-in-Err-clause-room : goal.returns-in-Err-clause-room
returns-in-Err-clause-room c = λ is. absurd (not_read c.in-Err.refused.fault c.entry_number.result c.entry_number.ensures (inl is))

pub returns-then-not-has_room-clause-told : goal.returns-then-not-has_room-clause-told
returns-then-not-has_room-clause-told c = λ _ v spelled.
    let P : EntryValue → Type 0 = λ x. AreCountsOf c.put_counts.new.counts x in
    subst P (c.in-Ok.ensures.only v spelled) c.put_counts.ensures.told

pub returns-then-not-has_room-clause-short : goal.returns-then-not-has_room-clause-short
returns-then-not-has_room-clause-short c = λ _ v spelled room.
    let P : EntryValue → Type 0 = λ x. HasRoom x (length c.args.arrays.now.flags.now) (length c.args.arrays.now.numbers.now) (length c.args.arrays.now.texts.now) (length c.args.arrays.now.names.now) in
    true≢false (sym (c.has_room.ensures.1 (subst P (sym (c.in-Ok.ensures.only v spelled)) room)) ∙ c.if-not-has_room.true)

pub fill-requires-clause-room : goal.fill-requires-clause-room
fill-requires-clause-room c = c.has_room.ensures.0 c.if-not-has_room.false

pub returns-clause-told : goal.returns-clause-told
returns-clause-told c = λ _ v spelled.
    let P : EntryValue → Type 0 = λ x. AreCountsOf c.put_counts.new.counts x in
    subst P (c.in-Ok.ensures.only v spelled) c.put_counts.ensures.told

pub returns-clause-room : goal.returns-clause-room
returns-clause-room c = λ _ v spelled.
    let P : EntryValue → Type 0 = λ x. HasRoom x (length c.args.arrays.now.flags.now) (length c.args.arrays.now.numbers.now) (length c.args.arrays.now.texts.now) (length c.args.arrays.now.names.now) in
    subst P (c.in-Ok.ensures.only v spelled) (c.has_room.ensures.0 c.if-not-has_room.false)

pub returns-clause-flags : goal.returns-clause-flags
returns-clause-flags c = λ _ v spelled.
    let P : EntryValue → Type 0 = λ x. StartsWith itself c.args.arrays.now.flags.now c.fill.new.arrays.flags.now (flag_marks x) in
    subst P (c.in-Ok.ensures.only v spelled) c.fill.ensures.flags

pub returns-clause-numbers : goal.returns-clause-numbers
returns-clause-numbers c = λ _ v spelled.
    let P : EntryValue → Type 0 = λ x. StartsWith itself c.args.arrays.now.numbers.now c.fill.new.arrays.numbers.now (number_words x) in
    subst P (c.in-Ok.ensures.only v spelled) c.fill.ensures.numbers

pub returns-clause-texts : goal.returns-clause-texts
returns-clause-texts c = λ _ v spelled.
    let P : EntryValue → Type 0 = λ x. StartsWith text_held c.args.arrays.now.texts.now c.fill.new.arrays.texts.now (texts_shown x) in
    subst P (c.in-Ok.ensures.only v spelled) c.fill.ensures.texts

pub returns-clause-names : goal.returns-clause-names
returns-clause-names c = λ _ v spelled.
    let P : EntryValue → Type 0 = λ x. StartsWith bytes_held c.args.arrays.now.names.now c.fill.new.arrays.names.now (part_names x.extended) in
    subst P (c.in-Ok.ensures.only v spelled) c.fill.ensures.names

pub returns-then-not-has_room-clause-ample : goal.returns-then-not-has_room-clause-ample
returns-then-not-has_room-clause-ample c = λ ample _.
    let room = enough c.args.bytes.now c.in-Ok.found (length c.args.arrays.now.flags.now) (length c.args.arrays.now.numbers.now) (length c.args.arrays.now.texts.now) (length c.args.arrays.now.names.now) c.in-Ok.ensures.found ample in
    true≢false (sym (c.has_room.ensures.1 room) ∙ c.if-not-has_room.true)
