-- The definitions at known bytes: what they spell, why they are refused, how their entries are written.
use Rattle.ti_words.specs.declared.Width.{Width}
use Rattle.std.proofs.Common.{◌≡◌, ℕ, pos, negsuc, List, [], ◌∷◌, ◌++◌, map, take, drop, replicate, slice_set, Some, None, refl, inl, inr, arith, ℤ}
use Rattle.ti_words.specs.declared.Flag.TheVariants as flags
use Rattle.ti_words.specs.declared.Number.TheVariants as numbers
use Rattle.ti_words.specs.declared.Width.TheVariants.{Legacy, Wide}
use Rattle.ti_words.specs.Texts.{AbsentText, TextOf}
use Rattle.ti_layout.specs.declared.fault.Fault.TheVariants.{Truncated, BadMagic, BadHeader, HeaderTooBig, BadNames, BadFlag, BadPad, BadNumber, BadOffset, Unterminated, BadExtendedHeader, ExtendedTooBig, BadExtendedName, Trailing}
use Rattle.ti_words.specs.Value.{EntryValue, no_values, no_named}
use Rattle.ti_layout.specs.Layout.{places}
use Rattle.ti_layout.specs.Checks.{refusal_at}
use Rattle.ti_layout.specs.Refusal.{refusal}
use Rattle.ti_layout.specs.Content.{content}
use Rattle.ti_words.specs.Spelling.{Spells, Strings, FitsWidth, SpellsPart}
use Rattle.ti_draft.specs.Canonical.{canonical}

-- ---- bytes

-- names t, bw Yes, cols 80, cbt absent, bel 07
abbrev small : List ℕ
small =
    0x1a ∷ 0x01 ∷ 0x02 ∷ 0x00 ∷ 0x01 ∷ 0x00 ∷ 0x01 ∷ 0x00 ∷ 0x02 ∷ 0x00 ∷ 0x02 ∷ 0x00
    ∷ 0x74 ∷ 0x00
    ∷ 0x01
    ∷ 0x00
    ∷ 0x50 ∷ 0x00
    ∷ 0xff ∷ 0xff ∷ 0x00 ∷ 0x00
    ∷ 0x07 ∷ 0x00 ∷ []

-- AX Yes and E3 in an extended part
abbrev extension : List ℕ
extension =
    0x01 ∷ 0x00 ∷ 0x00 ∷ 0x00 ∷ 0x01 ∷ 0x00 ∷ 0x03 ∷ 0x00 ∷ 0x0b ∷ 0x00
    ∷ 0x01
    ∷ 0x00
    ∷ 0x00 ∷ 0x00
    ∷ 0x00 ∷ 0x00 ∷ 0x03 ∷ 0x00
    ∷ 0x1b ∷ 0x5b ∷ 0x33 ∷ 0x4a ∷ 0x00 ∷ 0x41 ∷ 0x58 ∷ 0x00 ∷ 0x45 ∷ 0x33 ∷ 0x00 ∷ []

abbrev extended : List ℕ
extended = small ++ extension

-- two texts that share their bytes
abbrev shared : List ℕ
shared =
    0x1a ∷ 0x01 ∷ 0x02 ∷ 0x00 ∷ 0x00 ∷ 0x00 ∷ 0x00 ∷ 0x00 ∷ 0x02 ∷ 0x00 ∷ 0x02 ∷ 0x00
    ∷ 0x74 ∷ 0x00
    ∷ 0x00 ∷ 0x00 ∷ 0x00 ∷ 0x00
    ∷ 0x07 ∷ 0x00 ∷ []

-- the same entry with no sharing
abbrev unshared : List ℕ
unshared =
    0x1a ∷ 0x01 ∷ 0x02 ∷ 0x00 ∷ 0x00 ∷ 0x00 ∷ 0x00 ∷ 0x00 ∷ 0x02 ∷ 0x00 ∷ 0x04 ∷ 0x00
    ∷ 0x74 ∷ 0x00
    ∷ 0x00 ∷ 0x00 ∷ 0x02 ∷ 0x00
    ∷ 0x07 ∷ 0x00 ∷ 0x07 ∷ 0x00 ∷ []

-- a long text, which is a bad capability in a good entry
abbrev long_text : List ℕ
long_text =
    0x1b ∷ 0x5b ∷ 0x3f ∷ 0x25 ∷ 0x5b ∷ 0x3b ∷ 0x30 ∷ 0x31 ∷ 0x32 ∷ 0x33 ∷ 0x34 ∷ 0x35 ∷ 0x36 ∷ 0x37 ∷ 0x38 ∷ 0x39 ∷ 0x5d ∷ 0x63 ∷ []

abbrev long : List ℕ
long = slice_set (take 22 small) 10 0x13 ++ long_text ++ 0x00 ∷ []

-- a string table of odd size
abbrev odd : List ℕ
odd = slice_set (take 22 small) 10 0x03 ++ (0x07 ∷ 0x07 ∷ 0x00 ∷ [])

-- the small entry with numbers of 32 bits
abbrev wide : List ℕ
wide = 0x1e ∷ 0x02 ∷ drop 2 (take 18 small) ++ (0x00 ∷ 0x00 ∷ drop 18 small)

-- and after it U8, which is 70000
abbrev wide_extended : List ℕ
wide_extended =
    wide ++ (0x00 ∷ 0x00 ∷ 0x01 ∷ 0x00 ∷ 0x00 ∷ 0x00 ∷ 0x01 ∷ 0x00 ∷ 0x03 ∷ 0x00
    ∷ 0x70 ∷ 0x11 ∷ 0x01 ∷ 0x00
    ∷ 0x00 ∷ 0x00
    ∷ 0x55 ∷ 0x38 ∷ 0x00 ∷ [])

-- another number in it
abbrev with_number : ℕ → ℕ → ℕ → ℕ → List ℕ
with_number a b c d = slice_set (slice_set (slice_set (slice_set wide 16 a) 17 b) 18 c) 19 d

-- ---- entries

abbrev small_entry : EntryValue
small_entry = record {
  width = Legacy;
  names = 0x74 ∷ [];
  standard = record {
    flags = flags.Yes ∷ [];
    numbers = numbers.Value (pos 80) ∷ [];
    texts = AbsentText ∷ TextOf (0x07 ∷ []) ∷ [];
  };
  extended = no_named;
}

abbrev extended_entry : EntryValue
extended_entry = record small_entry {
  extended = record {
    flags = (0x41 ∷ 0x58 ∷ [], flags.Yes) ∷ [];
    numbers = [];
    texts = (0x45 ∷ 0x33 ∷ [], TextOf (0x1b ∷ 0x5b ∷ 0x33 ∷ 0x4a ∷ [])) ∷ [];
  };
}

abbrev shared_entry : EntryValue
shared_entry = record small_entry { standard = record no_values { texts = TextOf (0x07 ∷ []) ∷ TextOf (0x07 ∷ []) ∷ [] } }

-- U8 = 80 alone, by its extended name
abbrev number_entry : EntryValue
number_entry = record small_entry {
  standard = no_values;
  extended = record no_named { numbers = (0x55 ∷ 0x38 ∷ [], numbers.Value (pos 80)) ∷ [] };
}

abbrev wide_entry : EntryValue
wide_entry = record small_entry { width = Wide }

abbrev wide_extended_entry : EntryValue
wide_extended_entry = record wide_entry { extended = record no_named { numbers = (0x55 ∷ 0x38 ∷ [], numbers.Value (pos 70000)) ∷ [] } }

-- ---- what the bytes spell

-- the bell as the only text of the table
abbrev bell : List ℤ → Strings
bell offsets = record { offsets = offsets; name_offsets = []; table = 0x07 ∷ 0x00 ∷ [] }

some_standard : (w : Width) → FitsWidth w (numbers.Value (pos 80)) → SpellsPart w (bell (negsuc 0 ∷ pos 0 ∷ [])) small_entry.standard []
some_standard w fits = record {
  few_flags = omega arith;
  few_numbers = omega arith;
  few_texts = omega arith;
  small_table = omega arith;
  numbers_fit = (fits, tt);
  texts_there = (refl, ((0, refl, (omega arith, tt), record { found = refl }), tt));
  names_there = tt;
}

small_spells : Spells small small_entry
small_spells = record {
  fits = omega arith;
  strings = bell (negsuc 0 ∷ pos 0 ∷ []);
  rest = [];
  standard = record { joined = refl; named = omega arith; few_names = omega arith; names_fit = (omega arith, tt); part = some_standard Legacy (omega arith) };
  extended = inl (record { ends = refl; none = refl });
}

shared_spells : Spells shared shared_entry
shared_spells = record {
  fits = omega arith;
  strings = bell (pos 0 ∷ pos 0 ∷ []);
  rest = [];
  standard = record {
    joined = refl;
    named = omega arith;
    few_names = omega arith;
    names_fit = (omega arith, tt);
    part = record {
      few_flags = omega arith;
      few_numbers = omega arith;
      few_texts = omega arith;
      small_table = omega arith;
      numbers_fit = tt;
      texts_there = ((0, refl, (omega arith, tt), record { found = refl }), ((0, refl, (omega arith, tt), record { found = refl }), tt));
      names_there = tt;
    };
  };
  extended = inl (record { ends = refl; none = refl });
}

wide_spells : Spells wide wide_entry
wide_spells = record {
  fits = omega arith;
  strings = bell (negsuc 0 ∷ pos 0 ∷ []);
  rest = [];
  standard = record { joined = refl; named = omega arith; few_names = omega arith; names_fit = (omega arith, tt); part = some_standard Wide (omega arith) };
  extended = inl (record { ends = refl; none = refl });
}

-- with each word items
abbrev with_items : ℕ → ℕ → List ℕ
with_items low high = slice_set (slice_set extended 30 low) 31 high

extended_spells : (low high : ℕ) → Spells (with_items low high) extended_entry
extended_spells low high = record {
  fits = omega arith;
  strings = bell (negsuc 0 ∷ pos 0 ∷ []);
  rest = drop 24 (with_items low high);
  standard = record { joined = refl; named = omega arith; few_names = omega arith; names_fit = (omega arith, tt); part = some_standard Legacy (omega arith) };
  extended = inr (record {
    items = low ∷ high ∷ [];
    strings = record { offsets = pos 0 ∷ []; name_offsets = pos 0 ∷ pos 3 ∷ []; table = drop 18 extension };
    joined = refl;
    items_size = refl;
    part = record {
      few_flags = omega arith;
      few_numbers = omega arith;
      few_texts = omega arith;
      small_table = omega arith;
      numbers_fit = tt;
      texts_there = ((0, refl, (omega arith, (omega arith, (omega arith, (omega arith, tt)))), record { found = refl }), tt);
      names_there = ((0, refl, (omega arith, (omega arith, tt)), record { found = refl }), ((3, refl, (omega arith, (omega arith, tt)), record { found = refl }), tt));
    };
  });
}

small_content : content small ≡ small_entry
small_content = refl

extended_content : content extended ≡ extended_entry
extended_content = refl

wide_content : map content (wide ∷ wide_extended ∷ []) ≡ wide_entry ∷ wide_extended_entry ∷ []
wide_content = refl

wide_marks : map content (with_number 0xff 0xff 0xff 0xff ∷ with_number 0xfe 0xff 0xff 0xff ∷ with_number 0xff 0xff 0xff 0x7f ∷ [])
    ≡ record wide_entry { standard = record small_entry.standard { numbers = numbers.Absent ∷ [] } } ∷ record wide_entry { standard = record small_entry.standard { numbers = numbers.Cancelled ∷ [] } }
    ∷ record wide_entry { standard = record small_entry.standard { numbers = numbers.Value (pos 2147483647) ∷ [] } } ∷ []
wide_marks = refl

shared_content : content shared ≡ shared_entry
shared_content = refl

-- extended counts of 0 say what no extended part says
no_counts : content (small ++ replicate 10 0) ≡ small_entry
no_counts = refl

-- ---- how entries are written

small_canonical : canonical small_entry ≡ small
small_canonical = refl

extended_canonical : canonical extended_entry ≡ extended
extended_canonical = refl

wide_canonical : map canonical (wide_entry ∷ wide_extended_entry ∷ []) ≡ wide ∷ wide_extended ∷ []
wide_canonical = refl

shared_canonical : canonical shared_entry ≡ unshared
shared_canonical = refl

number_canonical : canonical number_entry ≡
    0x1a ∷ 0x01 ∷ 0x02 ∷ 0x00 ∷ 0x00 ∷ 0x00 ∷ 0x00 ∷ 0x00 ∷ 0x00 ∷ 0x00 ∷ 0x00 ∷ 0x00
    ∷ 0x74 ∷ 0x00
    ∷ 0x00 ∷ 0x00 ∷ 0x01 ∷ 0x00 ∷ 0x00 ∷ 0x00 ∷ 0x01 ∷ 0x00 ∷ 0x03 ∷ 0x00
    ∷ 0x50 ∷ 0x00
    ∷ 0x00 ∷ 0x00
    ∷ 0x55 ∷ 0x38 ∷ 0x00 ∷ []
number_canonical = refl

-- ---- what is accepted, and what a changed byte makes of it

accepted : map refusal (small ∷ extended ∷ shared ∷ unshared ∷ long ∷ odd ∷ wide ∷ wide_extended ∷ (small ++ replicate 10 0) ∷ []) ≡ replicate 9 None
accepted = refl

-- each proper prefix ends too early
small_prefixes : map (λ n. refusal (take n small)) (places 0 1 24) ≡ map (λ n. Some (refusal_at Truncated n)) (places 0 1 24)
small_prefixes = refl

extended_prefixes : map (λ n. refusal (take n extended)) (places 25 1 28) ≡ map (λ n. Some (refusal_at Truncated n)) (places 25 1 28)
extended_prefixes = refl

wide_prefixes : map (λ n. refusal (take n wide)) (places 0 1 26) ≡ map (λ n. Some (refusal_at Truncated n)) (places 0 1 26)
wide_prefixes = refl

small_longer : refusal (small ++ 0x00 ∷ []) ≡ Some (refusal_at Truncated 25)
small_longer = refl

extended_longer : refusal (extended ++ 0x00 ∷ []) ≡ Some (refusal_at Trailing 53)
extended_longer = refl

odd_longer : map (λ b. refusal (odd ++ b ∷ [])) (0x01 ∷ 0x00 ∷ []) ≡ Some (refusal_at BadPad 25) ∷ Some (refusal_at Truncated 26) ∷ []
odd_longer = refl

magic_changed : refusal (slice_set small 0 0x1b) ≡ Some (refusal_at BadMagic 0)
magic_changed = refl

magic_mixed : map refusal ((0x1e ∷ 0x01 ∷ []) ∷ (0x1a ∷ 0x02 ∷ []) ∷ []) ≡ replicate 2 (Some (refusal_at BadMagic 0))
magic_mixed = refl

size_negative : refusal (slice_set small 3 0x80) ≡ Some (refusal_at BadHeader 2)
size_negative = refl

all_sizes_great : refusal (0x1a ∷ 0x01 ∷ 0xff ∷ 0x7f ∷ 0xff ∷ 0x7f ∷ 0xff ∷ 0x7f ∷ 0xff ∷ 0x7f ∷ 0xff ∷ 0x7f ∷ drop 12 small) ≡ Some (refusal_at HeaderTooBig 0)
all_sizes_great = refl

names_empty : refusal (slice_set small 2 0x01) ≡ Some (refusal_at BadNames 12)
names_empty = refl

names_unended : refusal (slice_set small 13 0x75) ≡ Some (refusal_at BadNames 13)
names_unended = refl

flag_wrong : refusal (slice_set small 14 0x02) ≡ Some (refusal_at BadFlag 14)
flag_wrong = refl

flag_cancelled : content (slice_set small 14 0xfe) ≡ record small_entry { standard = record small_entry.standard { flags = flags.Cancelled ∷ [] } }
flag_cancelled = refl

flag_cancelled_accepted : refusal (slice_set small 14 0xfe) ≡ None
flag_cancelled_accepted = refl

pad_wrong : refusal (slice_set small 15 0x01) ≡ Some (refusal_at BadPad 15)
pad_wrong = refl

number_below : refusal (slice_set (slice_set small 16 0xfd) 17 0xff) ≡ Some (refusal_at BadNumber 16)
number_below = refl

wide_number_below : refusal (with_number 0xfd 0xff 0xff 0xff) ≡ Some (refusal_at BadNumber 16)
wide_number_below = refl

-- it is looked at when its fourth byte is there
wide_number_cut : refusal (take 19 (with_number 0xfd 0xff 0xff 0xff)) ≡ Some (refusal_at Truncated 19)
wide_number_cut = refl

number_cancelled : content (slice_set (slice_set small 16 0xfe) 17 0xff) ≡ record small_entry { standard = record small_entry.standard { numbers = numbers.Cancelled ∷ [] } }
number_cancelled = refl

number_cancelled_accepted : refusal (slice_set (slice_set small 16 0xfe) 17 0xff) ≡ None
number_cancelled_accepted = refl

offset_beyond : refusal (slice_set small 20 0x02) ≡ Some (refusal_at BadOffset 20)
offset_beyond = refl

text_unended : refusal (slice_set small 23 0x01) ≡ Some (refusal_at Unterminated 20)
text_unended = refl

extended_count_negative : refusal (slice_set extended 25 0x80) ≡ Some (refusal_at BadExtendedHeader 24)
extended_count_negative = refl

extended_table_great : refusal (slice_set (slice_set extended 32 0xff) 33 0x7f) ≡ Some (refusal_at ExtendedTooBig 24)
extended_table_great = refl

items_unread : content (with_items 0xff 0xff) ≡ extended_entry
items_unread = refl

items_unread_accepted : refusal (with_items 0xff 0xff) ≡ None
items_unread_accepted = refl

name_negative : refusal (slice_set (slice_set extended 38 0xff) 39 0xff) ≡ Some (refusal_at BadExtendedName 38)
name_negative = refl

name_beyond : refusal (slice_set extended 40 0x06) ≡ Some (refusal_at BadExtendedName 40)
name_beyond = refl

name_unended : refusal (slice_set extended 52 0x01) ≡ Some (refusal_at Unterminated 40)
name_unended = refl
