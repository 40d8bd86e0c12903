-- Numbers as bytes, the lowest byte first, in two's complement. The count of bytes is a parameter throughout.
use Rattle.std.specs.Prelude.{ℕ, zero, suc, ◌+◌, ◌-◌, ◌*◌, ◌/◌, ◌%◌, ◌^◌, ℤ, pos, negsuc, ◌-ℤ◌, List, [], ◌∷◌, nat_lt, if◌then◌else◌, slice_index}

-- the number in the size bytes from a place on, without a sign
abbrev pub unsigned_at : ℕ → List ℕ → ℕ → ℕ
unsigned_at zero bytes place = 0
unsigned_at (suc size) bytes place = slice_index bytes place + 256 * unsigned_at size bytes (place + 1)

-- what size bytes mean that are n without a sign: less 256 ^ size if the highest bit is set
abbrev pub signed : ℕ → ℕ → ℤ
signed size n = if nat_lt (2 * n) (256 ^ size) then pos n else pos n -ℤ pos (256 ^ size)

-- what the size bytes from a place on mean
abbrev pub word_at : ℕ → List ℕ → ℕ → ℤ
word_at size bytes place = signed size (unsigned_at size bytes place)

-- the lowest size bytes of a number
abbrev pub low_bytes : ℕ → ℕ → List ℕ
low_bytes zero n = []
low_bytes (suc size) n = (n % 256) ∷ low_bytes size (n / 256)

-- the size bytes that mean a number, which is reduced modulo 256 ^ size if it is out of their range
abbrev pub word : ℕ → ℤ → List ℕ
word size (pos n) = low_bytes size n
word size (negsuc n) = low_bytes size (256 ^ size - 1 - n % 256 ^ size)
