-- Numbers in bytes, with the most significant bit first.
use Rattle.std.specs.Prelude.{ℕ, ◌+◌, ◌*◌, List, slice_index}

-- the byte at a place; past the end, where nothing is read, 0
abbrev pub byte : List ℕ → ℕ → ℕ
byte bs at = slice_index bs at

-- the number in two bytes
abbrev pub word : List ℕ → ℕ → ℕ
word bs at = byte bs at * 256 + byte bs (at + 1)

-- the number in three bytes
abbrev pub triple : List ℕ → ℕ → ℕ
triple bs at = byte bs at * 65536 + byte bs (at + 1) * 256 + byte bs (at + 2)

-- the number in four bytes
abbrev pub long_word : List ℕ → ℕ → ℕ
long_word bs at = byte bs at * 16777216 + byte bs (at + 1) * 65536 + byte bs (at + 2) * 256 + byte bs (at + 3)
