-- A table with a row for each recipient, and in it a cell for each sender.
use Rattle.std.specs.Prelude.{ℕ, Bool, if◌then◌else◌, ◌&&◌, List, [], replicate, Some, None, Option, nat_lt, slice_index_or, slice_set}

-- the pair is of hosts that a mask can name
abbrev pub is_pair : ℕ → ℕ → Bool
is_pair i j = nat_lt i 16 && nat_lt j 16

-- the rows of a table
abbrev pub Rows : Type 0
Rows = List (List (Option ℕ))

-- the table with no offset, for the 16 hosts that a mask can name
abbrev pub no_offsets : Rows
no_offsets = replicate 16 (replicate 16 None)

-- the row of a recipient; of a host that no mask can name, no cells
abbrev pub row_of : Rows → ℕ → List (Option ℕ)
row_of rows i = slice_index_or rows i []

-- what is in the cell of a recipient and a sender; for a host that no mask can name, nothing
abbrev pub offset_of : Rows → ℕ → ℕ → Option ℕ
offset_of rows i j = if is_pair i j then slice_index_or (row_of rows i) j None else None

-- the table with an offset more; for a host that no mask can name, as it was
abbrev pub filed : Rows → ℕ → ℕ → ℕ → Rows
filed rows i j at = if is_pair i j then slice_set rows i (slice_set (row_of rows i) j (Some at)) else rows
