-- Which cell is a position's, and what the cells hold.
use Rattle.std.specs.Prelude.{ℕ, ◌+◌, ◌*◌, cond, List, None, Option, slice_index_or}
use Rattle.keeper.specs.declared.bounds.Bounds.{Bounds}
use Rattle.keeper.specs.declared.position.Sort.{Sort}
use Rattle.keeper.specs.declared.position.Sort.TheVariants.{List as Listed, Nomination}
use Rattle.keeper.specs.declared.position.Position.{Position}
use Rattle.keeper.specs.Bounding.{kept}
use Rattle.keeper.specs.Keeping.{Map, is_inside, nothing}

-- lists come before nominations
abbrev pub sort_index : Sort → ℕ
sort_index Listed = 0
sort_index Nomination = 1

-- host by host, sort by sort, phase by phase
abbrev pub cell_of : ℕ → Position → ℕ
cell_of horizon at = (at.host * 2 + sort_index at.sort) * horizon + at.phase

-- what stands in the cell of a position inside, and nothing outside
abbrev pub in_cells : Bounds → List (Option ℕ) → Map
in_cells b cells at = cond (is_inside (kept b nothing) at) (slice_index_or cells (cell_of b.horizon at) None) None
