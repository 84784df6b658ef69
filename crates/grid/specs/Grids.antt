-- What a grid means.
use Rattle.std.specs.Prelude.{vec_items}
use Rattle.keeper.specs.Bounding.{kept}
use Rattle.keeper.specs.Keeping.{Keeping}
use Rattle.grid.specs.declared.Grid.{Grid}
use Rattle.grid.specs.Cells.{in_cells}

-- the keeper within its bounds that holds what the cells do
abbrev pub keeping_of : Grid → Keeping
keeping_of g = kept g.bounds (in_cells g.bounds (vec_items g.cells))
