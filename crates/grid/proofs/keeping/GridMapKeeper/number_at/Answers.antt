use Rattle.std.proofs.Common.{◌<◌, length, None, vec_items, sym, arith}
use Rattle.std.proofs.lemmas.List.{get_or_read}
use Rattle.grid.proofs.Cells.{cell_below}
use Rattle.grid.proofs.keeping.GridMapKeeper.number_at.Goals as goal

pub index-requires : goal.index-requires
index-requires c =
    let s = c.args.self.now in
    omega (arith, c.cell_of.ensures, s.sized, cell_below s.bounds c.args.at (sym c.if-is_inside.ensures))

pub returns-then-is_inside : goal.returns-then-is_inside
returns-then-is_inside c =
    let s = c.args.self.now in
    let cells = vec_items s.cells in
    let lt : c.cell_of.result < length cells = omega (arith, c.cell_of.ensures, s.sized, s.cells.ok.0, cell_below s.bounds c.args.at (sym c.if-is_inside.ensures)) in
    rw (← c.if-is_inside.ensures, ← c.cell_of.ensures) (get_or_read cells c.cell_of.result c.index.result.now lt c.index.ensures None)
