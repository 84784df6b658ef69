use Rattle.std.proofs.Common.{◌≡◌, ◌*◌, set, Some, vec_items, arith}
use Rattle.std.proofs.lemmas.Nat.{mul-le}
use Rattle.keeper.specs.Bounding.{kept}
use Rattle.keeper.specs.Keeping.{sealed}
use Rattle.keeper.proofs.Counts.{one_more, count_below}
use Rattle.keeper.proofs.Sealings.{accepted_inside, sealed_refused}
use Rattle.grid.specs.Cells.{in_cells}
use Rattle.grid.specs.Grids.{keeping_of}
use Rattle.grid.proofs.Cells.{cell_below, sealed_cells}
use Rattle.grid.proofs.keeping.GridMapKeeper.seal.Goals as goal
use Rattle.grid.proofs.keeping.GridMapKeeper.seal.Goals.{After-cell_of-cell}

-- the grid with one more cell filled
after : (c : goal.After-cell_of-cell) → kept c.args.self.now.bounds (in_cells c.args.self.now.bounds (set (vec_items c.args.self.now.cells) c.cell_of-cell.result (Some c.args.number))) ≡ sealed (keeping_of c.args.self.now) c.args.at c.args.number
after c =
    let s = c.args.self.now in
    rw c.cell_of-cell.ensures (sealed_cells s.bounds (vec_items s.cells) c.args.at c.args.number (omega (arith, s.cells.ok.0, s.sized)) c.in_ok-judge.ensures)

-- a refused sealing leaves the grid as it was
pub returns-in_err-judge-clause-after : goal.returns-in_err-judge-clause-after
returns-in_err-judge-clause-after c = sealed_refused (keeping_of c.args.self.now) c.args.at c.args.number _ c.in_err-judge.ensures

pub index_mut-requires : goal.index_mut-requires
index_mut-requires c =
    let s = c.args.self.now in
    omega (arith, c.cell_of-cell.ensures, s.sized, cell_below s.bounds c.args.at (accepted_inside (keeping_of s) c.args.at c.in_ok-judge.ensures))

pub overflow_add-self : goal.overflow_add-self
overflow_add-self c =
    let s = c.args.self.now in
    let b = s.bounds in
    let below = count_below (keeping_of s) c.args.at c.in_ok-judge.ensures in
    omega (arith, s.counted, below, mul-le (2 * b.hosts) b.horizon 32 2048 (omega (arith, b.few)) b.short)

pub invariant_of-self : goal.invariant_of-self
invariant_of-self c =
    let s = c.args.self.now in
    let more = one_more (keeping_of s) _ c.args.at c.args.number c.in_ok-judge.ensures (after (goal.at.invariant_of-self c).After-cell_of-cell) c.ranges.number.fits s.inside in
    record {
      inside = more.0;
      sized = s.sized;
      counted = omega (arith, s.counted, more.1);
    }

pub returns-clause-after : goal.returns-clause-after
returns-clause-after c = after (goal.at.returns-clause-after c).After-cell_of-cell
