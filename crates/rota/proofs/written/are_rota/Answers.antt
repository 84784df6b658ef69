use Rattle.std.proofs.Common.{arith}
use Rattle.rota.proofs.Entries.{below_list, names_list}
use Rattle.rota.proofs.written.are_rota.Goals as goal

pub returns-then-are_below : goal.returns-then-are_below
returns-then-are_below c = grind (arith, below_list c.args.entries.now c.args.n, names_list c.args.entries.now c.args.n)

pub returns-else-are_below : goal.returns-else-are_below
returns-else-are_below c = grind (arith, below_list c.args.entries.now c.args.n, names_list c.args.entries.now c.args.n)
