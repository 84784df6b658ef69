use Rattle.std.proofs.Common.{length}
use Rattle.rehearsal.proofs.Splitting.{Counting}
use Rattle.rehearsal.proofs.bags.count_bags.Given as goal

abbrev pub invariant-loop-size : goal.invariant-loop-size
invariant-loop-size l = Counting l.bytes l.whole l.rest

abbrev pub decreases-loop-size : goal.decreases-loop-size
decreases-loop-size l = length l.rest
