use Rattle.std.proofs.Common.{refl}
use Rattle.sets.specs.Sets.{has, all_below}
use Rattle.keeper.proofs.bounds.Bounds.new.Goals as goal

-- no host is open where there is none
pub invariant_of-result-clause-below : goal.invariant_of-result-clause-below
unfolding has all_below
invariant_of-result-clause-below c = refl
