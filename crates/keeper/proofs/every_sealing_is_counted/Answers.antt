use Rattle.keeper.proofs.Counts.{counted}
use Rattle.keeper.proofs.every_sealing_is_counted.Goals as goal

pub returns : goal.returns
returns c = counted
