use Rattle.keeper.proofs.Standing.{authentic}
use Rattle.keeper.proofs.genuine_is_what_was_sealed.Goals as goal

pub returns : goal.returns
returns c = authentic
