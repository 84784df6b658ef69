use Rattle.setup.proofs.Unseen.{unseen}
use Rattle.setup.proofs.faulty_inputs_are_unseen.Goals as goal

pub returns : goal.returns
returns g c = unseen g.C.Candidate.equal
