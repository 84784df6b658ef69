use Rattle.std.proofs.Common.{rules}
use Rattle.keeper.proofs.Standing.{genuine_for_good, sealing_for_good}
use Rattle.keeper.proofs.attest.Goals as goal

pub returns-then-is_genuine-clause-stands : goal.returns-then-is_genuine-clause-stands
returns-then-is_genuine-clause-stands g c = genuine_for_good (g.K.Keeper.keeping c.args.keeper.now) c.args.at c.args.number (search rules)

pub returns-clause-stands : goal.returns-clause-stands
returns-clause-stands g c = sealing_for_good (g.K.Keeper.keeping c.args.keeper.now) _ c.args.at c.args.number c.seal.result c.seal.ensures.answer c.seal.ensures.after
