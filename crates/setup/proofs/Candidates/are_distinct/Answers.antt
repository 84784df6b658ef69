use Rattle.std.proofs.Common.{length, refl, arith, rules, tests, ◌∙◌}
use Rattle.std.proofs.lemmas.Iterator.{YieldsList-from_range}
use Rattle.std.proofs.lemmas.Iterator.Search.{all_from_yields_List}
use Rattle.sets.proofs.Lists.{all_range}
use Rattle.setup.specs.Setup.{new_at}
use Rattle.setup.proofs.Candidates.are_distinct.Goals as goal

pub returns : goal.returns
returns g c =
    let cs = c.args.self.now.list.now in
    let new = new_at g.C.Candidate.equal cs in
    all_from_yields_List new _ _ _ c.all.ensures.ran (YieldsList-from_range 0 (length cs) (length cs) refl (omega arith)) (λ x b q k. search (rules, tests))
    ∙ all_range (length cs) new
