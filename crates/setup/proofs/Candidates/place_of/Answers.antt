use Rattle.std.proofs.Common.{◌≡◌, rules, tests, ◌∙◌}
use Rattle.std.proofs.lemmas.Iterator.{YieldsList-from_slice}
use Rattle.std.proofs.lemmas.Iterator.Search.{position_from_yields_List}
use Rattle.setup.proofs.Places.{place_of-position}
use Rattle.setup.proofs.Candidates.place_of.Goals as goal

pub returns : goal.returns
returns g c =
    let equal = g.C.Candidate.equal in
    let cs = c.args.self.now.list.now in
    let x = c.args.input.now in
    let found = position_from_yields_List (λ k. equal k x) _ _ c.position.result c.position.ensures.ran (YieldsList-from_slice cs cc) (λ y b q k. search (rules, tests)) in
    let cast : c.map.result ≡ c.position.result = search rules in
    cast ∙ found ∙ place_of-position equal cs x
