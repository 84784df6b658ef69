use Rattle.std.proofs.Common.{◌≡◌, ◌≤◌, length, not, take, Some, rules, tests, sym, ◌∙◌}
use Rattle.std.specs.List.{slice_get}
use Rattle.std.proofs.lemmas.Iterator.{YieldsList-from_slice}
use Rattle.std.proofs.lemmas.Iterator.Search.{all_from_yields_List}
use Rattle.std.proofs.lemmas.Option.{slice_get_read}
use Rattle.setup.proofs.Places.{new_before, new_past}
use Rattle.setup.proofs.Candidates.is_new_at.Goals as goal

pub returns-in-Some : goal.returns-in-Some
returns-in-Some g c =
    let equal = g.C.Candidate.equal in
    let cs = c.args.self.now.list.now in
    let x = c.in-Some.candidate.now in
    let there : slice_get cs c.args.place ≡ Some x = search (rules, slice_get_read) in
    all_from_yields_List (λ k. not (equal k x)) _ _ _ c.all.ensures.ran (YieldsList-from_slice (take c.args.place cs) c.iter.ensures.rest) (λ y b q k. search (rules, tests))
    ∙ new_before equal cs c.args.place x there (search rules)

pub returns-in-None : goal.returns-in-None
returns-in-None g c =
    let past : length c.args.self.now.list.now ≤ c.args.place = search rules in
    sym (new_past g.C.Candidate.equal c.args.self.now.list.now c.args.place past)
