use Rattle.std.proofs.Common.{◌≡◌, ◌≤◌, true, arith}
use Rattle.std.proofs.lemmas.Bool.Decides.{nat_tests}
use Rattle.setup.specs.Setup.{distinct, all_placed, places_of}
use Rattle.setup.proofs.Places.{placed}
use Rattle.setup.proofs.Setup.judge.Goals as goal

pub returns-clause-placed : goal.returns-clause-placed
returns-clause-placed g c =
    let setup = c.args.self.now in
    let equal = g.C.Candidate.equal in
    let laws = g.met.C.Candidate in
    let cs = setup.candidates.now in
    let xs = setup.inputs.now in
    let few : setup.n ≤ 16 = grind (arith, nat_tests) in
    let apart : distinct equal cs ≡ true = grind arith in
    let all : all_placed setup.n setup.faulty (places_of equal setup.faulty cs xs) ≡ true = grind arith in
    let found : c.places-places.result ≡ places_of equal setup.faulty cs xs = grind arith in
    rw found (placed equal laws.symmetric laws.transitive setup.n setup.faulty cs xs few apart all)
