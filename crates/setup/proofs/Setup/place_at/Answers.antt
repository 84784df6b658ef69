use Rattle.std.proofs.Common.{◌≡◌, Some, None, arith, rules}
use Rattle.std.specs.List.{slice_get}
use Rattle.std.proofs.lemmas.Option.{slice_get_read, slice_get_past}
use Rattle.setup.proofs.Places.{place_of-none}
use Rattle.setup.proofs.Setup.place_at.Goals as goal

pub returns-in_err-get : goal.returns-in_err-get
returns-in_err-get g c =
    let s : slice_get c.args.self.now.inputs.now c.args.host ≡ None = search (rules, slice_get_past) in
    let n = place_of-none g.C.Candidate.equal c.args.candidates.now.list.now in
    grind arith

pub returns : goal.returns
returns g c =
    let s : slice_get c.args.self.now.inputs.now c.args.host ≡ Some c.in_ok-get.field-0.now = search (rules, slice_get_read) in
    grind arith
