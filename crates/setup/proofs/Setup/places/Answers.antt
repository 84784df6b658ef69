use Rattle.std.proofs.Common.{None, rules}
use Rattle.sets.proofs.Masks.{per_host_all}
use Rattle.setup.specs.Setup.{place_at}
use Rattle.setup.proofs.Setup.places.Goals as goal

pub returns : goal.returns
returns g c =
    let made = c.from_fn.ensures.items in
    per_host_all (place_at g.C.Candidate.equal c.args.self.now.faulty c.args.candidates.now.list.now c.args.self.now.inputs.now) None c.from_fn.result made.long (λ k l. let m = made.at k None l in search rules)
