use Rattle.std.proofs.Common.{◌*◌, rules}
use Rattle.rehearsal.proofs.Council.{behind}
use Rattle.rehearsal.proofs.kind_lines.Goals as goal

pub returns : goal.returns
returns g c =
    let packed = g.met.C.Packed in
    let b = behind g.C.Candidate.equal g.C.Packed.SIZE g.C.Packed.unpacked packed.some packed.own c.args.head c.args.bytes.now (c.SIZE.result * c.from.result) (c.SIZE-2.result * c.from-2.result) c.in_ok-candidates.candidates.items c.in_ok-inputs.inputs.items (λ i. c.SIZE.ensures i * c.from.ensures i) (λ i. c.SIZE-2.ensures i * c.from-2.ensures i) c.if-bytes-bags_at.false c.in_ok-candidates.ensures c.in_ok-inputs.ensures in
    search rules
