use Rattle.std.proofs.Common.{rules, ◌≡◌, ◌∙◌, ap}
use Rattle.std.proofs.lemmas.Result.{IfOk-weaker}
use Rattle.rehearsal.proofs.Listed.{chunks_listed}
use Rattle.rehearsal.proofs.read.read_list.Goals as goal

pub returns : goal.returns
returns g c = IfOk-weaker c.collect.result _ _ (λ v h.
    let p = h tt in
    let m = c.map.ensures.runs p.0 p.0.seen p.1 in
    let e = m.2.3 (λ x. g.C.Packed.unpacked x.now 0) (λ x r q k. search rules) in
    let chunks = c.chunks_exact.ensures.runs m.0 m.0.seen in
    let s : m.0.from.size ≡ g.C.Packed.SIZE = ap (λ f. f.size) m.1 ∙ c.chunks_exact.ensures.size ∙ c.SIZE.ensures in
    let r : m.0.from.rest.now ≡ c.args.bytes.now = ap (λ f. f.rest.now) m.1 ∙ c.chunks_exact.ensures.rest in
    let k = chunks_listed g.C.Packed.SIZE g.C.Packed.unpacked g.met.C.Packed.some g.met.C.Packed.own m.0 (λ x. x.now) in
    p.3.0 ∙ e ∙ k c.args.bytes.now (rw (s, r) at chunks g.met.C.Packed.some) (m.2.0 ∙ p.2))
    c.collect.ensures.runs
