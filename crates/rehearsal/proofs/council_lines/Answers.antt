use Rattle.std.proofs.Common.{rules, arith}
use Rattle.std.proofs.lemmas.Iterator.{YieldsList-from_map, YieldsList-from_range}
use Rattle.std.proofs.lemmas.Iterator.Adapters.{items_from_extend}
use Rattle.rehearsal.specs.Lines.{host_line}
use Rattle.rehearsal.proofs.council_lines.Goals as goal

pub returns : goal.returns
returns g c =
    let head = c.args.head in
    let h = items_from_extend c.extend.result c.extend.ensures.ran (YieldsList-from_map _ (host_line head.faulty) (YieldsList-from_range 0 head.n head.n c.map.ensures.source (omega arith)) c.map.ensures.closure (λ x r q k. search rules)) in
    search rules
