use Rattle.parts.specs.Reading.{giving}
use Rattle.bag.proofs.Steps.{Left}
use Rattle.bag.proofs.checked.entries.read_entries.Given as goal

abbrev pub invariant-loop-k : goal.invariant-loop-k
invariant-loop-k g l = Left l.limits l.most (giving g.B.BodySort.body (g.B.BodySort.reading l.limits)) l.span.bytes.now l.span.offset l.count l._k l.offsets.rows l.used
