use Rattle.body.proofs.Steps.{Left}
use Rattle.body.proofs.sorts.read_lists.Given as goal

abbrev pub invariant-loop-host : goal.invariant-loop-host
invariant-loop-host l = Left l.limits l.span.bytes.now l.span.offset l.fn.front l.host (record l.fn.front { lists = l.list-items }) l.size
