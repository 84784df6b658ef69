use Rattle.std.proofs.Common.{◌^◌, ◌<◌, sym, ◌∙◌, arith}
use Rattle.std.proofs.lemmas.Bool.{le-ltb}
use Rattle.sets.proofs.Masks.{has-shr, has_past}
use Rattle.sets.proofs.has_host.Goals as goal

pub returns-then-host-lt-HOSTS : goal.returns-then-host-lt-HOSTS
returns-then-host-lt-HOSTS c = has-shr c.args.hosts c.args.host

pub returns-else-host-lt-HOSTS : goal.returns-else-host-lt-HOSTS
returns-else-host-lt-HOSTS c =
    let l : c.args.hosts < 2 ^ 16 = omega arith in
    le-ltb c.args.host _ (omega arith) ∙ sym (has_past 16 c.args.hosts c.args.host l (omega arith))
