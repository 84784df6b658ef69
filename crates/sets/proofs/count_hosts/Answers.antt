use Rattle.std.proofs.Common.{◌^◌, ◌<◌, sym, ap, ◌∙◌, mod-eq_of_lt, arith}
use lib.Count.{ones}
use Rattle.sets.proofs.Masks.{ones-count}
use Rattle.sets.proofs.count_hosts.Goals as goal

pub returns : goal.returns
returns c =
    let l : c.args.hosts < 2 ^ 16 = omega arith in
    ap ones (sym (mod-eq_of_lt l)) ∙ ones-count 16 c.args.hosts
