use Rattle.std.proofs.Common.{◌∙◌, arith}
use Rattle.std.proofs.lemmas.Bool.Decides.{nat_tests}
use Rattle.rehearsal.proofs.Splitting.{last_few, last_torn, past_one}
use Rattle.rehearsal.proofs.bags.count_bags.Goals as goal

pub returns-in_default-split_at_checked : goal.returns-in_default-split_at_checked
returns-in_default-split_at_checked c =
    let off = c.in-Some.ensures.cases in
    last_torn c.args.bytes.now c.loop-size.rest.now c.in-Some.size.now c.in-Some.behind.now c.loop-size.whole c.from-size.result (off.0, off.1, off.2, c.from-size.ensures ∙ c.from_be_bytes.ensures) c.in_default-split_at_checked.ensures.cases c.loop-size.invariant

pub loop-size-preserved : goal.loop-size-preserved
loop-size-preserved c =
    let off = c.in-Some.ensures.cases in
    let next = c.in-Some-split_at_checked.ensures.cases in
    past_one c.args.bytes.now c.loop-size.rest.now c.in-Some.size.now c.in-Some.behind.now c.in-Some-split_at_checked.after.now c.loop-size.whole c.from-size.result (off.0, off.1, off.2, c.from-size.ensures ∙ c.from_be_bytes.ensures) next.0 next.2 c.loop-size.invariant

pub returns : goal.returns
returns c = last_few c.args.bytes.now c.loop-size.rest.now c.loop-size.whole _ c.in_default.ensures.cases (grind (arith, nat_tests)) c.loop-size.invariant
