use Rattle.std.proofs.Common.{[], sym, rules}
use Rattle.fault.specs.declared.Layer.TheVariants as layers
use Rattle.parts.specs.Numbers.{word}
use Rattle.parts.proofs.Settled.{part_read, part_refused}
use Rattle.entry.specs.Entries.{fields, head_tests}
use Rattle.bag.specs.Checked.{is_filed}
use Rattle.bag.proofs.checked.entries.read_head.Goals as goal

pub returns-in-Err-clause-answer : goal.returns-in-Err-clause-answer
returns-in-Err-clause-answer c =
    let bs = c.args.span.bytes.now in
    let at = c.args.span.offset in
    let front = c.in_ok-front.front in
    let h = sym c.in_ok-front.ensures.answer in
    let r = (part_read 2 word layers.Entry (λ w. []) fields bs at front h).is in
    let e = rw (c.is_some-is_met.ensures, c.get.ensures, r) at c.in-Err.ensures in
    let t = part_refused 2 word layers.Entry (λ w. head_tests c.args.limits c.args.most (is_filed c.args.offsets.now.rows) (fields w)) fields bs at front c.in-Err.refusal h e in
    search rules
