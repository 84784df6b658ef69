use Rattle.std.proofs.Common.{◌≡◌, ◌+◌, sym, arith, rules}
use Rattle.std.proofs.lemmas.List.{length-drop}
use Rattle.parts.specs.Reading.{giving}
use Rattle.parts.proofs.Settled.{read_behind}
use Rattle.entry.specs.Entries.{entry}
use Rattle.entry.specs.Raw.{met_of}
use Rattle.entry.proofs.Opened.{opened_ok, opened_err, pair_of}
use Rattle.bag.specs.Checked.{is_filed}
use Rattle.bag.proofs.Steps.{begun, refused, more, left_over, done}
use Rattle.bag.proofs.checked.entries.read_entries.Goals as goal

pub loop-k-init : goal.loop-k-init
loop-k-init g c = rw c.new-offsets.ensures (begun c.args.limits c.args.most (giving g.B.BodySort.body (g.B.BodySort.reading c.args.limits)) c.args.span.bytes.now c.args.span.offset c.args.count)

pub returns-in_err-entry : goal.returns-in_err-entry
returns-in_err-entry g c =
    let body = giving g.B.BodySort.body (g.B.BodySort.reading c.args.limits) in
    let read = entry c.args.limits c.args.most body (is_filed c.loop-k.offsets.rows) in
    let e = opened_err (met_of body) read c.behind.result.bytes.now c.behind.result.offset c.in_err-entry.field-0.0 c.in_err-entry.ensures.answer in
    let y = read_behind read c.args.span.bytes.now c.args.span.offset c.loop-k.used c.behind.ensures.bytes c.behind.ensures.offset c.loop-k.invariant.to e in
    let t = refused c.loop-k.invariant (omega arith) y in
    search rules

pub loop-k-preserved : goal.loop-k-preserved
loop-k-preserved g c =
    let body = giving g.B.BodySort.body (g.B.BodySort.reading c.args.limits) in
    let bs = c.args.span.bytes.now in
    let read = entry c.args.limits c.args.most body (is_filed c.loop-k.offsets.rows) in
    let m = c.in_ok-entry.ensures in
    let o = opened_ok (met_of body) read c.behind.result.bytes.now c.behind.result.offset c.in_ok-entry.entry m.answer in
    let y = read_behind read bs c.args.span.offset c.loop-k.used c.behind.ensures.bytes c.behind.ensures.offset c.loop-k.invariant.to o.whole_read in
    let p = pair_of body c.in_ok-entry.entry.value o.whole.value o.said in
    let d = length-drop c.loop-k.used bs in
    let w = simp c.behind.ensures.bytes at m.within in
    more c.loop-k.invariant o.whole (omega arith) y (sym p.0) (sym p.1) o.size c.file.ensures (omega (arith, c.loop-k.invariant.to))

pub returns-then-used-span : goal.returns-then-used-span
returns-then-used-span g c =
    let t = left_over c.loop-k.invariant (omega arith) (omega arith) in
    let e : c.behind-then-used-span.result.offset ≡ c.args.span.offset + c.loop-k.used = omega (arith, c.loop-k.invariant.to) in
    rw (c.fault.ensures, e) t

pub returns : goal.returns
returns g c = let t = done c.loop-k.invariant (omega arith) (omega arith) in search rules
