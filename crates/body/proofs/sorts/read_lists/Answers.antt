use Rattle.std.proofs.Common.{sym, ◌∙◌, arith, rules}
use Rattle.std.proofs.lemmas.List.{length-drop, set-get_or}
use Rattle.parts.proofs.Settled.{read_behind}
use Rattle.body.specs.Bodies.{list}
use Rattle.body.proofs.Steps.{refused, signed, passed, done}
use Rattle.body.proofs.sorts.read_lists.Goals as goal
use Rattle.body.proofs.sorts.read_lists.Goals.{then-has_host+in_ok-read, else-has_host}

pub returns-in_err-read : goal.returns-in_err-read
returns-in_err-read c =
    let n = read_behind (list c.args.limits) c.args.span.bytes.now c.args.span.offset c.loop-host.size c.behind.ensures.bytes c.behind.ensures.offset c.loop-host.invariant.to c.in_err-read.ensures.answer in
    let t = refused c.loop-host.invariant (omega arith) (sym c.has_host.ensures ∙ c.if-has_host.true) n in
    search rules

pub loop-host-preserved : goal.loop-host-preserved
loop-host-preserved c = elim c.if-has_host.branch [
  | then-has_host+in_ok-read w ↦
      let y = read_behind (list c.args.limits) c.args.span.bytes.now c.args.span.offset c.loop-host.size w.behind.ensures.bytes w.behind.ensures.offset c.loop-host.invariant.to w.in_ok-read.ensures.answer in
      let l = w.in_ok-read.ensures.within in
      let d = length-drop c.loop-host.size c.args.span.bytes.now in
      let t = signed c.loop-host.invariant w.in_ok-read.read (omega arith) (sym c.has_host.ensures ∙ w.if-has_host.true) y (let b = simp w.behind.ensures.bytes at l in omega arith) in
      rw (w.list-items-is, w.size-is) t
  | else-has_host w ↦ rw (w.list-items-is ∙ set-get_or c.loop-host.list-items c.loop-host.host 0, w.size-is) (passed c.loop-host.invariant (omega arith) (sym c.has_host.ensures ∙ w.if-has_host.false))
]

pub returns : goal.returns
returns c = let t = done c.loop-host.invariant (omega arith) in search rules
