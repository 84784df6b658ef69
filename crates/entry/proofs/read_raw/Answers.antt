use Rattle.std.proofs.Common.{Ok, arith}
use Rattle.parts.specs.Reading.{giving, placed_at}
use Rattle.parts.proofs.Settled.{read_behind}
use Rattle.entry.specs.Entries.{bodies_of}
use Rattle.entry.proofs.Settled.{alone, settled_bodies}
use Rattle.entry.proofs.read_raw.Goals as goal

pub returns-clause-answer : goal.returns-clause-answer
returns-clause-answer g c =
    let lim = c.args.limits in
    let body = giving g.B.BodySort.body (g.B.BodySort.reading lim) in
    let f = c.in_ok-proper.proper in
    let b = c.in_ok-bodies.bodies in
    let l = c.in_ok-proper.ensures in
    let m = c.in_ok-bodies.ensures in
    let read = bodies_of body c.args.head.count in
    let y = read_behind read c.args.span.bytes.now c.args.span.offset f.size {r = Ok c.in_ok-bodies.bodies} c.behind-rest.ensures.bytes c.behind-rest.ensures.offset l.within m.answer in
    let z = alone read (settled_bodies body (g.met.B.BodySort.sound lim).settled c.args.head.count) c.behind-rest.result.bytes.now c.behind-rest.result.offset (placed_at c.front-own.result.bytes.now c.front-own.result.offset) b m.answer in
    let t = rw (← c.front-own.ensures.bytes) at z in
    grind arith
