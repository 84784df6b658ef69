use Rattle.std.proofs.Common.{◌≡◌, vec_items, arith}
use Rattle.keeper.specs.Bounding.{kept}
use Rattle.keeper.specs.Keeping.{sealed}
use Rattle.keeper.proofs.Counts.{one_more, count_below}
use Rattle.keeper.proofs.Sealings.{sealed_refused}
use Rattle.book.specs.Books.{keeping_of}
use Rattle.book.specs.Rows.{found}
use Rattle.book.proofs.Rows.{sealed_rows}
use Rattle.book.proofs.keeping.BookMapKeeper.seal.Goals as goal
use Rattle.book.proofs.keeping.BookMapKeeper.seal.Goals.{After-push_reserved}

-- the book with one more row
after : (c : goal.After-push_reserved) → kept c.args.self.now.bounds (found (vec_items c.push_reserved.new.self)) ≡ sealed (keeping_of c.args.self.now) c.args.at c.args.number
after c =
    let s = c.args.self.now in
    rw c.push_reserved.ensures.items (sealed_rows s.bounds (vec_items s.rows) (record { position = c.args.at; number = c.args.number }) c.in_ok-judge.ensures)

-- a refused sealing leaves the book as it was
pub returns-in_err-judge-clause-after : goal.returns-in_err-judge-clause-after
returns-in_err-judge-clause-after c = sealed_refused (keeping_of c.args.self.now) c.args.at c.args.number _ c.in_err-judge.ensures

pub push_reserved-requires : goal.push_reserved-requires
push_reserved-requires c =
    let s = c.args.self.now in
    omega (arith, s.counted, s.roomy, count_below (keeping_of s) c.args.at c.in_ok-judge.ensures)

pub invariant_of-self : goal.invariant_of-self
invariant_of-self c =
    let s = c.args.self.now in
    let e = c.push_reserved.ensures in
    let more = one_more (keeping_of s) _ c.args.at c.args.number c.in_ok-judge.ensures (after (goal.at.invariant_of-self c).After-push_reserved) c.ranges.number.fits s.inside in
    record {
      inside = more.0;
      counted = omega (arith, e.len, s.counted, more.1);
      roomy = omega (arith, e.capacity, s.roomy);
    }

pub returns-clause-after : goal.returns-clause-after
returns-clause-after c = after (goal.at.returns-clause-after c).After-push_reserved
