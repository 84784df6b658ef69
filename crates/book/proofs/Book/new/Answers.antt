use Rattle.std.proofs.Common.{sym, ◌∙◌, arith}
use Rattle.keeper.proofs.Counts.{count_empty}
use Rattle.book.proofs.Book.new.Goals as goal

pub invariant_of-result : goal.invariant_of-result
invariant_of-result c =
    let m = c.in_ok-rows.ensures in
    let b = c.new-bounds.result in
    record {
      inside = λ at. rw m.items;
      counted = rw m.items (m.len ∙ sym (count_empty b.hosts b.opened b.horizon));
      roomy = omega (arith, m.capacity, c.position_count.ensures);
    }
