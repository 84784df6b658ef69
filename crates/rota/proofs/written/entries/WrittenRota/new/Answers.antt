use Rattle.std.proofs.Common.{◌≡◌, true, replicate, ◌∙◌, arith}
use Rattle.rota.specs.Cycles.{is_written}
use Rattle.rota.proofs.Entries.{good, names_none, names_front}
use Rattle.rota.proofs.written.entries.WrittenRota.new.Goals as goal

-- the rota of no hosts
pub invariant_of-result : goal.invariant_of-result
invariant_of-result c = record { few = omega arith; short = omega arith; some = λ some. some; none = λ none. none; exact = names_none (replicate 64 0) }

-- the rota by the entries
pub invariant_of-result-2 : goal.invariant_of-result-2
invariant_of-result-2 c =
    let es = c.args.entries.now in
    let yes : is_written c.args.n es ≡ true = grind arith in
    let g = good c.args.n es yes in
    record {
      few = omega arith;
      short = omega arith;
      some = λ _. g.entries.0;
      none = λ none. absurd (omega arith);
      exact = names_front es _ _ c.args.n c.copy_from_slice.ensures.after ∙ g.exact;
    }
