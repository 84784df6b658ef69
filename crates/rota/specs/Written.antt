-- What a written rota that was made means.
use Rattle.std.specs.Prelude.{cond, nat_lt, slice_index}
use Rattle.rota.specs.Schedule.{Schedule}
use Rattle.rota.specs.Cycles.{cycle, void}
use Rattle.rota.specs.declared.written.entries.WrittenRota.{WrittenRota}

-- its first entries, over and over, if it has hosts
abbrev pub written_schedule : WrittenRota → Schedule
written_schedule r = cond (nat_lt 0 r.hosts) (cycle r.hosts r.len (λ i. slice_index r.entries i)) void
