-- Schedules that repeat: turn by turn, and by written entries.
use Rattle.std.specs.Prelude.{ℕ, ◌%◌, Bool, cond, if◌then◌else◌, ◌&&◌, List, length, Some, None, Option, ◌==◌, nat_le, nat_lt, slice_index}
use Rattle.sets.specs.Sets.{all_below, any_below, is_host_count, phases}
use Rattle.rota.specs.Schedule.{Schedule}

-- the schedule of no hosts
abbrev pub void : Schedule
void = record { hosts = 0; window = 0; owner = λ k. 0 }

-- which of so many turns comes up at phase k, where there are turns and phases
abbrev pub turn_at : ℕ → ℕ → Option ℕ
turn_at k turns = if nat_lt 0 turns && nat_lt k phases then Some (k % turns) else None

-- n hosts own the phases by len entries, over and over
abbrev pub cycle : ℕ → ℕ → (ℕ → ℕ) → Schedule
cycle n len entry = record { hosts = n; window = len; owner = λ k. cond (nat_lt k phases) (entry (k % len)) 0 }

-- phase k belongs to host k mod n
abbrev pub turn_by_turn : ℕ → Schedule
turn_by_turn n = cond (is_host_count n) (cycle n n (λ i. i)) void

-- one of the first len entries names h
abbrev pub names : List ℕ → ℕ → ℕ → Bool
names es len h = any_below len (λ i. slice_index es i == h)

-- the first len entries name hosts below n, and each of them
abbrev pub names_exactly : List ℕ → ℕ → ℕ → Bool
names_exactly es len n = all_below len (λ i. nat_lt (slice_index es i) n) && all_below n (names es len)

-- 1 to 64 entries can be a rota of n hosts
abbrev pub is_written : ℕ → List ℕ → Bool
is_written n es = is_host_count n && (nat_le 1 (length es) && (nat_le (length es) 64 && names_exactly es (length es) n))

-- phase k belongs to the host that entry k mod the number of entries names
abbrev pub by_entries : ℕ → List ℕ → Schedule
by_entries n es = cond (is_written n es) (cycle n (length es) (λ i. slice_index es i)) void
