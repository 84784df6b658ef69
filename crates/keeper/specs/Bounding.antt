-- What a keeper with some bounds and some map means, and how many positions it has.
use Rattle.std.specs.Prelude.{ℕ, ◌*◌}
use Rattle.keeper.specs.declared.bounds.Bounds.{Bounds}
use Rattle.keeper.specs.Keeping.{Keeping, Map}

-- the keeper of these bounds that holds the map
abbrev pub kept : Bounds → Map → Keeping
kept b m = record { hosts = b.hosts; opened = b.opened; horizon = b.horizon; held = m }

-- two sorts of number for each host and phase
abbrev pub positions : Bounds → ℕ
positions b = 2 * b.hosts * b.horizon
