-- What rows hold.
use Rattle.std.specs.Prelude.{List, option_map}
use Rattle.std.specs.List.{find}
use Rattle.keeper.specs.Keeping.{Map, same_position}
use Rattle.book.specs.declared.row.Row.{Row}

-- the number of the first row at the position
abbrev pub found : List Row → Map
found rs at = option_map (λ (r : Row). r.number) (find (λ (r : Row). same_position r.position at) rs)
