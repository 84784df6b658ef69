-- The numbers that units are written as.
use Rattle.std.specs.Prelude.{ℕ, cond, Ok, Err, Result, ◌==◌, nat_lt, if◌then◌else◌}
use Rattle.candidate.specs.declared.term.TimeUnit.{TimeUnit}
use Rattle.candidate.specs.declared.term.TimeUnit.TheVariants.{Days, Months, Years, UntilClose}
use Rattle.candidate.specs.declared.term.UnknownUnit.{UnknownUnit}

-- the unit of a term, in two bits
abbrev pub unit_of : ℕ → TimeUnit
unit_of k = cond (k == 0) Days (cond (k == 1) Months (cond (k == 2) Years UntilClose))

-- the unit, or that no unit has the number
abbrev pub unit_in : ℕ → Result TimeUnit UnknownUnit
unit_in k = if nat_lt k 4 then Ok (unit_of k) else Err (record { 0 = k })
