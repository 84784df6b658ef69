-- When two snapshots, and when two terms, are equal.
use Rattle.std.specs.Prelude.{ℕ, ◌*◌, Bool, true, false, ◌&&◌, ◌==◌}
use Rattle.candidate.specs.declared.snapshot.Snapshot.{Snapshot}
use Rattle.candidate.specs.declared.term.Term.{Term}
use Rattle.candidate.specs.declared.term.TimeUnit.{TimeUnit}
use Rattle.candidate.specs.declared.term.TimeUnit.TheVariants as unit
use Rattle.candidate.specs.declared.term.Length.{Length}
use Rattle.candidate.specs.declared.term.Length.TheVariants.{Days, Months, UntilClose}

-- snapshots agree in both numbers
abbrev pub equal_snapshots : Snapshot → Snapshot → Bool
equal_snapshots a b = a.manual == b.manual && a.snapshot == b.snapshot

-- how long so many of a unit are: a year is twelve months, and no number of days is a number of months
abbrev pub length_in : TimeUnit → ℕ → Length
length_in unit.Days n = Days n
length_in unit.Months n = Months n
length_in unit.Years n = Months (12 * n)
length_in unit.UntilClose n = UntilClose

-- days with days, months with months, and until the close
abbrev pub equal_lengths : Length → Length → Bool
equal_lengths (Days m) (Days n) = m == n
equal_lengths (Days m) (Months n) = false
equal_lengths (Days m) UntilClose = false
equal_lengths (Months m) (Days n) = false
equal_lengths (Months m) (Months n) = m == n
equal_lengths (Months m) UntilClose = false
equal_lengths UntilClose (Days n) = false
equal_lengths UntilClose (Months n) = false
equal_lengths UntilClose UntilClose = true

-- how long a term is
abbrev pub length_of : Term → Length
length_of t = length_in t.unit t.count

-- terms are equal when they are equally long, however they are spelled
abbrev pub equal_terms : Term → Term → Bool
equal_terms a b = equal_lengths (length_of a) (length_of b)
