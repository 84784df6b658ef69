-- How candidates and verdicts are printed, as lists of bytes.
use Rattle.std.specs.Prelude.{ℕ, List, ◌++◌, codes, decimal}
use Rattle.candidate.specs.declared.snapshot.Snapshot.{Snapshot}
use Rattle.candidate.specs.declared.term.Term.{Term}
use Rattle.candidate.specs.declared.term.TimeUnit.{TimeUnit}
use Rattle.candidate.specs.declared.term.TimeUnit.TheVariants.{Days, Months, Years, UntilClose}
use Rattle.candidate.specs.declared.verdict.Verdict.{Verdict}

-- manual and snapshot, with a space between
abbrev pub snapshot_text : Snapshot → List ℕ
snapshot_text s = decimal s.manual ++ (codes " " ++ decimal s.snapshot)

-- the count and the unit's letter
abbrev pub span_text : TimeUnit → ℕ → List ℕ
span_text Days n = decimal n ++ codes "d"
span_text Months n = decimal n ++ codes "m"
span_text Years n = decimal n ++ codes "y"
span_text UntilClose n = codes "close"

-- a term is printed as it was spelled
abbrev pub term_text : Term → List ℕ
term_text t = span_text t.unit t.count

-- a verdict on a kind of candidate that is printed by `text`
abbrev pub verdict_text : {C : Type 0} → (C → List ℕ) → Verdict C → List ℕ
verdict_text text v = text v.candidate ++ (codes " at " ++ decimal v.phase)
