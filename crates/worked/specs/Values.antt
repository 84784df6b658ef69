-- Worked values: what the definitions come to on small examples that were worked out by hand.
use Rattle.std.specs.Prelude.{◌≡◌, ℕ, Bool, true, false, List, [], ◌∷◌}
use Rattle.std.specs.List.{AllByRecursion}
use Rattle.candidate.specs.declared.term.Term.{Term}
use Rattle.candidate.specs.declared.term.TimeUnit.{TimeUnit}
use Rattle.candidate.specs.declared.term.TimeUnit.TheVariants.{Days, Months, Years, UntilClose}
use Rattle.candidate.specs.Equality.{equal_terms}
use Rattle.fault.specs.Refusals.{number_in}
use Rattle.keeper.specs.declared.position.Sort.{Sort}
use Rattle.keeper.specs.declared.position.Sort.TheVariants as sorts
use Rattle.keeper.specs.Keeping.{Keeping, position, fresh, sealing, sealed, is_genuine, held_count}
use Rattle.rota.specs.Cycles.{turn_by_turn, by_entries}
use Rattle.setup.specs.Setup.{setup_number}

-- so many of a unit
abbrev pub term : TimeUnit → ℕ → Term
term u n = record { unit = u; count = n }

-- true as 1, false as 0
abbrev pub bit : Bool → ℕ
bit true = 1
bit false = 0

-- whether two terms are equal, as 1 or 0
abbrev pub same : Term → Term → ℕ
same a b = bit (equal_terms a b)

-- the rota 0, 0, 1, 2, 3 of four hosts
abbrev pub doubled : List ℕ
doubled = 0 ∷ 0 ∷ 1 ∷ 2 ∷ 3 ∷ []

-- the setup number of four hosts, of which host 3 is faulty; two years and a day are the candidates; put in are 24 months, a day, a third term, and nine days by the faulty host
abbrev pub council : ℕ → Term → ℕ
council t third = setup_number equal_terms 4 t 8 (term Years 2 ∷ term Days 1 ∷ []) (term Months 24 ∷ term Days 1 ∷ third ∷ term Days 9 ∷ []) (turn_by_turn 4)

-- a keeper of four hosts and 64 rows, host 3 being open, in which host 0 has sealed 5 as its list of phase 0
abbrev pub begun : Keeping
begun = sealed (fresh 4 8 64) (position 0 sorts.List 0) 5

-- what it answers to a sealing
abbrev pub answer : ℕ → Sort → ℕ → ℕ
answer h s p = number_in (sealing begun (position h s p))

-- whether it calls a number genuine, as 1 or 0
abbrev pub passes : ℕ → Sort → ℕ → ℕ → ℕ
passes h s p x = bit (is_genuine begun (position h s p) x)

-- what a definition gives, and what was worked out
abbrev pub values : List (ℕ × ℕ)
values =
    -- turn by turn gives phase 5 of four hosts to host 1, and the last phase of three hosts to host 1
    ((turn_by_turn 4).owner 5, 1)
    ∷ ((turn_by_turn 3).owner 2047, 1)
    -- beyond the last phase, and for too many hosts, the owner is 0
    ∷ ((turn_by_turn 3).owner 2048, 0)
    ∷ ((turn_by_turn 17).owner 5, 0)
    -- the rota 0, 0, 1, 2, 3 gives phase 6 to host 0, and phase 4 to host 3
    ∷ ((by_entries 4 doubled).owner 6, 0)
    ∷ ((by_entries 4 doubled).owner 4, 3)
    -- it is none of three hosts, which have no host 3, nor of five, since it leaves out host 4
    ∷ ((by_entries 3 doubled).hosts, 0)
    ∷ ((by_entries 5 doubled).hosts, 0)
    -- two years are 24 months, and not 730 days
    ∷ (same (term Years 2) (term Months 24), 1)
    ∷ (same (term Years 2) (term Days 730), 0)
    -- until the close is until the close, whatever is counted
    ∷ (same (term UntilClose 3) (term UntilClose 9), 1)
    -- 5462 years are 65544 months, which is 8 past what 16 bits hold, and not 8 months
    ∷ (same (term Years 5462) (term Months 8), 0)
    -- inputs may be spelled otherwise; what the faulty host puts in does not count
    ∷ (council 1 (term Years 2), 0)
    ∷ (council 1 (term Years 3), 7)
    ∷ (council 2 (term Years 2), 2)
    ∷ (council 0 (term Years 2), 3)
    -- a phase of four hosts takes eight rows, and no keeper has more than 2,048 phases
    ∷ ((fresh 4 8 64).horizon, 8)
    ∷ ((fresh 4 8 63).horizon, 7)
    ∷ ((fresh 1 0 5000).horizon, 2048)
    -- there are no 17 hosts, and of four hosts none is host 4
    ∷ ((fresh 17 0 64).hosts, 0)
    ∷ ((fresh 4 16 64).hosts, 0)
    -- the host is tested first, then the phase, then whether the host is open, then whether the position is filled
    ∷ (answer 4 sorts.List 8, 11)
    ∷ (answer 3 sorts.List 8, 12)
    ∷ (answer 3 sorts.List 7, 13)
    ∷ (answer 0 sorts.List 0, 14)
    ∷ (answer 0 sorts.Nomination 0, 0)
    -- the number that was sealed is genuine and no other, and every number is that of the open host, in the phases that there are
    ∷ (passes 0 sorts.List 0 5, 1)
    ∷ (passes 0 sorts.List 0 6, 0)
    ∷ (passes 3 sorts.List 7 6, 1)
    ∷ (passes 3 sorts.List 8 6, 0)
    ∷ (held_count begun, 1)
    ∷ []

-- each definition gives what was worked out
abbrev pub WorkedValues : Type 0
WorkedValues = AllByRecursion (λ v. v.0 ≡ v.1) values
