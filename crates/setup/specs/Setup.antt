-- When a council can be made, and where the honest inputs stand among the candidates.
use Rattle.std.specs.Prelude.{ℕ, ◌+◌, ◌*◌, Bool, false, cond, not, ◌&&◌, ◌||◌, List, [], ◌∷◌, length, is_some, Some, None, Option, Result, ◌==◌, nat_le, nat_lt, slice_index_or}
use Rattle.std.specs.List.{slice_get}
use Rattle.sets.specs.Sets.{has, only_below, count, all_below, lowest, per_host, is_host_count}
use Rattle.rota.specs.Schedule.{Schedule}
use Rattle.fault.specs.Refusals.{number_of, first_that_holds, unless}
use Rattle.fault.specs.declared.Refusal.{Refusal}
use Rattle.fault.specs.declared.Refusal.TheVariants.{HostCount, FaultBound, FaultSet, CandidateCount, EqualCandidates, InputCount, StrayInput, RotaHosts}
use Rattle.setup.specs.declared.InputPlaces.{InputPlaces}

-- a council has 1 to 32 candidates
abbrev pub is_candidate_count : ℕ → Bool
is_candidate_count m = nat_le 1 m && nat_le m 32

-- at most t hosts, all below n
abbrev pub is_fault_set : ℕ → ℕ → ℕ → Bool
is_fault_set n t faulty = only_below n faulty && nat_le (count 16 (has faulty)) t

-- each honest host below n has a place
abbrev pub all_placed : ℕ → ℕ → List (Option ℕ) → Bool
all_placed n faulty places = all_below n (λ j. has faulty j || is_some (slice_index_or places j None))

-- over a kind of candidate, by its equality
module _ {C : Type 0} (equal : C → C → Bool) where
  -- both are there, and equal
  abbrev pub both_equal : Option C → Option C → Bool
  both_equal None y = false
  both_equal (Some x) None = false
  both_equal (Some x) (Some y) = equal x y

  -- no candidate before place j is equal to that at j
  abbrev pub new_at : List C → ℕ → Bool
  new_at cs j = all_below j (λ i. not (both_equal (slice_get cs i) (slice_get cs j)))

  -- no two candidates are equal
  abbrev pub distinct : List C → Bool
  distinct cs = all_below (length cs) (new_at cs)

  -- the lowest place of a candidate equal to the input
  abbrev pub place_of : List C → Option C → Option ℕ
  place_of cs x = lowest (length cs) (λ k. both_equal (slice_get cs k) x)

  -- the place of host j's input; that of a faulty host is not looked at
  abbrev pub place_at : ℕ → List C → List C → ℕ → Option ℕ
  place_at faulty cs xs j = cond (has faulty j) None (place_of cs (slice_get xs j))

  -- the same for every host
  abbrev pub places_of : ℕ → List C → List C → List (Option ℕ)
  places_of faulty cs xs = per_host (place_at faulty cs xs)

  -- the first fault that applies to n hosts of which t may be faulty, the fault set, the candidates, the inputs and the rota
  abbrev pub setup_fault : ℕ → ℕ → ℕ → List C → List C → Schedule → Option Refusal
  setup_fault n t faulty cs xs rota =
      first_that_holds (
      (not (is_host_count n), HostCount)
      ∷ (nat_lt n (3 * t + 1), FaultBound)
      ∷ (not (is_fault_set n t faulty), FaultSet)
      ∷ (not (is_candidate_count (length cs)), CandidateCount)
      ∷ (not (distinct cs), EqualCandidates)
      ∷ (not (length xs == n), InputCount)
      ∷ (not (all_placed n faulty (places_of faulty cs xs)), StrayInput)
      ∷ (not (rota.hosts == n), RotaHosts)
      ∷ []
      )

  -- the setup number
  abbrev pub setup_number : ℕ → ℕ → ℕ → List C → List C → Schedule → ℕ
  setup_number n t faulty cs xs rota = number_of (setup_fault n t faulty cs xs rota)

  -- the places of the honest inputs, unless there is a fault
  abbrev pub judged : ℕ → ℕ → ℕ → List C → List C → Schedule → Result InputPlaces Refusal
  judged n t faulty cs xs rota = unless (setup_fault n t faulty cs xs rota) (record { places = places_of faulty cs xs })
