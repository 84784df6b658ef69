-- What the judging of a setup promises, in terms of inputs and candidates.
use Rattle.std.specs.Prelude.{◌≡◌, ℕ, ◌<◌, Bool, true, false, List, length, Some, None, Option, slice_index_or}
use Rattle.std.specs.List.{slice_get}
use Rattle.sets.specs.Sets.{has}
use Rattle.rota.specs.Schedule.{Schedule}
use Rattle.setup.specs.Setup.{both_equal, judged}

-- as many inputs, and the same from every host outside the fault set
pub record SameHonest {C : Type 0} (faulty : ℕ) (xs ys : List C) : Type 0 where
  pub count : length xs ≡ length ys
  pub each : (j : ℕ) → has faulty j ≡ false → slice_get xs j ≡ slice_get ys j

-- what faulty hosts put in is not looked at
abbrev pub Unseen : {C : Type 0} → (C → C → Bool) → Type 0
Unseen {C} equal = (n t faulty : ℕ) (cs xs ys : List C) (rota : Schedule) → SameHonest faulty xs ys → judged equal n t faulty cs xs rota ≡ judged equal n t faulty cs ys rota

-- the candidate at the place is equal to x, and no other is
pub record OnlyPlace {C : Type 0} (equal : C → C → Bool) (cs : List C) (x : C) (place : ℕ) : Type 0 where
  pub inside : place < length cs
  pub there : both_equal equal (slice_get cs place) (Some x) ≡ true
  pub only : (k : ℕ) → both_equal equal (slice_get cs k) (Some x) ≡ true → k ≡ place

-- each honest host below n has the only place of its input
abbrev pub Placed : {C : Type 0} → (C → C → Bool) → ℕ → ℕ → List C → List C → List (Option ℕ) → Type 0
Placed {C} equal n faulty cs xs places =
    (j : ℕ) (x : C) → j < n → has faulty j ≡ false → slice_get xs j ≡ Some x → (place : ℕ) × (slice_index_or places j None ≡ Some place) × OnlyPlace equal cs x place
