-- Setups that differ only in what faulty hosts put in are judged alike.
use Rattle.std.proofs.Common.{◌≡◌, ℕ, Bool, List, ⊎_elim}
use Rattle.std.proofs.lemmas.Bool.{cases_Bool}
use Rattle.sets.specs.Sets.{has, per_host}
use Rattle.setup.specs.Setup.{place_at, places_of}
use Rattle.setup.specs.Placed.{SameHonest, Unseen}

module _ {C : Type 0} (equal : C → C → Bool) where
  -- a host has the same place in both
  same_place : (faulty : ℕ) (cs xs ys : List C) → SameHonest faulty xs ys → (j : ℕ) → place_at equal faulty cs xs j ≡ place_at equal faulty cs ys j
  same_place faulty cs xs ys same j = ⊎_elim (λ b. rw b) (λ b. rw (b, same.each j b)) (cases_Bool (has faulty j))

  -- every host has
  same_places : (faulty : ℕ) (cs xs ys : List C) → SameHonest faulty xs ys → places_of equal faulty cs xs ≡ places_of equal faulty cs ys
  same_places faulty cs xs ys same i = per_host (λ j. same_place faulty cs xs ys same j i)

  -- so the answers are the same
  pub unseen : Unseen equal
  unseen n t faulty cs xs ys rota same = let places = same_places faulty cs xs ys same in let count = same.count in rw (count, places)
