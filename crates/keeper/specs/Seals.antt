-- What holds of every keeper over any line of sealings: what is sealed stands, nothing else is genuine, and all is counted.
use Rattle.std.specs.Prelude.{◌≡◌, ℕ, ◌+◌, true, false, cond, List, [], ◌∷◌, ◌++◌, is_some, Ok, Decides, Result}
use Rattle.fault.specs.declared.Refusal.{Refusal}
use Rattle.sets.specs.Sets.{has}
use Rattle.keeper.specs.declared.position.Position.{Position}
use Rattle.keeper.specs.Keeping.{Keeping, is_genuine, seal_fault, sealing, sealed, held_count, empty}

-- numbers to be sealed one after another, each with its position
abbrev pub Sealings : Type 0
Sealings = List (Position × ℕ)

-- the keeper after them, be they accepted or refused
abbrev pub sealed_all : Keeping → Sealings → Keeping
sealed_all k [] = k
sealed_all k (s ∷ ss) = sealed_all (sealed k s.0 s.1) ss

-- whatever is sealed later, the number is genuine at its position, and it is the only one unless the host is open
pub record ForGood (k : Keeping) (at : Position) (x : ℕ) : Type 0 where
  pub genuine : (later : Sealings) → is_genuine (sealed_all k later) at x ≡ true
  pub only : (later : Sealings) (y : ℕ) → has k.opened at.host ≡ false → is_genuine (sealed_all k later) at y ≡ true → y ≡ x

-- the number was among the sealings, and was accepted
pub record SealedIn (k : Keeping) (done : Sealings) (at : Position) (x : ℕ) : Type 0 where
  pub before : Sealings
  pub later : Sealings
  pub split : done ≡ before ++ (at, x) ∷ later
  pub ok : sealing (sealed_all k before) at ≡ Ok tt

-- in a keeper that began empty, exactly the sealed numbers of a host that is not open are genuine
abbrev pub Authentic : Type 0
Authentic = (n opened horizon : ℕ) (done : Sealings) (at : Position) (x : ℕ) → has opened at.host ≡ false → Decides (is_genuine (sealed_all (empty n opened horizon) done) at x) (SealedIn (empty n opened horizon) done at x)

-- how many sealings are accepted
abbrev pub accepted_in : Keeping → Sealings → ℕ
accepted_in k [] = 0
accepted_in k (s ∷ ss) = cond (is_some (seal_fault k s.0)) 0 1 + accepted_in (sealed k s.0 s.1) ss

-- a keeper that began empty holds as many numbers as sealings were accepted
abbrev pub Counted : Type 0
Counted = (n opened horizon : ℕ) (done : Sealings) → held_count (sealed_all (empty n opened horizon) done) ≡ accepted_in (empty n opened horizon) done

-- what attesting a number answers: one that is genuine already needs no sealing
abbrev pub attesting : Keeping → Position → ℕ → Result (Unit {0}) Refusal
attesting k at x = cond (is_genuine k at x) (Ok tt) (sealing k at)

-- the keeper after it
abbrev pub attested : Keeping → Position → ℕ → Keeping
attested k at x = cond (is_genuine k at x) k (sealed k at x)
