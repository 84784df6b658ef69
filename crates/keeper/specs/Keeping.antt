-- What a keeper of seals means: which number each host has sealed, for what, and what counts as genuine.
use Rattle.std.specs.Prelude.{◌≡◌, ℕ, ◌+◌, ◌*◌, ◌/◌, ◌^◌, ◌≤◌, min, Bool, true, false, cond, ◌&&◌, ◌||◌, [], ◌∷◌, is_some, Some, None, Option, Result, ◌==◌, nat_le, nat_lt}
use Rattle.fault.specs.declared.Refusal.{Refusal}
use Rattle.fault.specs.declared.Refusal.TheVariants.{UnknownSealer, PastHorizon, OpenSealer, SealedBefore}
use Rattle.fault.specs.Refusals.{first_that_holds, unless}
use Rattle.sets.specs.Sets.{has, is_host_count, only_below, phases, count, sum_below}
use Rattle.keeper.specs.declared.position.Sort.{Sort}
use Rattle.keeper.specs.declared.position.Sort.TheVariants.{List, Nomination}
use Rattle.keeper.specs.declared.position.Position.{Position}

-- the position of a host, a sort and a phase
abbrev pub position : ℕ → Sort → ℕ → Position
position h s p = record { host = h; sort = s; phase = p }

-- at most one number at each position
abbrev pub Map : Type 0
Map = Position → Option ℕ

-- no number anywhere
abbrev pub nothing : Map
nothing at = None

-- a register of sealed (authenticated) numbers: how many hosts take part, which of them are open (faulty, so that any number passes for theirs), the number of phases, and what is held
pub record Keeping : Type 0 where
  pub hosts : ℕ
  pub opened : ℕ
  pub horizon : ℕ
  pub held : Map

-- the position is that of a host, and of a phase below the horizon
abbrev pub is_inside : Keeping → Position → Bool
is_inside k at = nat_lt at.host k.hosts && nat_lt at.phase k.horizon

-- this very number is there
abbrev pub holds : Option ℕ → ℕ → Bool
holds None x = false
holds (Some y) x = y == x

-- at a position inside, a number is genuine where it is held, and every number of an open host is
abbrev pub is_genuine : Keeping → Position → ℕ → Bool
is_genuine k at x = is_inside k at && (has k.opened at.host || holds (k.held at) x)

-- the first reason why no number can be sealed at a position
abbrev pub seal_fault : Keeping → Position → Option Refusal
seal_fault k at =
    first_that_holds (
    (nat_le k.hosts at.host, UnknownSealer)
    ∷ (nat_le k.horizon at.phase, PastHorizon)
    ∷ (has k.opened at.host, OpenSealer)
    ∷ (is_some (k.held at), SealedBefore)
    ∷ []
    )

-- what sealing answers
abbrev pub sealing : Keeping → Position → Result (Unit {0}) Refusal
sealing k at = unless (seal_fault k at) tt

-- the sorts are the same
abbrev pub same_sort : Sort → Sort → Bool
same_sort List List = true
same_sort List Nomination = false
same_sort Nomination List = false
same_sort Nomination Nomination = true

-- the positions are the same
abbrev pub same_position : Position → Position → Bool
same_position a b = a.host == b.host && (same_sort a.sort b.sort && a.phase == b.phase)

-- the map with one number more
abbrev pub with_number : Map → Position → ℕ → Map
with_number m at x p = cond (same_position at p) (Some x) (m p)

-- the keeper with another map
abbrev pub holding : Keeping → Map → Keeping
holding k m = record { hosts = k.hosts; opened = k.opened; horizon = k.horizon; held = m }

-- the keeper after a sealing: it holds one number more, or what it held where the sealing is refused
abbrev pub sealed : Keeping → Position → ℕ → Keeping
sealed k at x = holding k (cond (is_some (seal_fault k at)) k.held (with_number k.held at x))

-- how many phases of a host have a number of a sort
abbrev pub filled_phases : Keeping → ℕ → Sort → ℕ
filled_phases k h s = count k.horizon (λ p. is_some (k.held (position h s p)))

-- how many positions are filled
unfoldable pub held_count : Keeping → ℕ
held_count k = sum_below k.hosts (λ h. filled_phases k h List + filled_phases k h Nomination)

-- a keeper that holds nothing
abbrev pub empty : ℕ → ℕ → ℕ → Keeping
empty n opened horizon = record { hosts = n; opened = opened; horizon = horizon; held = nothing }

-- a new keeper with room for so many numbers, of which a phase takes two for each host; for no hosts, where n is not 1 to 16 or a host that there is not is open
abbrev pub fresh : ℕ → ℕ → ℕ → Keeping
fresh n opened room = cond (is_host_count n && only_below n opened) (empty n opened (min (room / (2 * n)) phases)) (empty 0 0 0)

-- what is held at a position is nothing, or the position is inside and the number has 32 bits
abbrev pub fits : Keeping → Position → Option ℕ → Bool
fits k at None = true
fits k at (Some x) = is_inside k at && nat_lt x (2 ^ 32)

-- the same at every position
abbrev pub AllFit : Keeping → Type 0
AllFit k = (at : Position) → fits k at (k.held at) ≡ true

-- what every keeper keeps to: at most 16 hosts, none open but hosts, at most 2,048 phases, and only 32-bit numbers at positions inside
pub record Sound (k : Keeping) : Type 0 where
  pub few : k.hosts ≤ 16
  pub below : only_below k.hosts k.opened ≡ true
  pub short : k.horizon ≤ phases
  pub inside : AllFit k
