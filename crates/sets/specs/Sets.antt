-- Sets of hosts and of candidates as masks, in which member i weighs 2 ^ i, and tests over the numbers below a bound.
use Rattle.std.specs.Prelude.{ℕ, zero, suc, ◌+◌, ◌/◌, ◌%◌, ◌^◌, Bool, true, false, cond, not, ◌&&◌, ◌||◌, List, map, Some, None, Option, ◌==◌, nat_le, nat_lt}
use Rattle.std.specs.List.{range_with_len}
use Rattle.std.specs.Option.{option_or}

-- the set has member i
unfoldable pub has : ℕ → ℕ → Bool
has mask i = mask / 2 ^ i % 2 == 1

-- a council has 1 to 16 hosts
abbrev pub is_host_count : ℕ → Bool
is_host_count n = nat_le 1 n && nat_le n 16

-- phases are numbered from 0 to 2,047
abbrev pub phases : ℕ
phases = 2048

-- f of the numbers below n, added up
unfoldable pub sum_below : ℕ → (ℕ → ℕ) → ℕ
sum_below zero f = 0
sum_below (suc n) f = sum_below n f + f n

-- how many numbers below n pass
abbrev pub count : ℕ → (ℕ → Bool) → ℕ
count n p = sum_below n (λ i. cond (p i) 1 0)

-- every number below n passes
unfoldable pub all_below : ℕ → (ℕ → Bool) → Bool
all_below zero p = true
all_below (suc n) p = p n && all_below n p

-- some number below n passes
unfoldable pub any_below : ℕ → (ℕ → Bool) → Bool
any_below zero p = false
any_below (suc n) p = p n || any_below n p

-- the set names only hosts below n
abbrev pub only_below : ℕ → ℕ → Bool
only_below n hosts = all_below 16 (λ j. nat_lt j n || not (has hosts j))

-- the set has only members below n
abbrev pub is_mask_of : ℕ → ℕ → Bool
is_mask_of n mask = nat_lt mask (2 ^ n)

-- the lowest number below n that passes
unfoldable pub lowest : ℕ → (ℕ → Bool) → Option ℕ
lowest zero p = None
lowest (suc n) p = option_or (lowest n p) (cond (p n) (Some n) None)

-- the list with f j for each host j that a mask can name
unfoldable pub per_host : {X : Type 0} → (ℕ → X) → List X
per_host f = map f (range_with_len 0 16)
