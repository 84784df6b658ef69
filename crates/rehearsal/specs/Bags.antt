-- The bags behind a setup, each after its byte count.
use Rattle.std.specs.Prelude.{ℕ, zero, suc, ◌+◌, Bool, true, false, cond, List, [], ◌∷◌, length, take, drop, nat_lt}
use Rattle.rehearsal.specs.declared.bags.BagCount.{BagCount}
use Rattle.parts.specs.Numbers.{word}

-- the whole bags, and whether bytes are missing in one more bag or its count
pub record Bags : Type 0 where
  pub whole : List (List ℕ)
  pub torn : Bool

-- one bag ahead of others
abbrev pub with_bag : List ℕ → Bags → Bags
with_bag b bags = record { whole = b ∷ bags.whole; torn = bags.torn }

-- the first k bags, or all that there are
unfoldable pub first_bags : ℕ → List ℕ → Bags
first_bags zero bs = record { whole = []; torn = false }
first_bags (suc k) bs =
    cond (nat_lt (length bs) 2) (record { whole = []; torn = nat_lt 0 (length bs) })
    (cond (nat_lt (length bs) (2 + word bs 0)) (record { whole = []; torn = true })
    (with_bag (take (word bs 0) (drop 2 bs)) (first_bags k (drop (2 + word bs 0) bs))))

-- all bags: there are fewer than bytes
abbrev pub bags_of : List ℕ → Bags
bags_of bs = first_bags (length bs) bs

-- how many they are
abbrev pub counted : Bags → BagCount
counted bags = record { whole = length bags.whole; torn = bags.torn }
