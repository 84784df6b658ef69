-- Laws of masks and of lists with an item for each host.
use Rattle.std.proofs.Common.{◌≡◌, ℕ, zero, suc, ◌+◌, ◌*◌, ◌/◌, ◌%◌, ◌^◌, ◌<◌, ◌≤◌, false, cond, not, ◌&&◌, ◌||◌, eqb, ltb, List, length, get_or, sym, refl, ap, ◌∙◌, one-add, mod-eq_of_lt, arith, pow_mono}
use native.Mathlib.Nat.{mod-one}
use lib.Bits.{bit_and}
use lib.Count.{ones, ones_cat}
use Rattle.std.proofs.Math.Nat.{pow-succ'}
use Rattle.std.proofs.lemmas.Bool.{lt-ltb}
use Rattle.std.proofs.lemmas.Bool.Decides.{nat_tests}
use Rattle.std.proofs.lemmas.Nat.{pow_pos, mod-pow-add, mod_below}
use Rattle.std.proofs.lemmas.Nat.Bits.{shr_and_one, bit_at-lt, bit_at_above}
use Rattle.std.proofs.lemmas.List.FromFn.{fill_by_all, get_or-map-range_with_len}
use Rattle.sets.specs.Sets.{has, sum_below, all_below, count, only_below, is_mask_of, per_host}

-- what a shift and a mask of one bit read
pub has-shr : (m i : ℕ) → eqb (bit_and (m / 2 ^ i) 1) 1 ≡ has m i
unfolding has
has-shr m i = ap (λ (b : ℕ). eqb b 1) (shr_and_one m i)

-- a mask below 2 ^ n has no member from n on
pub has_past : (n m i : ℕ) → m < 2 ^ n → n ≤ i → has m i ≡ false
unfolding has
has_past n m i l h = ap (λ (b : ℕ). eqb b 1) (bit_at_above m n i l h)

-- a bit has as many ones as it is
ones_bit : (b : ℕ) → b < 2 → ones b ≡ cond (eqb b 1) 1 0
unfolding ones
ones_bit zero h = refl
ones_bit (suc zero) h = refl
ones_bit (suc (suc b)) h = absurd (omega arith)

-- the bits below n + 1 are bit n and those below it
split_mask : (n m : ℕ) → m % 2 ^ suc n ≡ (m / 2 ^ n % 2) * 2 ^ n + m % 2 ^ n
split_mask n m = ap (λ (k : ℕ). m % 2 ^ k) (sym (one-add n)) ∙ mod-pow-add m 1 n

-- what `count_ones` answers
pub ones-count : (n m : ℕ) → ones (m % 2 ^ n) ≡ count n (has m)
unfolding sum_below has ones
ones-count zero m = ap ones (mod-one m)
ones-count (suc n) m =
    let s = ap ones (split_mask n m) ∙ ones_cat n (m / 2 ^ n % 2) (m % 2 ^ n) (mod_below m (2 ^ n) (pow_pos n)) in
    let b = ones_bit (m / 2 ^ n % 2) (bit_at-lt m n) in
    let h = ones-count n m in grind arith

-- one more bit on top of the low ones
more_bit : (b low p lim k n : ℕ) → b < 2 → low < p → (k < n → 2 * p ≤ lim) → (n ≤ k → lim ≤ p) → (ltb k n || not (eqb b 1)) && ltb low lim ≡ ltb (b * p + low) lim
more_bit zero low p lim k n b l inside past = grind (arith, nat_tests)
more_bit (suc zero) low p lim k n b l inside past = grind (arith, nat_tests)
more_bit (suc (suc b)) low p lim k n h l inside past = absurd (omega arith)

-- the low k members are all below n if their mask is below 2 ^ n, and only then
pub only_below_is_mask : (k n m : ℕ) → all_below k (λ j. ltb j n || not (has m j)) ≡ ltb (m % 2 ^ k) (2 ^ n)
unfolding all_below has
only_below_is_mask zero n m = sym (lt-ltb (m % 1) (2 ^ n) (omega (arith, mod-one m, pow_pos n)))
only_below_is_mask (suc k) n m =
    let e = more_bit (m / 2 ^ k % 2) (m % 2 ^ k) (2 ^ k) (2 ^ n) k n (bit_at-lt m k) (mod_below m (2 ^ k) (pow_pos k))
    (λ l. omega (arith, pow-succ' 2 k, pow_mono {i = suc k} {j = n} l))
    (λ l. pow_mono l) in
    let h = only_below_is_mask k n m in
    let s = split_mask k m in
    cc

-- a set of hosts names only such below n where its mask is one of n
pub below_is_mask : (n hosts : ℕ) → hosts < 2 ^ 16 → only_below n hosts ≡ is_mask_of n hosts
below_is_mask n hosts l = only_below_is_mask 16 n hosts ∙ ap (λ (m : ℕ). ltb m (2 ^ n)) (mod-eq_of_lt l)

-- a list that was filled host by host
pub per_host_all : {X : Type 0} (f : ℕ → X) (d : X) (xs : List X) → length xs ≡ 16 → ((k : ℕ) → k < 16 → get_or xs k d ≡ f k) → xs ≡ per_host f
unfolding per_host
per_host_all f d xs e h = fill_by_all f xs 16 d e h

-- what it has for a host
pub get_or-per_host : {X : Type 0} (f : ℕ → X) (d : X) (j : ℕ) → j < 16 → get_or (per_host f) j d ≡ f j
unfolding per_host
get_or-per_host f d j l = get_or-map-range_with_len f 0 16 j j d l (omega arith)
