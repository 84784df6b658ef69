-- Laws of sums over the numbers below a bound.
use Rattle.std.proofs.Common.{◌≡◌, ℕ, zero, suc, ◌+◌, ◌*◌, ◌<◌, ◌≤◌, ◌≢◌, refl, ap, ⊎_elim, suc-mul, arith}
use Rattle.std.proofs.lemmas.Bool.{cases_eq}
use Rattle.sets.specs.Sets.{sum_below}

-- the same terms have the same sum
pub sum_cong : (n : ℕ) (f g : ℕ → ℕ) → ((i : ℕ) → i < n → f i ≡ g i) → sum_below n f ≡ sum_below n g
unfolding sum_below
sum_cong zero f g h = refl
sum_cong (suc n) f g h = omega (arith, sum_cong n f g (λ i l. h i (omega arith)), h n (omega arith))

-- one term is one more, and the others are the same
pub sum_more : (n : ℕ) (f g : ℕ → ℕ) (i : ℕ) → i < n → g i ≡ f i + 1 → ((j : ℕ) → j ≢ i → g j ≡ f j) → sum_below n g ≡ sum_below n f + 1
unfolding sum_below
sum_more zero f g i l here there = absurd (omega arith)
sum_more (suc n) f g i l here there = ⊎_elim
    (λ e. omega (arith, sum_cong n g f (λ j k. there j (omega arith)), ap f e, ap g e))
    (λ e. omega (arith, sum_more n f g i (omega arith) here there, there n e))
    (cases_eq n i)

-- terms of at most m have a sum of at most n times m
pub sum_le : (n : ℕ) (f : ℕ → ℕ) (m : ℕ) → ((i : ℕ) → f i ≤ m) → sum_below n f ≤ n * m
unfolding sum_below
sum_le zero f m h = omega arith
sum_le (suc n) f m h = omega (arith, sum_le n f m h, h n, suc-mul n m)

-- terms that are 0 have the sum 0
pub sum_none : (n : ℕ) (f : ℕ → ℕ) → ((i : ℕ) → f i ≡ 0) → sum_below n f ≡ 0
unfolding sum_below
sum_none zero f h = refl
sum_none (suc n) f h = omega (arith, sum_none n f h, h n)
