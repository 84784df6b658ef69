-- Laws of the tests over the numbers below a bound: every one passes, some one passes, the lowest that passes.
use Rattle.std.proofs.Common.{◌≡◌, ℕ, zero, suc, ◌+◌, ◌<◌, Bool, true, false, Some, None, sym, refl, ap, ◌⊎◌, ◌∙◌, subst, inl, inr, ⊎_elim, add-one, arith}
use Rattle.std.proofs.lemmas.Bool.{cases_Bool, cases_eq, true≢false, false≢true}
use Rattle.sets.specs.Sets.{all_below, any_below, lowest}

-- what holds below n, and of n, holds below n + 1
pub all_more : (n : ℕ) (p : ℕ → Bool) → p n ≡ true → all_below n p ≡ true → all_below (n + 1) p ≡ true
unfolding all_below
all_more n p e h = ap (λ (k : ℕ). all_below k p) (add-one n) ∙ rw (e, h)

-- what holds of each holds of all
pub all_true : (n : ℕ) (p : ℕ → Bool) → ((i : ℕ) → i < n → p i ≡ true) → all_below n p ≡ true
unfolding all_below
all_true zero p h = refl
all_true (suc n) p h = let a = all_true n p (λ i l. h i (omega arith)) in let b = h n (omega arith) in rw (b, a)

-- one that fails is enough
pub all_false : (n : ℕ) (p : ℕ → Bool) (i : ℕ) → i < n → p i ≡ false → all_below n p ≡ false
unfolding all_below
all_false zero p i l h = absurd (omega arith)
all_false (suc n) p i l h = ⊎_elim
    (λ e. let b : p n ≡ false = subst (λ (x : ℕ). p x ≡ false) e h in rw b)
    (λ o. let a = all_false n p i (omega arith) h in let c = cases_Bool (p n) in grind arith)
    (cases_eq i n)

-- what holds of all holds of each
pub all_each : (n : ℕ) (p : ℕ → Bool) → all_below n p ≡ true → (i : ℕ) → i < n → p i ≡ true
all_each n p h i l = ⊎_elim (λ e. e) (λ e. absurd (true≢false (sym h ∙ all_false n p i l e))) (cases_Bool (p i))

-- the same tests have the same answer
pub all_cong : (n : ℕ) (p q : ℕ → Bool) → ((i : ℕ) → i < n → p i ≡ q i) → all_below n p ≡ all_below n q
unfolding all_below
all_cong zero p q e = refl
all_cong (suc n) p q e = let a = all_cong n p q (λ i l. e i (omega arith)) in let b = e n (omega arith) in cc

-- one that passes is enough
pub any_true : (n : ℕ) (p : ℕ → Bool) (i : ℕ) → i < n → p i ≡ true → any_below n p ≡ true
unfolding any_below
any_true zero p i l h = absurd (omega arith)
any_true (suc n) p i l h = ⊎_elim
    (λ e. let b : p n ≡ true = subst (λ (x : ℕ). p x ≡ true) e h in rw b)
    (λ o. let a = any_true n p i (omega arith) h in let c = cases_Bool (p n) in grind arith)
    (cases_eq i n)

-- none passes
pub any_false : (n : ℕ) (p : ℕ → Bool) → ((i : ℕ) → i < n → p i ≡ false) → any_below n p ≡ false
unfolding any_below
any_false zero p h = refl
any_false (suc n) p h = let a = any_false n p (λ i l. h i (omega arith)) in let b = h n (omega arith) in rw (b, a)

-- where some number passes, one does
pub any_some : (n : ℕ) (p : ℕ → Bool) → any_below n p ≡ true → (i : ℕ) × (i < n) × (p i ≡ true)
unfolding any_below
any_some zero p h = absurd (false≢true h)
any_some (suc n) p h = ⊎_elim
    (λ a. (n, omega arith, a))
    (λ a. let w = any_some n p (grind arith) in (w.0, omega arith, w.2))
    (cases_Bool (p n))

-- the same tests have the same answer
pub any_cong : (n : ℕ) (p q : ℕ → Bool) → ((i : ℕ) → i < n → p i ≡ q i) → any_below n p ≡ any_below n q
unfolding any_below
any_cong zero p q e = refl
any_cong (suc n) p q e = let a = any_cong n p q (λ i l. e i (omega arith)) in let b = e n (omega arith) in cc

-- none passes
pub lowest_none : (n : ℕ) (p : ℕ → Bool) → ((i : ℕ) → i < n → p i ≡ false) → lowest n p ≡ None
unfolding lowest
lowest_none zero p h = refl
lowest_none (suc n) p h = let a = lowest_none n p (λ i l. h i (omega arith)) in let b = h n (omega arith) in rw (a, b)

-- the first that passes
pub lowest_some : (n : ℕ) (p : ℕ → Bool) (i : ℕ) → i < n → p i ≡ true → ((k : ℕ) → k < i → p k ≡ false) → lowest n p ≡ Some i
unfolding lowest
lowest_some zero p i l h e = absurd (omega arith)
lowest_some (suc n) p i l h e = ⊎_elim
    (λ eq. let a = lowest_none n p (λ k m. e k (omega arith)) in let b : p n ≡ true = subst (λ (x : ℕ). p x ≡ true) eq h in rw (a, b) (ap Some (sym eq)))
    (λ o. let a = lowest_some n p i (omega arith) h e in rw a)
    (cases_eq i n)

-- none passes, or there is a first that does
abbrev pub First : ℕ → (ℕ → Bool) → Type 0
First n p = ((k : ℕ) → k < n → p k ≡ false) ⊎ ((i : ℕ) × (i < n) × (p i ≡ true) × ((k : ℕ) → k < i → p k ≡ false))

pub find_first : (n : ℕ) (p : ℕ → Bool) → First n p
find_first zero p = inl (λ k l. absurd (omega arith))
find_first (suc n) p = elim (find_first n p) [
  | inr w ↦ inr (w.0, omega arith, w.2, w.3)
  | inl none ↦
      elim (cases_Bool (p n)) [
        | inl t ↦ inr (n, omega arith, t, none)
        | inr f ↦ inl (λ k l. ⊎_elim (λ e. ap p e ∙ f) (λ o. none k (omega arith)) (cases_eq k n))
      ]
]

-- what the lowest says
pub lowest_is : (n : ℕ) (p : ℕ → Bool) (i : ℕ) → lowest n p ≡ Some i → (i < n) × (p i ≡ true) × ((k : ℕ) → k < i → p k ≡ false)
lowest_is n p i e = elim (find_first n p) [
  | inl none ↦ let nothing = lowest_none n p none in absurd (cc)
  | inr w ↦ let found = lowest_some n p w.0 w.1 w.2 w.3 in let same : w.0 ≡ i = cc in subst (λ (k : ℕ). (k < n) × (p k ≡ true) × ((j : ℕ) → j < k → p j ≡ false)) same (w.1, w.2, w.3)
]
