-- What the tests of a written rota say.
use Rattle.std.specs.Prelude.{Decides, ◌==◌, slice_index}
use Rattle.std.proofs.Common.{◌≡◌, ℕ, ◌<◌, ◌≤◌, Bool, true, false, ◌&&◌, eqb, ltb, List, ◌++◌, length, get_or, sym, refl, ap, ◌∙◌, arith}
use Rattle.std.specs.List.{IsAnyAnswer, list_all, list_any, range_with_len}
use Rattle.std.proofs.lemmas.Bool.{eqb-true, eq-eqb, ne_eqb, false≢true}
use Rattle.std.proofs.lemmas.Bool.Decides.{nat_tests}
use Rattle.std.proofs.lemmas.Grind.{get_or_default_zero}
use Rattle.std.proofs.lemmas.List.{get_or_append_left}
use Rattle.sets.specs.Sets.{all_below}
use Rattle.sets.proofs.Lists.{all_list, any_list, all_range}
use Rattle.sets.proofs.Tests.{all_cong, any_true, any_false, any_cong}
use Rattle.rota.specs.Cycles.{is_written, names, names_exactly}

-- a test of each element by `==`, read as the fact that it decides
pub decides_answer : (es : List ℕ) (h : ℕ) (r : Bool) → IsAnyAnswer (λ y t. (y == h) ≡ t) es r → IsAnyAnswer (λ y t. Decides t (y ≡ h)) es r
decides_answer es h true w = (w.0, w.1, λ d. (λ _. eqb-true _ h (w.2 d), λ _. refl))
decides_answer es h false w = λ k d from below. (λ e. absurd (false≢true e), λ e. absurd (false≢true (sym (w k d from below) ∙ eq-eqb _ h e)))

-- what `contains` answers
pub contains-names : (es : List ℕ) (h : ℕ) (r : Bool) → IsAnyAnswer (λ y t. Decides t (y ≡ h)) es r → r ≡ names es (length es) h
contains-names es h true w = sym (any_true (length es) (λ i. slice_index es i == h) w.0 w.1 (eq-eqb _ h ((w.2 0).0 refl)))
contains-names es h false w = sym (any_false (length es) (λ i. slice_index es i == h) (λ i l. ne_eqb _ h (λ e. false≢true ((w i 0 (omega arith) l).1 e))))

-- each entry is below n
pub below_list : (es : List ℕ) (n : ℕ) → list_all (λ x. ltb x n) es ≡ all_below (length es) (λ i. ltb (get_or es i 0) n)
below_list es n = all_list (λ x. ltb x n) (λ i. ltb (get_or es i 0) n) es (λ i d l. ap (λ (x : ℕ). ltb x n) (get_or_default_zero es i d l))

-- each host below n is named
pub names_list : (es : List ℕ) (n : ℕ) → list_all (λ h. list_any (λ x. eqb x h) es) (range_with_len 0 n) ≡ all_below n (names es (length es))
names_list es n =
    all_range n (λ h. list_any (λ x. eqb x h) es)
    ∙ all_cong n (λ h. list_any (λ x. eqb x h) es) (names es (length es)) (λ h _. any_list (λ x. eqb x h) (λ i. eqb (get_or es i 0) h) es (λ i d l. ap (λ (x : ℕ). eqb x h) (get_or_default_zero es i d l)))

-- what makes entries a rota
pub record Good (n : ℕ) (es : List ℕ) : Type 0 where
  pub hosts : (1 ≤ n) × (n ≤ 16)
  pub entries : (1 ≤ length es) × (length es ≤ 64)
  pub exact : names_exactly es (length es) n ≡ true

-- the tests, taken apart
pub good : (n : ℕ) (es : List ℕ) → is_written n es ≡ true → Good n es
good n es e = record {
  hosts = (grind (arith, nat_tests), grind (arith, nat_tests));
  entries = (grind (arith, nat_tests), grind (arith, nat_tests));
  exact = grind arith;
}

-- no entries name exactly no hosts
pub names_none : (es : List ℕ) → names_exactly es 0 0 ≡ true
unfolding all_below
names_none es = refl

-- only the first entries count
pub names_same : (es fs : List ℕ) (len : ℕ) → ((i : ℕ) → i < len → get_or fs i 0 ≡ get_or es i 0) → (n : ℕ) → names_exactly fs len n ≡ names_exactly es len n
names_same es fs len same n =
    let low = all_cong len (λ i. ltb (get_or fs i 0) n) (λ i. ltb (get_or es i 0) n) (λ i l. ap (λ (x : ℕ). ltb x n) (same i l)) in
    let each = all_cong n (names fs len) (names es len) (λ h _. any_cong len (λ i. eqb (get_or fs i 0) h) (λ i. eqb (get_or es i 0) h) (λ i l. ap (λ (x : ℕ). eqb x h) (same i l))) in
    λ i. low i && each i

-- so what stands behind the entries is not looked at
pub names_front : (es front rest : List ℕ) (n : ℕ) → front ≡ es → names_exactly (front ++ rest) (length es) n ≡ names_exactly es (length es) n
names_front es front rest n e = names_same es (front ++ rest) (length es) (λ i l. rw e (get_or_append_left es rest 0 i l)) n
